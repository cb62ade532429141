use Rattle.std.proofs.Common.{arith}
use Rattle.spec_limits.proofs.LimitLemmas.{says_past, says_within}
use Rattle.spec_limits.proofs.instances.has_too_many.Goals as goal

pub returns-then-len-counted : goal.returns-then-len-counted
returns-then-len-counted c =
    let len = c.len.ensures in
    let full = c.if-len-counted.true in
    says_past c.args.refinements.now c.args.root c.count.counted c.in-Some.place c.count.waiting.items c.pop.new.self.items c.in-Some.ensures.items
    (omega (arith, len, full)) c.count.invariant

pub returns : goal.returns
returns c =
    let none = c.in_default.ensures.cases.0 in
    let kept = c.count.waiting.ok.0 in
    says_within c.args.refinements.now c.args.root c.count.counted c.count.waiting.items (omega (arith, none, kept)) c.count.invariant
