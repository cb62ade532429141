use Rattle.std.proofs.Common.{◌≡◌, ◌<◌, ◌+◌, ◌^◌, ℕ, Bool, List, [], length, take, arith, ap, sym, subst, ◌∙◌}
use Rattle.std.proofs.lemmas.List.{length-take}
use Rattle.sat_core.specs.Numbering.{AllNeeded}
use Rattle.sat_core.proofs.Logs.{IsChainOf, derived_numbers, derived_below, log_done}
use Rattle.sat_core.proofs.log.render.Goals as goal

pub needed-requires-clause-before : goal.needed-requires-clause-before
needed-requires-clause-before c = λ place none h.
    let learnt = c.args.learnt.now in
    let h2 : place < length learnt = omega (arith, c.requires.derived.same) in
    derived_below c.args.added.now (take place learnt) [] place _ _ _ (omega (arith, length-take place learnt)) (c.requires.derived.each place none h2)

pub needed-requires-clause-last : goal.needed-requires-clause-last
needed-requires-clause-last c =
    derived_below c.args.added.now c.args.learnt.now c.args.assumed.now (length c.args.derivations.now) _ _ _
    (omega (arith, c.requires.derived.same)) c.requires.last

pub chain-requires : goal.chain-requires
chain-requires c =
    let added = c.args.added.now in
    let n = c.in_ok-log.ensures in
    let last = c.args.last.now in
    let small : length added + length c.args.assumed.now < 2 ^ 64 = omega arith in
    let same : c.as_slice-2.result.now ≡ c.in_ok-log.field-0.numbers.items = cc in
    let len : length c.as_slice-2.result.now ≡ length c.args.learnt.now = ap length same ∙ n.counted in
    derived_numbers added c.args.learnt.now c.args.assumed.now c.as_slice-2.result.now last.first last.rest.items []
    (omega (arith, len)) small c.requires.last

pub returns : goal.returns
returns c =
    let last = c.args.last.now in
    let same : c.as_slice-2.result.now ≡ c.in_ok-log.field-0.numbers.items = cc in
    let need = subst (λ (l : List Bool). AllNeeded l last.first last.rest.items) (sym c.as_slice.ensures.value) c.in_ok-needed.ensures.last in
    let e = c.in_ok-end.ensures in
    log_done c.args.added.now c.args.learnt.now c.args.assumed.now c.as_slice.result.now c.in_ok-log.field-0.numbers.items
    c.in_ok-log.field-0.log c.push.new.self c.in_ok-end.end last.first last.rest.items c.in_ok-log.ensures need c.requires.last
    (subst (λ (l : List ℕ). IsChainOf (length c.args.added.now) l [] last.first last.rest.items c.in_ok-end.end) same
    (record { clause_is = e.clause; first_is = e.first; rest_is = e.rest })) c.in_ok-push.ensures.ok
