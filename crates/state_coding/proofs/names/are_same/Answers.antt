use Rattle.std.proofs.Common.{◌∙◌, true, sym, arith}
use Rattle.std.specs.Str.{bytes_eq}
use Rattle.std.specs.Cmp.Lexicographic.{unequal}
use Rattle.state_coding.proofs.NameSteps.{equal_names, names_compared, names_ended}
use Rattle.state_coding.proofs.names.are_same.Goals as goal

pub returns-then-names-others : goal.returns-then-names-others
returns-then-names-others c = sym (unequal bytes_eq c.args.names.now c.args.others.now (λ e. c.if-names-others.true e))

pub loop-i-preserved : goal.loop-i-preserved
loop-i-preserved c =
    names_compared c.args.names.now c.args.others.now c.loop-i.i c.index-names-i.result c.index-others-i.result true _
    (omega (arith, c.loop-i-test.true)) (omega (arith, c.loop-i-test.true))
    (equal_names _ _ _ _ (c.as_str.ensures ∙ c.index-names-i.is) (c.as_str-in-loop-i.ensures ∙ c.index-others-i.is) c.if-ne.ensures)
    c.loop-i.invariant

pub returns : goal.returns
returns c =
    sym (names_ended c.args.names.now c.args.others.now c.loop-i.i _ (omega (arith, c.loop-i-test.false))
    (omega (arith, c.loop-i-test.false)) c.loop-i.invariant)
