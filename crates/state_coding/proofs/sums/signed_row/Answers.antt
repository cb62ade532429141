use Rattle.std.proofs.Common.{◌∙◌}
use Rattle.state_coding.proofs.SumSteps.{signed_end}
use Rattle.state_coding.proofs.sums.signed_row.Goals as goal

pub returns : goal.returns
returns c =
    c.from_vec.ensures
    ∙ signed_end c.args.bits.now c.in_ok-row.row.items _ c.negated.result c.if-bits-eq0.false
    (c.in_ok-row.ensures.items_if_clones_equal (λ x y h. h)) c.negated.ensures
