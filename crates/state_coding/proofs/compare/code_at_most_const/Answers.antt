use Rattle.std.proofs.Common.{◌∙◌, length, sym, ap}
use Rattle.state_coding.proofs.AtomLaws.{length-constant_bits}
use Rattle.state_coding.proofs.compare.code_at_most_const.Goals as goal

pub gate_at_most_const-requires-clause-same : goal.gate_at_most_const-requires-clause-same
gate_at_most_const-requires-clause-same g c =
    sym (ap length (c.deref.ensures.value ∙ c.in_ok-bits.ensures.bits) ∙ length-constant_bits (length c.args.row.now) _)
