use Rattle.std.proofs.Common.{◌∙◌, length, sym, ap}
use Rattle.state_coding.proofs.RowLaws.{match-within}
use Rattle.state_coding.proofs.AtomLaws.{length-constant_bits}
use Rattle.state_coding.proofs.compare.code_is_const.Goals as goal

pub match_lits-requires : goal.match_lits-requires
match_lits-requires g c =
    sym (ap length (c.deref.ensures.value ∙ c.in_ok-bits.ensures.bits) ∙ length-constant_bits (length c.args.row.now) _)

pub gate_all-requires : goal.gate_all-requires
gate_all-requires g c =
    rw (c.deref-2.ensures.value, c.in_ok-lits.ensures) (match-within _ c.args.row.now _ c.requires)
