use Rattle.std.proofs.Common.{◌∙◌, length, sym, ap}
use Rattle.state_coding.proofs.AtomLaws.{length-constant_bits}
use Rattle.state_coding.proofs.names.place_lits.Goals as goal

pub match_lits-requires : goal.match_lits-requires
match_lits-requires c =
    sym (ap length (c.deref.ensures.value ∙ c.in_ok-digits.ensures.bits) ∙ length-constant_bits (length c.args.row.now) _)
