use Rattle.std.proofs.Common.{◌≡◌, ◌∙◌, sym, ap, w32, to_z, of_z, rules}
use Rattle.std.proofs.lemmas.Int.{to_z-of_z}
use Rattle.std.specs.Int.Count.{count_leading_zeros}
use Rattle.levels.proofs.Counting.{count_of_range}
use Rattle.state_coding.specs.Codes.{bit_count, type_bits}
use Rattle.levels.proofs.limits.type_bits.Goals as goal

pub returns-in-Bool-clause-bits : goal.returns-in-Bool-clause-bits
unfolding count_leading_zeros
returns-in-Bool-clause-bits c = ap type_bits (sym c.in-Bool.is)

pub returns-in-Range-clause-bits : goal.returns-in-Range-clause-bits
returns-in-Range-clause-bits c =
    let lo_is : to_z w32 (of_z w32 c.in-Range.lo) ≡ c.in-Range.lo = to_z-of_z w32 _ (search rules) in
    let hi_is : to_z w32 (of_z w32 c.in-Range.hi) ≡ c.in-Range.hi = to_z-of_z w32 _ (search rules) in
    c.bits_for.ensures
    ∙ ap bit_count ((rw (lo_is, hi_is) at c.count_of_range.ensures) ∙ sym (count_of_range c.args.kind.now c.in-Range.lo c.in-Range.hi c.in-Range.is))
