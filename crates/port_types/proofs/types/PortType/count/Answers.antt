use Rattle.std.proofs.Common.{◌≡◌, ◌∙◌, sym, w32, to_z, of_z, rules}
use Rattle.std.proofs.lemmas.Int.{to_z-of_z}
use Rattle.port_types.proofs.ValueLaws.{count_of_range}
use Rattle.port_types.proofs.types.PortType.count.Goals as goal

pub returns-in-Range : goal.returns-in-Range
returns-in-Range c =
    let lo_is : to_z w32 (of_z w32 c.in-Range.lo) ≡ c.in-Range.lo = to_z-of_z w32 _ (search rules) in
    let hi_is : to_z w32 (of_z w32 c.in-Range.hi) ≡ c.in-Range.hi = to_z-of_z w32 _ (search rules) in
    (rw (lo_is, hi_is) at c.count_of_range.ensures) ∙ sym (count_of_range c.args.self.now c.in-Range.lo c.in-Range.hi c.in-Range.is)
