use Rattle.std.proofs.Common.{◌≡◌, ◌<◌, ◌∙◌, sym, ap, length, get_or, arith, w32, w64, to_z, of_z, FitsSigned, rules}
use Rattle.std.specs.Prelude.{ℤ, pos, ◌+ℤ◌, Some}
use Rattle.std.proofs.lemmas.Int.{ints}
use Rattle.port_types.specs.declared.types.Value.TheVariants as value
use Rattle.port_types.proofs.ValueLaws.{value_of_range, value_of_names}
use Rattle.port_types.proofs.types.PortType.value.Goals as goal

pub returns-in-Range-clause-value : goal.returns-in-Range-clause-value
returns-in-Range-clause-value c =
    let lo_fits : FitsSigned w32 c.in-Range.lo = search rules in
    let fits : FitsSigned w64 c.number_at.result = search rules in
    let is : to_z w64 (of_z w64 c.number_at.result) ≡ c.in-Range.lo +ℤ pos c.args.index = omega (arith, ints) in
    ap (λ (z : ℤ). Some (value.Int z)) is
    ∙ value_of_range c.args.self.now c.in-Range.lo c.in-Range.hi c.args.index c.in-Range.is (omega (arith, c.count.ensures, c.if-index-count.false))

pub returns-in_ok-name-in-Enum-clause-value : goal.returns-in_ok-name-in-Enum-clause-value
returns-in_ok-name-in-Enum-clause-value c =
    let copied : c.in_ok-name-in-Enum.name ≡ c.index-as_slice-index.result = c.in_ok-name-in-Enum.ensures in
    let is : c.in_ok-name-in-Enum.name ≡ get_or c.in-Enum.names c.args.index c.in_ok-name-in-Enum.name = cc in
    value_of_names c.args.self.now c.in-Enum.names c.args.index c.in_ok-name-in-Enum.name c.in-Enum.is (omega (arith, c.count.ensures, c.if-index-count.false))
    is
