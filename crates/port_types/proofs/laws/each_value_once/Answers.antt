use Rattle.std.proofs.Common.{◌≡◌, ◌≢◌, List, ℕ, subst}
use Rattle.std.specs.Prelude.{AllPairs}
use Rattle.port_types.specs.declared.types.PortType.TheVariants as kind
use Rattle.port_types.specs.Types.{IsDeclarable}
use Rattle.port_types.proofs.ValueLaws.{values_once}
use Rattle.port_types.proofs.laws.each_value_once.Goals as goal

pub returns : goal.returns
returns c = λ t well. values_once t (λ names is. (subst IsDeclarable is well).1)
