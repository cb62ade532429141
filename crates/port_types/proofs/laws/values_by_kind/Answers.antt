use Rattle.port_types.proofs.ValueLaws.{of_type_listed, listed_of_type}
use Rattle.port_types.proofs.laws.values_by_kind.Goals as goal

pub returns : goal.returns
returns c = λ t v. (listed_of_type t v, of_type_listed t v)
