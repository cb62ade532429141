use Rattle.port_types.proofs.ValueLaws.{names_within}
use Rattle.port_types.proofs.types.PortType.lies_in.Goals as goal

pub returns-in-Enum-other : goal.returns-in-Enum-other
returns-in-Enum-other c =
    names_within _ _ _ _ _ _ _ c.in-Enum.is c.in-Enum-other.is c.as_slice.ensures c.as_slice-in-Enum-other.ensures c.are_among.ensures
