use Rattle.port_types.proofs.BitLaws.{same_sets}
use Rattle.port_types.proofs.laws.sets_by_members.Goals as goal

pub returns : goal.returns
returns c = λ s t h. same_sets s t h
