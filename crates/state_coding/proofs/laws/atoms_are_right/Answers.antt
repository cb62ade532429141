use Rattle.state_coding.proofs.AtomTruth.{atom_is}
use Rattle.state_coding.proofs.laws.atoms_are_right.Goals as goal

pub returns : goal.returns
returns c = atom_is c.gates_are_right.ensures
