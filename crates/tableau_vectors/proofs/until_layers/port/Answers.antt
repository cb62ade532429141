use Rattle.typed_ltl.proofs.Meanings.{meaning-Atom}
use Rattle.tableau_vectors.proofs.until_layers.port.Goals as goal

pub returns : goal.returns
returns c = meaning-Atom _
