use Rattle.tableau_vectors.proofs.SoleFormulas.{then_reads}
use Rattle.tableau_vectors.proofs.until_layers.then_tableau.Goals as goal

pub tableau_of-requires-clause-atoms : goal.tableau_of-requires-clause-atoms
tableau_of-requires-clause-atoms c = then_reads _ _ c.in_ok-ports.ensures c.in_ok-f.ensures
