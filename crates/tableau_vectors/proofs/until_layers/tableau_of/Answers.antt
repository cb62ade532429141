use Rattle.typed_ltl.specs.Formulas.{meaning}
use Rattle.core_ltl.specs.CoreFormulas.{core_form}
use Rattle.tableau_vectors.proofs.SoleFormulas.{sole_reads}
use Rattle.tableau_vectors.proofs.until_layers.tableau_of.Goals as goal

pub new-requires-clause-atoms : goal.new-requires-clause-atoms
new-requires-clause-atoms c =
    sole_reads _ _ _ _ (core_form (meaning c.args.f.now)) c.new-closure.ensures.nodes c.new-closure.ensures.atoms c.in_ok-desugar_within.ensures.order c.requires.atoms
