-- Laws of closures: each node stands for one core formula, each core formula has one node at most, and a formula that
-- has a node already adds nothing.
use Rattle.std.specs.Prelude.{◌≡◌, ℕ, ◌<◌, length}
use Rattle.core_ltl.specs.declared.node.NodeId.{NodeId}
use Rattle.core_ltl.specs.CoreFormulas.{Core}
use Rattle.core_ltl.specs.Nodes.{Members, StandsFor, IsClosure}
use Rattle.core_ltl.specs.Order.{after_formula}

abbrev pub NodesStandForFormulas : Type 0
NodesStandForFormulas = (m : Members) → IsClosure m → (n : ℕ) → n < length m.nodes → (f : Core) × StandsFor m n f

abbrev pub NodesStandForOneFormula : Type 0
NodesStandForOneFormula = (m : Members) (n : ℕ) (f g : Core) → StandsFor m n f → StandsFor m n g → f ≡ g

abbrev pub FormulasHaveOneNode : Type 0
FormulasHaveOneNode = (m : Members) → IsClosure m
    → (f : Core) (n k : ℕ) → StandsFor m n f → StandsFor m k f → n ≡ k

abbrev pub FormulasAreAddedOnce : Type 0
FormulasAreAddedOnce = (m : Members) → IsClosure m
    → (f : Core) (n : NodeId) → StandsFor m n.0 f → after_formula m f ≡ (m, n)
