-- A step of the tableau in clauses: where a literal `under` holds, the one layer steps to the other. There is no new
-- variable. The clauses are, bit by bit, that the next valuation of the one is the valuation of the other; then, for
-- each Next in closure order, that it is in the one exactly where its operand is in the other.

use Rattle.std.specs.Prelude.{ℕ, ◌+◌, List, [], ◌∷◌, ◌++◌}
use Rattle.core_ltl.specs.declared.node.Node.{Node}
use Rattle.core_ltl.specs.declared.node.Node.TheVariants as node
use Rattle.cnf.specs.declared.lit.Lit.{Lit}
use Rattle.cnf.specs.Clauses.{opposite}
use Rattle.tableau.specs.TableauStates.{ClosureOverPorts}
use Rattle.tableau.specs.Copies.{LayerLits, member_literal}

-- where `under` holds the two literals have the same value
abbrev pub same_clauses : Lit → Lit → Lit → List (List Lit)
same_clauses under x y = (opposite under ∷ opposite x ∷ y ∷ []) ∷ (opposite under ∷ x ∷ opposite y ∷ []) ∷ []

abbrev pub same_row_clauses : Lit → List Lit → List Lit → List (List Lit)
same_row_clauses under (x ∷ a) (y ∷ b) = same_clauses under x y ++ same_row_clauses under a b
same_row_clauses under _ _ = []

abbrev pub same_state_clauses : Lit → List (List Lit) → List (List Lit) → List (List Lit)
same_state_clauses under (a ∷ bits) (b ∷ others) = same_row_clauses under a b ++ same_state_clauses under bits others
same_state_clauses under _ _ = []

-- node n where it is a Next
abbrev pub next_clauses : Lit → LayerLits → LayerLits → ℕ → Node → List (List Lit)
next_clauses under from to n (node.Next k) = same_clauses under (member_literal from n) (member_literal to k.0)
next_clauses under from to n _ = []

abbrev pub nexts_clauses : Lit → LayerLits → LayerLits → ℕ → List Node → List (List Lit)
nexts_clauses under from to n [] = []
nexts_clauses under from to n (x ∷ nodes) =
    next_clauses under from to n x ++ nexts_clauses under from to (n + 1) nodes

abbrev pub step_clauses : ClosureOverPorts → LayerLits → LayerLits → Lit → List (List Lit)
step_clauses t from to under =
    same_state_clauses under from.next_bits to.bits ++ nexts_clauses under from to 0 t.closure.nodes
