-- places in the closure, and literals of members by their places
use Rattle.std.proofs.Common.{◌≡◌, ◌+◌, ◌<◌, ◌≤◌, ℕ, zero, suc, Bool, true, false, Some, List, [], ◌∷◌, ◌++◌, length, drop, get_or}
use Rattle.std.proofs.Common.{refl, sym, ◌∙◌, ap, arith, length-append, subst}
use Rattle.std.specs.Prelude.{nat_lt, slice_get, map}
use Rattle.std.specs.List.{All, list_any}
use Rattle.std.proofs.lemmas.Bool.{and_parts, or_cases, false≢true}
use Rattle.std.proofs.Common.{⊎_elim}
use Rattle.std.proofs.lemmas.Bool.Decides.{nat_tests}
use Rattle.std.proofs.lemmas.List.{get_or_append_left, get_or-map}
use Rattle.std.proofs.lemmas.Option.{same_Some, none-some}
use Rattle.std.proofs.Math.Seq.{get_or-append_seam}
use Rattle.core_ltl.specs.declared.node.NodeId.{NodeId}
use Rattle.core_ltl.specs.declared.node.Node.{Node}
use Rattle.core_ltl.specs.declared.node.Node.TheVariants as node
use Rattle.core_ltl.specs.Nodes.{Members, IsClosure, members, node_eq, has_node, operands_before}
use Rattle.core_ltl.specs.NodeHash.{node_sound}
use Rattle.cnf.specs.declared.lit.Lit.{Lit}
use Rattle.cnf.specs.Clauses.{lit_holds, lit_values}
use Rattle.cnf.specs.Gates.{literal}
use Rattle.tableau.specs.TableauStates.{ClosureOverPorts, CanBeCoded, TableauState, has_member}
use Rattle.tableau.specs.Copies.{LayerLits, member_literal, with_member, layer_state}
use Rattle.tableau.specs.Parts.{is_until}

pub below : (a b : ℕ) → nat_lt a b ≡ true → a < b
below a b h = grind (arith, nat_tests)

-- the first of what is left stands at the place so far
pub first_left : {X : Type 0} (xs : List X) (i : ℕ) (x : X) (rest : List X) → drop i xs ≡ x ∷ rest → slice_get xs i ≡ Some x
first_left [] zero x rest e = absurd (none-some x (ap (λ l. slice_get l 0) e))
first_left [] (suc i) x rest e = absurd (none-some x (ap (λ l. slice_get l 0) e))
first_left (y ∷ xs) zero x rest e = ap (λ l. slice_get l 0) e
first_left (y ∷ xs) (suc i) x rest e = first_left xs i x rest e

pub rest_left : {X : Type 0} (xs : List X) (i : ℕ) (x : X) (rest : List X) → drop i xs ≡ x ∷ rest → drop (suc i) xs ≡ rest
rest_left [] zero x rest e = absurd (none-some x (ap (λ l. slice_get l 0) e))
rest_left [] (suc i) x rest e = absurd (none-some x (ap (λ l. slice_get l 0) e))
rest_left (y ∷ xs) zero x rest e = ap (drop 1) e
rest_left (y ∷ xs) (suc i) x rest e = rest_left xs i x rest e

-- a node that is there has a place
pub has_place : (nodes : List Node) (x : Node) → list_any (node_eq x) nodes ≡ true → (p : ℕ) × (slice_get nodes p ≡ Some x)
has_place [] x h = absurd (false≢true h)
has_place (y ∷ nodes) x h =
    ⊎_elim
    (λ (here : node_eq x y ≡ true). (0, ap Some (sym (node_sound x y here))))
    (λ (there : list_any (node_eq x) nodes ≡ true). let p = has_place nodes x there in (suc p.0, p.1))
    (or_cases (node_eq x y) (list_any (node_eq x) nodes) h)

-- what is no until
pub record IsNoUntil (x : Node) : Type 0 where
  pub differs : (k l : NodeId) → x ≡ node.Until k l → ⊥

pub no_until : (x : Node) → is_until x ≡ false → IsNoUntil x
no_until x h = record { differs = λ k l e. false≢true (sym h ∙ ap is_until e) }

-- ---- literals of members

pub older_literal : (layer : LayerLits) (lit : Lit) (k : ℕ) → k < length layer.members
    → member_literal (with_member layer lit) k ≡ member_literal layer k
older_literal layer lit k h = get_or_append_left layer.members (lit ∷ []) (literal 0) k h

pub last_literal : (layer : LayerLits) (lit : Lit) → member_literal (with_member layer lit) (length layer.members) ≡ lit
last_literal layer lit = get_or-append_seam layer.members lit [] (literal 0)

pub members_more : (layer : LayerLits) (lit : Lit) → length (with_member layer lit).members ≡ length layer.members + 1
members_more layer lit = length-append layer.members (lit ∷ [])

pub member_value : (model : List Bool) (t : ClosureOverPorts) (layer : LayerLits) (n : ℕ) → n < length layer.members
    → has_member (layer_state model t layer) n ≡ lit_holds model (member_literal layer n)
member_value model t layer n h = get_or-map (lit_holds model) layer.members n (literal 0) false h
