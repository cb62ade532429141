-- The fairness conditions of a tableau are those of its untils, and each progress has one whose turn it is.
use Rattle.std.proofs.Common.{◌≡◌, ℕ, suc, ◌+◌, ◌%◌, List, [], ◌∷◌, length, get_or, Option, Some, None, slice_get, inl, inr, refl, sym, subst}
use Rattle.std.proofs.Common.{arith}
use Rattle.std.specs.Prelude.{All}
use Rattle.std.proofs.lemmas.Bool.{cases_lt}
use Rattle.std.proofs.lemmas.List.{get_or_past}
use Rattle.std.proofs.lemmas.List.Elements.{All-nil, All-cons, All-append, All-map}
use Rattle.core_ltl.specs.declared.node.NodeId.{NodeId}
use Rattle.core_ltl.specs.declared.node.Node.{Node}
use Rattle.core_ltl.specs.declared.node.Node.TheVariants as node
use Rattle.tableau.specs.TableauStates.{ClosureOverPorts, until_at, untils_from, or_true, fairness}

-- an until of these nodes with its right side
abbrev pub IsUntilOf : List Node → NodeId × NodeId → Type 0
IsUntilOf nodes u = (k : NodeId) × (slice_get nodes u.0.0 ≡ Some (node.Until k u.1))

-- a condition of an until of these nodes, or the condition True
abbrev pub IsConditionOf : List Node → Option (NodeId × NodeId) → Type 0
IsConditionOf nodes None = Unit {0}
IsConditionOf nodes (Some u) = IsUntilOf nodes u

until_is : (nodes : List Node) (n : ℕ) (x : Node) → slice_get nodes n ≡ Some x → All (IsUntilOf nodes) (until_at n x)
until_is nodes n node.True e = All-nil (IsUntilOf nodes)
until_is nodes n (node.Atom a) e = All-nil (IsUntilOf nodes)
until_is nodes n (node.Not k) e = All-nil (IsUntilOf nodes)
until_is nodes n (node.And k l) e = All-nil (IsUntilOf nodes)
until_is nodes n (node.Next k) e = All-nil (IsUntilOf nodes)
until_is nodes n (node.Until k l) e = All-cons (IsUntilOf nodes) (record { 0 = n }, l) [] (k, e) (All-nil (IsUntilOf nodes))

untils_are : (whole nodes : List Node) (n : ℕ) → ((i : ℕ) (x : Node) → slice_get nodes i ≡ Some x → slice_get whole (n + i) ≡ Some x)
    → All (IsUntilOf whole) (untils_from n nodes)
untils_are whole [] n same = All-nil (IsUntilOf whole)
untils_are whole (x ∷ nodes) n same =
    let first : n + 0 ≡ n = omega arith in
    All-append (IsUntilOf whole) (until_at n x) (untils_from (n + 1) nodes)
    (until_is whole n x (subst (λ i. slice_get whole i ≡ Some x) first (same 0 x refl)))
    (untils_are whole nodes (n + 1) (λ i y e.
    let on : n + suc i ≡ (n + 1) + i = omega arith in
    subst (λ k. slice_get whole k ≡ Some y) on (same (suc i) y e)))

conditions_of : (nodes : List Node) (untils : List (NodeId × NodeId)) → All (IsUntilOf nodes) untils
    → All (IsConditionOf nodes) (or_true untils)
conditions_of nodes [] h = All-cons (IsConditionOf nodes) None [] tt (All-nil (IsConditionOf nodes))
conditions_of nodes (u ∷ untils) h = All-map (IsConditionOf nodes) Some (u ∷ untils) h

conditions_are : (t : ClosureOverPorts) → All (IsConditionOf t.closure.nodes) (fairness t)
conditions_are t =
    let nodes = t.closure.nodes in
    conditions_of nodes (untils_from 0 nodes) (untils_are nodes nodes 0 (λ i x e.
    let start : i ≡ 0 + i = omega arith in
    subst (λ (k : ℕ). slice_get nodes k ≡ Some x) start e))

-- the condition whose turn it is at this progress
abbrev pub turn_at : ClosureOverPorts → ℕ → Option (NodeId × NodeId)
turn_at t p = get_or (fairness t) (p % length (fairness t)) None

pub turn_is : (t : ClosureOverPorts) (p : ℕ) → IsConditionOf t.closure.nodes (turn_at t p)
turn_is t p =
    let i = p % length (fairness t) in
    elim (cases_lt i (length (fairness t))) [
      | inl h ↦ conditions_are t i None h
      | inr h ↦ subst (IsConditionOf t.closure.nodes) (sym (get_or_past (fairness t) i None h)) tt
    ]
