-- The fairness conditions of a tableau are those of its untils.
use Rattle.std.proofs.Common.{◌≡◌, ℕ, zero, suc, ◌+◌, List, [], ◌∷◌, map, length, Option, Some, None, slice_get, refl, sym, ap, ◌∙◌, subst}
use Rattle.std.proofs.Common.{arith}
use Rattle.std.specs.Prelude.{All, Contains}
use Rattle.std.proofs.lemmas.List.{length-map, get_or-map}
use Rattle.std.proofs.lemmas.List.Elements.{All-nil, All-cons, All-append, All-map, Contains-append_left, Contains-append_right}
use Rattle.std.proofs.lemmas.Option.{none-some, same_Some}
use Rattle.core_ltl.specs.declared.node.NodeId.{NodeId}
use Rattle.core_ltl.specs.declared.node.Node.{Node}
use Rattle.core_ltl.specs.declared.node.Node.TheVariants as node
use Rattle.tableau.specs.TableauStates.{ClosureOverPorts, until_at, untils_from, or_true, fairness}

-- an until of these nodes with its right side
abbrev pub IsUntilOf : List Node → NodeId × NodeId → Type 0
IsUntilOf nodes u = (k : NodeId) × (slice_get nodes u.0.0 ≡ Some (node.Until k u.1))

-- a condition of an until of these nodes, or the condition True
abbrev pub IsConditionOf : List Node → Option (NodeId × NodeId) → Type 0
IsConditionOf nodes None = Unit {0}
IsConditionOf nodes (Some u) = IsUntilOf nodes u

until_is : (nodes : List Node) (n : ℕ) (x : Node) → slice_get nodes n ≡ Some x → All (IsUntilOf nodes) (until_at n x)
until_is nodes n node.True e = All-nil (IsUntilOf nodes)
until_is nodes n (node.Atom a) e = All-nil (IsUntilOf nodes)
until_is nodes n (node.Not k) e = All-nil (IsUntilOf nodes)
until_is nodes n (node.And k l) e = All-nil (IsUntilOf nodes)
until_is nodes n (node.Next k) e = All-nil (IsUntilOf nodes)
until_is nodes n (node.Until k l) e = All-cons (IsUntilOf nodes) (record { 0 = n }, l) [] (k, e) (All-nil (IsUntilOf nodes))

untils_are : (whole nodes : List Node) (n : ℕ) → ((i : ℕ) (x : Node) → slice_get nodes i ≡ Some x → slice_get whole (n + i) ≡ Some x)
    → All (IsUntilOf whole) (untils_from n nodes)
untils_are whole [] n same = All-nil (IsUntilOf whole)
untils_are whole (x ∷ nodes) n same =
    let first : n + 0 ≡ n = omega arith in
    All-append (IsUntilOf whole) (until_at n x) (untils_from (n + 1) nodes)
    (until_is whole n x (subst (λ i. slice_get whole i ≡ Some x) first (same 0 x refl)))
    (untils_are whole nodes (n + 1) (λ i y e.
    let on : n + suc i ≡ (n + 1) + i = omega arith in
    subst (λ k. slice_get whole k ≡ Some y) on (same (suc i) y e)))

conditions_of : (nodes : List Node) (untils : List (NodeId × NodeId)) → All (IsUntilOf nodes) untils
    → All (IsConditionOf nodes) (or_true untils)
conditions_of nodes [] h = All-cons (IsConditionOf nodes) None [] tt (All-nil (IsConditionOf nodes))
conditions_of nodes (u ∷ untils) h = All-map (IsConditionOf nodes) Some (u ∷ untils) h

pub conditions_are : (t : ClosureOverPorts) → All (IsConditionOf t.closure.nodes) (fairness t)
conditions_are t =
    let nodes = t.closure.nodes in
    conditions_of nodes (untils_from 0 nodes) (untils_are nodes nodes 0 (λ i x e.
    let start : i ≡ 0 + i = omega arith in
    subst (λ (k : ℕ). slice_get nodes k ≡ Some x) start e))

until_listed : (n : ℕ) (x : Node) (k l : NodeId) → x ≡ node.Until k l → Contains (until_at n x) (record { 0 = n }, l)
until_listed n x k l e = subst (λ y. Contains (until_at n y) (record { 0 = n }, l)) (sym e) (0, omega arith, refl)

untils_listed : (nodes : List Node) (n i : ℕ) (k l : NodeId) → slice_get nodes i ≡ Some (node.Until k l)
    → Contains (untils_from n nodes) (record { 0 = n + i }, l)
untils_listed [] n i k l e = absurd (none-some (node.Until k l) e)
untils_listed (x ∷ nodes) n zero k l e =
    let first : n ≡ n + 0 = omega arith in
    Contains-append_left (until_at n x) (untils_from (n + 1) nodes) (record { 0 = n + 0 }, l)
    (subst (λ m. Contains (until_at n x) (record { 0 = m }, l)) first (until_listed n x k l (same_Some x (node.Until k l) e)))
untils_listed (x ∷ nodes) n (suc i) k l e =
    let on : (n + 1) + i ≡ n + suc i = omega arith in
    Contains-append_right (until_at n x) (untils_from (n + 1) nodes) (record { 0 = n + suc i }, l)
    (subst (λ m. Contains (untils_from (n + 1) nodes) (record { 0 = m }, l)) on (untils_listed nodes (n + 1) i k l e))

condition_listed : (untils : List (NodeId × NodeId)) (u : NodeId × NodeId) → Contains untils u → Contains (or_true untils) (Some u)
condition_listed [] u h = absurd (omega (arith, h.1))
condition_listed (v ∷ untils) u h =
    let long : length (map Some (v ∷ untils)) ≡ length (v ∷ untils) = length-map (v ∷ untils) Some in
    (h.0, omega (arith, long, h.1), get_or-map Some (v ∷ untils) h.0 u (Some u) h.1 ∙ ap Some h.2)

pub conditions_listed : (t : ClosureOverPorts) (n : ℕ) (k l : NodeId) → slice_get t.closure.nodes n ≡ Some (node.Until k l)
    → Contains (fairness t) (Some (record { 0 = n }, l))
conditions_listed t n k l e =
    let start : 0 + n ≡ n = omega arith in
    let listed : Contains (untils_from 0 t.closure.nodes) (record { 0 = n }, l) =
    subst (λ (m : ℕ). Contains (untils_from 0 t.closure.nodes) (record { 0 = m }, l)) start (untils_listed t.closure.nodes 0 n k l e) in
    condition_listed (untils_from 0 t.closure.nodes) (record { 0 = n }, l) listed
