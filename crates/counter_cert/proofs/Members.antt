-- The fairness conditions of a tableau are those of its untils, and what the literals of a layer say of its state.
use Rattle.std.proofs.Common.{◌≡◌, ℕ, zero, suc, ◌+◌, ◌<◌, Bool, true, false, not, cond, ◌||◌, List, [], ◌∷◌, map, length, get_or}
use Rattle.std.proofs.Common.{Option, Some, None, slice_get, ltb, refl, sym, ap, ◌∙◌, subst, arith}
use Rattle.std.specs.Prelude.{All}
use Rattle.std.proofs.lemmas.Bool.{and_parts, ltb-true}
use Rattle.std.proofs.lemmas.List.Elements.{All-nil, All-cons, All-append, All-map, All-weaker}
use Rattle.std.proofs.lemmas.Option.{same_Some, slice_get-get_or, slice_get_within}
use Rattle.core_ltl.specs.declared.node.NodeId.{NodeId}
use Rattle.core_ltl.specs.declared.node.Node.{Node}
use Rattle.core_ltl.specs.declared.node.Node.TheVariants as node
use Rattle.core_ltl.specs.declared.question.SignedNode.{SignedNode}
use Rattle.core_ltl.specs.Nodes.{members, IsClosure}
use Rattle.cnf.specs.declared.lit.Lit.{Lit}
use Rattle.cnf.specs.Clauses.{opposite, lit_holds}
use Rattle.cnf.specs.Gates.{literal}
use Rattle.cnf.proofs.ModelLaws.{lit_holds-opposite}
use Rattle.tableau.specs.TableauStates.{ClosureOverPorts, until_at, untils_from, or_true, fairness, meets_condition}
use Rattle.tableau.specs.Copies.{LayerLits, layer_state, member_literal}
use Rattle.tableau.specs.Questions.{IsSignedIn, signed_literal}
use Rattle.tableau.proofs.Places.{member_value}

not_true : (b : Bool) → not b ≡ true → b ≡ false
not_true true e = sym e
not_true false e = refl

-- an until of these nodes with its right side
abbrev pub IsUntilOf : List Node → NodeId × NodeId → Type 0
IsUntilOf nodes u = (k : NodeId) × (slice_get nodes u.0.0 ≡ Some (node.Until k u.1))

-- a condition of an until of these nodes, or the condition True
abbrev pub IsConditionOf : List Node → Option (NodeId × NodeId) → Type 0
IsConditionOf nodes None = Unit {0}
IsConditionOf nodes (Some u) = IsUntilOf nodes u

until_is : (nodes : List Node) (n : ℕ) (x : Node) → slice_get nodes n ≡ Some x → All (IsUntilOf nodes) (until_at n x)
until_is nodes n node.True e = All-nil (IsUntilOf nodes)
until_is nodes n (node.Atom a) e = All-nil (IsUntilOf nodes)
until_is nodes n (node.Not k) e = All-nil (IsUntilOf nodes)
until_is nodes n (node.And k l) e = All-nil (IsUntilOf nodes)
until_is nodes n (node.Next k) e = All-nil (IsUntilOf nodes)
until_is nodes n (node.Until k l) e = All-cons (IsUntilOf nodes) (record { 0 = n }, l) [] (k, e) (All-nil (IsUntilOf nodes))

untils_are : (whole nodes : List Node) (n : ℕ) → ((i : ℕ) (x : Node) → slice_get nodes i ≡ Some x → slice_get whole (n + i) ≡ Some x)
    → All (IsUntilOf whole) (untils_from n nodes)
untils_are whole [] n same = All-nil (IsUntilOf whole)
untils_are whole (x ∷ nodes) n same =
    let first : n + 0 ≡ n = omega arith in
    All-append (IsUntilOf whole) (until_at n x) (untils_from (n + 1) nodes)
    (until_is whole n x (subst (λ i. slice_get whole i ≡ Some x) first (same 0 x refl)))
    (untils_are whole nodes (n + 1) (λ i y e.
    let on : n + suc i ≡ (n + 1) + i = omega arith in
    subst (λ k. slice_get whole k ≡ Some y) on (same (suc i) y e)))

conditions_of : (nodes : List Node) (untils : List (NodeId × NodeId)) → All (IsUntilOf nodes) untils
    → All (IsConditionOf nodes) (or_true untils)
conditions_of nodes [] h = All-cons (IsConditionOf nodes) None [] tt (All-nil (IsConditionOf nodes))
conditions_of nodes (u ∷ untils) h = All-map (IsConditionOf nodes) Some (u ∷ untils) h

pub conditions_are : (t : ClosureOverPorts) → All (IsConditionOf t.closure.nodes) (fairness t)
conditions_are t =
    let nodes = t.closure.nodes in
    conditions_of nodes (untils_from 0 nodes) (untils_are nodes nodes 0 (λ i x e.
    let start : i ≡ 0 + i = omega arith in
    subst (λ (k : ℕ). slice_get nodes k ≡ Some x) start e))

-- an until of the closure and its right side
pub record IsPairOver (t : ClosureOverPorts) (until : NodeId × NodeId) : Type 0 where
  pub left : until.0.0 < length t.closure.nodes
  pub right : until.1.0 < length t.closure.nodes

-- the condition is over the closure
abbrev pub IsConditionOver : ClosureOverPorts → Option (NodeId × NodeId) → Type 0
IsConditionOver t None = Unit {0}
IsConditionOver t (Some u) = IsPairOver t u

pub conditions_over : (t : ClosureOverPorts) → IsClosure (members t.closure) → All (IsConditionOver t) (fairness t)
conditions_over t closed =
    All-weaker (IsConditionOf t.closure.nodes) (IsConditionOver t) (λ c h. over c h) (fairness t) (conditions_are t)
  where
    over : (c : Option (NodeId × NodeId)) → IsConditionOf t.closure.nodes c → IsConditionOver t c
    over None h = tt
    over (Some u) h =
        let within : u.0.0 < length t.closure.nodes = slice_get_within t.closure.nodes u.0.0 (node.Until h.0 u.1) h.1 in
        let parts = and_parts (ltb h.0.0 u.0.0) (ltb u.1.0 u.0.0) (closed.operands u.0.0 (node.Until h.0 u.1) h.1) in
        let before : u.1.0 < u.0.0 = ltb-true u.1.0 u.0.0 parts.1 in
        record { left = within; right = omega (arith, within, before) }

pub pair_at : (t : ClosureOverPorts) → IsClosure (members t.closure) → (j : ℕ) (condition : Option (NodeId × NodeId)) (u : NodeId × NodeId)
    → slice_get (fairness t) j ≡ Some condition → condition ≡ Some u → IsPairOver t u
pair_at t closed j condition u e is =
    let there : slice_get (fairness t) j ≡ Some (Some u) = e ∙ ap Some is in
    let within : j < length (fairness t) = slice_get_within (fairness t) j (Some u) there in
    let at : get_or (fairness t) j (Some u) ≡ Some u =
    same_Some (get_or (fairness t) j (Some u)) (Some u) (sym (slice_get-get_or (fairness t) j (Some u) within) ∙ there) in
    subst (IsConditionOver t) at (conditions_over t closed j (Some u) within)

-- a layer of all members, with literals of n variables
pub record IsReadable (n : ℕ) (t : ClosureOverPorts) (layer : LayerLits) : Type 0 where
  pub count : length layer.members ≡ length t.closure.nodes
  pub known : All (λ lit. lit.var < n) layer.members

pub member_known : (m : ℕ) (t : ClosureOverPorts) (layer : LayerLits) (n : ℕ) → IsReadable m t layer → n < length t.closure.nodes
    → (member_literal layer n).var < m
member_known m t layer n is h = is.known n (literal 0) (omega (arith, h, is.count))

by_sign : (model : List Bool) (lit : Lit) (p : Bool) → lit.var < length model
    → (lit_holds model (cond p lit (opposite lit)) ≡ true → lit_holds model lit ≡ p)
    × (lit_holds model lit ≡ p → lit_holds model (cond p lit (opposite lit)) ≡ true)
by_sign model lit true known = (λ h. h, λ h. h)
by_sign model lit false known = (
  λ h. not_true (lit_holds model lit) (sym (lit_holds-opposite model lit known) ∙ h),
  λ h. lit_holds-opposite model lit known ∙ ap not h,
)

pub sign_is : (model : List Bool) (t : ClosureOverPorts) (layer : LayerLits) (x : SignedNode) → IsReadable (length model) t layer
    → x.node.0 < length t.closure.nodes
    → (lit_holds model (signed_literal layer x) ≡ true → IsSignedIn (layer_state model t layer) x)
    × (IsSignedIn (layer_state model t layer) x → lit_holds model (signed_literal layer x) ≡ true)
sign_is model t layer x is h =
    let value = member_value model t layer x.node.0 (omega (arith, h, is.count)) in
    let both = by_sign model (member_literal layer x.node.0) x.positive (member_known (length model) t layer x.node.0 is h) in
    (λ y. value ∙ both.0 y, λ y. both.1 (sym value ∙ y))

pub condition_is : (model : List Bool) (t : ClosureOverPorts) (layer : LayerLits) (u : NodeId × NodeId) → IsReadable (length model) t layer → IsPairOver t u
    → (lit_holds model (opposite (member_literal layer u.0.0)) || lit_holds model (member_literal layer u.1.0))
    ≡ meets_condition (layer_state model t layer) (Some u)
condition_is model t layer u is over =
    let left = member_value model t layer u.0.0 (omega (arith, over.left, is.count)) in
    let right = member_value model t layer u.1.0 (omega (arith, over.right, is.count)) in
    let off = lit_holds-opposite model (member_literal layer u.0.0) (member_known (length model) t layer u.0.0 is over.left) ∙ ap not (sym left) in
    λ j. off j || sym right j
