-- A formula adds at most eight nodes for each of its operators, ports, numerals and names.
use Rattle.std.proofs.Common.{◌≡◌, ℕ, ◌+◌, ◌*◌, ◌^◌, ◌<◌, ◌≤◌, length, sym, subst, ◌∙◌, arith}
use Rattle.std.specs.List.{position_or_len}
use Rattle.typed_ltl.specs.Equality.{proposition_eq}
use Rattle.typed_ltl.specs.Formulas.{Number, Proposition, Ltl}
use Rattle.typed_ltl.specs.Formulas as form
use Rattle.typed_ltl.specs.Sizes.{number_size, proposition_size, formula_size}
use Rattle.core_ltl.specs.declared.node.NodeId.{NodeId}
use Rattle.core_ltl.specs.declared.node.Node.{Node}
use Rattle.core_ltl.specs.declared.node.Node.TheVariants as node
use Rattle.core_ltl.specs.declared.walk.Unary.{Unary}
use Rattle.core_ltl.specs.declared.walk.Unary.TheVariants as one
use Rattle.core_ltl.specs.declared.walk.Temporal.{Temporal}
use Rattle.core_ltl.specs.declared.walk.Temporal.TheVariants as temporal
use Rattle.core_ltl.specs.declared.walk.Binary.{Binary}
use Rattle.core_ltl.specs.declared.walk.Binary.TheVariants as two
use Rattle.core_ltl.specs.CoreFormulas.{Core, core_form}
use Rattle.core_ltl.specs.CoreFormulas as core
use Rattle.core_ltl.specs.Nodes.{Members, IsClosure, node_eq}
use Rattle.core_ltl.specs.NodeHash.{node_sound, node_refl}
use Rattle.core_ltl.specs.Order.{after_node, after_until, after_formula}
use Rattle.core_ltl.specs.Steps.{chain, after_not, after_both, after_implication, after_not_until}
use Rattle.core_ltl.specs.Steps.{after_unary, after_temporal, after_left, after_right}
use Rattle.core_ltl.specs.Steps.{unary_core, temporal_core, left_core, binary_core}
use Rattle.core_ltl.proofs.Added.{key_adds_one}
use Rattle.core_ltl.proofs.Closed.{added, with_atom}
use Rattle.core_ltl.proofs.Walks.{temporal_is, left_is, binary_steps, binary_is}

one_more : (m : Members) (x : Node) → length (after_node m x).0.nodes ≤ length m.nodes + 1
one_more m x = key_adds_one node_eq node_sound node_refl m.nodes x

until_more : (m : Members) (k l : NodeId) → length (after_until m k l).0.nodes ≤ length m.nodes + 2
until_more m k l =
    let u = after_node m (node.Until k l) in
    let first = one_more m (node.Until k l) in
    let next = one_more u.0 (node.Next u.1) in
    omega arith

not_until_more : (m : Members) (k l : NodeId) → length (after_not_until m k l).0.nodes ≤ length m.nodes + 3
not_until_more m k l =
    let u = after_until m k l in
    let first = until_more m k l in
    let next = one_more u.0 (node.Not u.1) in
    omega arith

implication_more : (m : Members) (k l : NodeId) → length (after_implication m k l).0.nodes ≤ length m.nodes + 3
implication_more m k l =
    let a = after_not m l in
    let b = after_both a.0 k a.1 in
    let first = one_more m (node.Not l) in
    let second = one_more a.0 (node.And k a.1) in
    let third = one_more b.0 (node.Not b.1) in
    omega arith

unary_more : (u : Unary) (m : Members) (k : NodeId) → length (after_unary u m k).0.nodes ≤ length m.nodes + 1
unary_more one.Not m k = one_more m (node.Not k)
unary_more one.Then m k = one_more m (node.Next k)

temporal_more : (u : Temporal) (m : Members) (t k : NodeId)
    → length (after_temporal u m t k).0.nodes ≤ length m.nodes + 4
temporal_more temporal.Future m t k = let h = until_more m t k in omega arith
temporal_more temporal.Always m t k =
    let a = after_not m k in
    let first = one_more m (node.Not k) in
    let next = not_until_more a.0 t a.1 in
    omega arith
temporal_more temporal.Never m t k = let h = not_until_more m t k in omega arith

left_more : (b : Binary) (m : Members) (k : NodeId) → length (after_left b m k).0.nodes ≤ length m.nodes + 1
left_more two.And m k = omega arith
left_more two.Or m k = one_more m (node.Not k)
left_more two.Implies m k = omega arith
left_more two.Iff m k = omega arith
left_more two.Until m k = omega arith
left_more two.Releases m k = one_more m (node.Not k)

right_more : (b : Binary) (m : Members) (k l : NodeId) → length (after_right b m k l).0.nodes ≤ length m.nodes + 7
right_more two.And m k l = let h = one_more m (node.And k l) in omega arith
right_more two.Or m k l = let h = implication_more m k l in omega arith
right_more two.Implies m k l = let h = implication_more m k l in omega arith
right_more two.Iff m k l =
    let a = after_implication m k l in
    let b = after_implication a.0 l k in
    let first = implication_more m k l in
    let second = implication_more a.0 l k in
    let third = one_more b.0 (node.And a.1 b.1) in
    omega arith
right_more two.Until m k l = let h = until_more m k l in omega arith
right_more two.Releases m k l =
    let a = after_not m l in
    let first = one_more m (node.Not l) in
    let next = not_until_more a.0 k a.1 in
    omega arith

-- a formula that adds at most so many nodes to each closure
abbrev AddsUpTo : Core → ℕ → Type 0
AddsUpTo f n = (m : Members) → IsClosure m → length (after_formula m f).0.nodes ≤ length m.nodes + n

unary_bound : (u : Unary) (f : Core) (n : ℕ) → AddsUpTo f n → AddsUpTo (unary_core u f) (n + 8)
unary_bound one.Not f n h m c =
    let a = after_formula m f in
    let first = h m c in
    let next = one_more a.0 (node.Not a.1) in
    omega arith
unary_bound one.Then f n h m c =
    let a = after_formula m f in
    let first = h m c in
    let next = one_more a.0 (node.Next a.1) in
    omega arith

temporal_bound : (u : Temporal) (f : Core) (n : ℕ) → AddsUpTo f n → AddsUpTo (temporal_core u f) (n + 8)
temporal_bound u f n h m c =
    let t = after_node m node.True in
    let a = after_formula t.0 f in
    let closed = (added m c core.True).closed in
    let first = one_more m node.True in
    let second = h t.0 closed in
    let third = temporal_more u a.0 t.1 a.1 in
    subst (λ r. length r.0.nodes ≤ length m.nodes + (n + 8)) (temporal_is u m f) (omega arith)

binary_bound : (b : Binary) (f g : Core) (n k : ℕ) → AddsUpTo f n → AddsUpTo g k
    → AddsUpTo (binary_core b f g) (n + k + 8)
binary_bound b f g n k h i m c =
    let a = after_formula m f in
    let l = after_left b a.0 a.1 in
    let e : l ≡ after_formula m (left_core b f) = left_is b m f in
    let first = h m c in
    let second = left_more b a.0 a.1 in
    let closed : IsClosure l.0 = subst (λ r. IsClosure r.0) (sym e) (added m c (left_core b f)).closed in
    let r = after_formula l.0 g in
    let third = i l.0 closed in
    let fourth = right_more b r.0 l.1 r.1 in
    let total : length (after_right b r.0 l.1 r.1).0.nodes ≤ length m.nodes + (n + k + 8) = omega arith in
    let steps : chain l (λ o x. chain (after_formula o g) (λ p y. after_right b p x y)) ≡ binary_steps b m f g =
    λ j. chain (e j) (λ o x. chain (after_formula o g) (λ p y. after_right b p x y)) in
    subst (λ q. length q.0.nodes ≤ length m.nodes + (n + k + 8)) (steps ∙ binary_is b m c f g) total

-- of a form with one part of size n, and with two parts
more_one : (f : Core) (n : ℕ) → AddsUpTo f (8 * n + 8) → AddsUpTo f (8 * (1 + n))
more_one f n h m c = let k = h m c in omega arith

more_two : (f : Core) (n k : ℕ) → AddsUpTo f (8 * n + 8 * k + 8) → AddsUpTo f (8 * (1 + (n + k)))
more_two f n k h m c = let i = h m c in omega arith

some_size : (n : Number) → 1 ≤ number_size n
some_size (form.Literal z) = omega arith
some_size (form.NumberAt p next) = omega arith
some_size (form.Sum a b) = omega arith
some_size (form.Difference a b) = omega arith
some_size (form.Opposite a) = omega arith

atom_size : (p : Proposition) → 1 ≤ proposition_size p
atom_size (form.TruthAt p next) = omega arith
atom_size (form.Equals a b) = omega arith
atom_size (form.AtMost a b) = omega arith
atom_size (form.SameName a b) = omega arith

pub formula_bound : (f : Ltl) → AddsUpTo (core_form f) (8 * formula_size f)
formula_bound form.True = λ m c. let h = one_more m node.True in omega arith
formula_bound form.False = λ m c.
    let a = after_node m node.True in
    let first = one_more m node.True in
    let next = one_more a.0 (node.Not a.1) in
    omega arith
formula_bound (form.Atomic p) = λ m c.
    let h = one_more (with_atom m p) (node.Atom (record { 0 = position_or_len (proposition_eq p) m.atoms })) in
    let size = atom_size p in
    omega arith
formula_bound (form.Not f) =
    more_one (unary_core one.Not (core_form f)) (formula_size f) (unary_bound one.Not (core_form f) (8 * formula_size f) (formula_bound f))
formula_bound (form.And f g) =
    more_two (binary_core two.And (core_form f) (core_form g)) (formula_size f) (formula_size g)
    (binary_bound two.And (core_form f) (core_form g) (8 * formula_size f) (8 * formula_size g) (formula_bound f) (formula_bound g))
formula_bound (form.Or f g) =
    more_two (binary_core two.Or (core_form f) (core_form g)) (formula_size f) (formula_size g)
    (binary_bound two.Or (core_form f) (core_form g) (8 * formula_size f) (8 * formula_size g) (formula_bound f) (formula_bound g))
formula_bound (form.Implies f g) =
    more_two (binary_core two.Implies (core_form f) (core_form g)) (formula_size f) (formula_size g)
    (binary_bound two.Implies (core_form f) (core_form g) (8 * formula_size f) (8 * formula_size g) (formula_bound f) (formula_bound g))
formula_bound (form.Iff f g) =
    more_two (binary_core two.Iff (core_form f) (core_form g)) (formula_size f) (formula_size g)
    (binary_bound two.Iff (core_form f) (core_form g) (8 * formula_size f) (8 * formula_size g) (formula_bound f) (formula_bound g))
formula_bound (form.Then f) =
    more_one (unary_core one.Then (core_form f)) (formula_size f) (unary_bound one.Then (core_form f) (8 * formula_size f) (formula_bound f))
formula_bound (form.Until f g) =
    more_two (binary_core two.Until (core_form f) (core_form g)) (formula_size f) (formula_size g)
    (binary_bound two.Until (core_form f) (core_form g) (8 * formula_size f) (8 * formula_size g) (formula_bound f) (formula_bound g))
formula_bound (form.Releases f g) =
    more_two (binary_core two.Releases (core_form f) (core_form g)) (formula_size f) (formula_size g)
    (binary_bound two.Releases (core_form f) (core_form g) (8 * formula_size f) (8 * formula_size g) (formula_bound f) (formula_bound g))
formula_bound (form.Future f) =
    more_one (temporal_core temporal.Future (core_form f)) (formula_size f)
    (temporal_bound temporal.Future (core_form f) (8 * formula_size f) (formula_bound f))
formula_bound (form.Always f) =
    more_one (temporal_core temporal.Always (core_form f)) (formula_size f)
    (temporal_bound temporal.Always (core_form f) (8 * formula_size f) (formula_bound f))
formula_bound (form.Never f) =
    more_one (temporal_core temporal.Never (core_form f)) (formula_size f)
    (temporal_bound temporal.Never (core_form f) (8 * formula_size f) (formula_bound f))

-- a formula that fits is within the greatest limit
pub formula_fits : (m : Members) (f : Ltl) → IsClosure m → length m.nodes + 8 * formula_size f < 2 ^ 32
    → 4294967295 < length (after_formula m (core_form f)).0.nodes → ⊥
formula_fits m f closed fits large = let h = formula_bound f m closed in omega arith
