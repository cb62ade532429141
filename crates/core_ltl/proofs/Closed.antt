-- Each addition of a formula leads from a closure to a closure, in which its node stands for it.
use Rattle.std.proofs.Common.{◌≡◌, ◌≢◌, ℕ, ◌<◌, ◌≤◌, Bool, true, false, ◌&&◌, List, Some, slice_get, length, refl, sym, ap, subst, inl, inr, ◌⊎◌, arith}
use Rattle.std.proofs.Common.{[], ◌∷◌, ◌++◌, length-append}
use Rattle.std.specs.Prelude.{nat_lt}
use Rattle.std.specs.List.{list_any, position_or_len}
use Rattle.std.proofs.lemmas.Bool.{lt-ltb}
use Rattle.std.proofs.lemmas.Option.{slice_get_within}
use Rattle.indexmap.specs.IndexSet.{insert_key}
use Rattle.typed_ltl.specs.Formulas.{Proposition}
use Rattle.typed_ltl.specs.Equality.{proposition_eq}
use Rattle.typed_ltl.specs.EqualityLaws.{proposition_sound, proposition_refl}
use Rattle.core_ltl.specs.declared.node.NodeId.{NodeId}
use Rattle.core_ltl.specs.declared.node.AtomId.{AtomId}
use Rattle.core_ltl.specs.declared.node.Node.{Node}
use Rattle.core_ltl.specs.declared.node.Node.TheVariants as node
use Rattle.core_ltl.specs.CoreFormulas.{Core}
use Rattle.core_ltl.specs.CoreFormulas as core
use Rattle.core_ltl.specs.Nodes.{Members, StandsFor, IsClosure, node_eq, has_node, operands_before}
use Rattle.core_ltl.specs.NodeHash.{node_sound, node_refl}
use Rattle.core_ltl.specs.Order.{after_node, after_atom, after_until, after_formula}
use Rattle.core_ltl.proofs.Added.{listed, key_at, key_keeps, key_front, key_grows, found_still, once_still, key_or_old, take_whole, key_there, key_new}
use Rattle.core_ltl.proofs.Added.{key_adds_one, place_new, place_there}
use Rattle.core_ltl.proofs.Fronts.{KeepsMembers, kept_trans, stands_still}
use Rattle.core_ltl.proofs.NodeFormulas.{node_tag, atom_in, found_at, within_of}

-- what each single step keeps
record IsShared (m : Members) : Type 0 where
  operands : (n : ℕ) (x : Node) → slice_get m.nodes n ≡ Some x → operands_before n x ≡ true
  named_atoms : (n : ℕ) (a : AtomId) → slice_get m.nodes n ≡ Some (node.Atom a) → a.0 < length m.atoms
  one_node : (n k : ℕ) (x : Node) → slice_get m.nodes n ≡ Some x → slice_get m.nodes k ≡ Some x → n ≡ k
  one_atom : (a b : ℕ) (p : Proposition) → slice_get m.atoms a ≡ Some p → slice_get m.atoms b ≡ Some p → a ≡ b

shared : (m : Members) → IsClosure m → IsShared m
shared m c = record { operands = c.operands; named_atoms = c.named_atoms; one_node = c.one_node; one_atom = c.one_atom }

bool_cases : (b : Bool) → (b ≡ true) ⊎ (b ≡ false)
bool_cases true = inl refl
bool_cases false = inr refl

node_at : (m : Members) (x : Node) → slice_get (after_node m x).0.nodes (after_node m x).1.0 ≡ Some x
node_at m x = key_at node_eq node_sound node_refl m.nodes x

node_inside : (m : Members) (x : Node) → (after_node m x).1.0 < length (after_node m x).0.nodes
node_inside m x = slice_get_within (after_node m x).0.nodes (after_node m x).1.0 x (node_at m x)

node_still : (m : Members) (x y : Node) → has_node m y ≡ true → has_node (after_node m x).0 y ≡ true
node_still m x y h = found_still node_eq node_sound node_refl m.nodes x y h

node_or_old : (m : Members) (x : Node) (n : ℕ) (y : Node) → slice_get (after_node m x).0.nodes n ≡ Some y
    → (slice_get m.nodes n ≡ Some y) ⊎ ((n ≡ length m.nodes) × (x ≡ y))
node_or_old m x n y h = key_or_old node_eq node_sound node_refl m.nodes x n y h

node_grows : (m : Members) (x : Node) → length m.nodes ≤ length (after_node m x).0.nodes
node_grows m x = key_grows node_eq node_sound node_refl m.nodes x

has_it : (m : Members) (x : Node) → has_node (after_node m x).0 x ≡ true
has_it m x = listed node_eq node_sound node_refl (after_node m x).0.nodes (after_node m x).1.0 x (node_at m x)

shared_node : (m : Members) → IsShared m → (x : Node) → operands_before (length m.nodes) x ≡ true
    → ((a : AtomId) → x ≡ node.Atom a → a.0 < length m.atoms) → IsShared (after_node m x).0
shared_node m s x before named_atoms = record {
  operands = λ n y h.
      elim (node_or_old m x n y h) [
        | inl e ↦ s.operands n y e
        | inr e ↦ subst (λ z. operands_before n z ≡ true) e.1 (subst (λ k. operands_before k x ≡ true) (sym e.0) before)
      ];
  named_atoms = λ n a h.
      elim (node_or_old m x n (node.Atom a) h) [ inl e ↦ s.named_atoms n a e | inr e ↦ named_atoms a e.1 ];
  one_node = once_still node_eq node_sound node_refl m.nodes x s.one_node;
  one_atom = s.one_atom;
}

abbrev pub with_atom : Members → Proposition → Members
with_atom m p = record m { atoms = insert_key proposition_eq m.atoms p }

shared_atom : (m : Members) → IsShared m → (p : Proposition) → IsShared (with_atom m p)
shared_atom m s p = record {
  operands = s.operands;
  named_atoms = λ n a h.
      let old = s.named_atoms n a h in
      let more = key_grows proposition_eq proposition_sound proposition_refl m.atoms p in
      omega arith;
  one_node = s.one_node;
  one_atom = once_still proposition_eq proposition_sound proposition_refl m.atoms p s.one_atom;
}

-- a node that is neither an atom nor an until
record IsPlain (x : Node) : Type 0 where
  no_atom : (a : AtomId) → x ≡ node.Atom a → ⊥
  no_until : (k l : NodeId) → x ≡ node.Until k l → ⊥

by_tag : (x y : Node) → node_tag x ≢ node_tag y → x ≡ y → ⊥
by_tag x y n e = n (ap node_tag e)

plain_true : IsPlain node.True
plain_true = record {
  no_atom = λ a. by_tag node.True (node.Atom a) (λ e. omega arith);
  no_until = λ k l. by_tag node.True (node.Until k l) (λ e. omega arith);
}

plain_not : (j : NodeId) → IsPlain (node.Not j)
plain_not j = record {
  no_atom = λ a. by_tag (node.Not j) (node.Atom a) (λ e. omega arith);
  no_until = λ k l. by_tag (node.Not j) (node.Until k l) (λ e. omega arith);
}

plain_and : (i j : NodeId) → IsPlain (node.And i j)
plain_and i j = record {
  no_atom = λ a. by_tag (node.And i j) (node.Atom a) (λ e. omega arith);
  no_until = λ k l. by_tag (node.And i j) (node.Until k l) (λ e. omega arith);
}

plain_next : (j : NodeId) → IsPlain (node.Next j)
plain_next j = record {
  no_atom = λ a. by_tag (node.Next j) (node.Atom a) (λ e. omega arith);
  no_until = λ k l. by_tag (node.Next j) (node.Until k l) (λ e. omega arith);
}

closed_node : (m : Members) → IsClosure m → (x : Node) → operands_before (length m.nodes) x ≡ true → IsPlain x
    → IsClosure (after_node m x).0
closed_node m c x before plain =
    let s = shared_node m (shared m c) x before (λ a e. absurd (plain.no_atom a e)) in
    record {
      operands = s.operands;
      named_atoms = s.named_atoms;
      atom_nodes = λ a lt. node_still m x (node.Atom a) (c.atom_nodes a lt);
      atom_count = let old = c.atom_count in let more = node_grows m x in omega arith;
      nexts = λ n k l h.
          elim (node_or_old m x n.0 (node.Until k l) h) [
            | inl e ↦ node_still m x (node.Next n) (c.nexts n k l e)
            | inr e ↦ absurd (plain.no_until k l e.1)
          ];
      one_node = s.one_node;
      one_atom = s.one_atom;
    }

same_atom : (a b : AtomId) → a.0 ≡ b.0 → a ≡ b
same_atom a b e = λ j. record { 0 = e j }

same_node : (a b : NodeId) → a.0 ≡ b.0 → a ≡ b
same_node a b e = λ j. record { 0 = e j }

atom_place : Members → Proposition → AtomId
atom_place m p = record { 0 = position_or_len (proposition_eq p) m.atoms }

atom_at : (m : Members) (p : Proposition)
    → slice_get (insert_key proposition_eq m.atoms p) (position_or_len (proposition_eq p) m.atoms) ≡ Some p
atom_at m p = key_at proposition_eq proposition_sound proposition_refl m.atoms p

-- a new atom has a new node
few_atoms : (m : Members) → IsClosure m → (p : Proposition)
    → length (after_atom m p).0.atoms ≤ length (after_atom m p).0.nodes
few_atoms m c p =
    let place : AtomId = record { 0 = position_or_len (proposition_eq p) m.atoms } in
    let n : Members = with_atom m p in
    let old = c.atom_count in
    let more = node_grows n (node.Atom place) in
    elim (bool_cases (list_any (proposition_eq p) m.atoms)) [
      | inl there ↦
          let e : length n.atoms ≡ length m.atoms =
          ap (λ (l : List Proposition). length l) (key_there proposition_eq proposition_sound proposition_refl m.atoms p there) in
          omega arith
      | inr new ↦
          let e : place.0 ≡ length m.atoms = place_new proposition_eq proposition_sound proposition_refl m.atoms p new in
          let one = key_adds_one proposition_eq proposition_sound proposition_refl m.atoms p in
          elim (bool_cases (has_node m (node.Atom place))) [
            | inl there ↦
                let at = place_there node_eq node_sound node_refl m.nodes (node.Atom place) there in
                let less = c.named_atoms (position_or_len (node_eq (node.Atom place)) m.nodes) place at in
                absurd (omega arith)
            | inr fresh ↦
                let d : length (after_node n (node.Atom place)).0.nodes ≡ length (m.nodes ++ node.Atom place ∷ []) =
                ap (λ (l : List Node). length l) (key_new node_eq node_sound node_refl m.nodes (node.Atom place) fresh) in
                let longer = length-append m.nodes (node.Atom place ∷ []) in
                omega arith
          ]
    ]

closed_atom : (m : Members) → IsClosure m → (p : Proposition) → IsClosure (after_atom m p).0
closed_atom m c p =
    let place : AtomId = record { 0 = position_or_len (proposition_eq p) m.atoms } in
    let n : Members = with_atom m p in
    let s = shared_atom m (shared m c) p in
    let inside : place.0 < length n.atoms = slice_get_within n.atoms place.0 p (atom_at m p) in
    let t = shared_node n s (node.Atom place) refl (λ a e. subst (λ b. b.0 < length n.atoms) (atom_eq place a e) inside) in
    record {
      operands = t.operands;
      named_atoms = t.named_atoms;
      atom_nodes = λ a lt.
          let q = found_at n.atoms a.0 lt in
          elim (key_or_old proposition_eq proposition_sound proposition_refl m.atoms p a.0 q.0 q.1) [
            | inl e ↦ node_still n (node.Atom place) (node.Atom a) (c.atom_nodes a (slice_get_within m.atoms a.0 q.0 e))
            | inr e ↦
                let there : slice_get n.atoms a.0 ≡ Some p = subst (λ r. slice_get n.atoms a.0 ≡ Some r) (sym e.1) q.1 in
                subst (λ b. has_node (after_node n (node.Atom place)).0 (node.Atom b) ≡ true)
                (same_atom place a (s.one_atom place.0 a.0 p (atom_at m p) there)) (has_it n (node.Atom place))
          ];
      atom_count = few_atoms m c p;
      nexts = λ i k l h.
          elim (node_or_old n (node.Atom place) i.0 (node.Until k l) h) [
            | inl e ↦ node_still n (node.Atom place) (node.Next i) (c.nexts i k l e)
            | inr e ↦ absurd (by_tag (node.Atom place) (node.Until k l) (λ e. omega arith) e.1)
          ];
      one_node = t.one_node;
      one_atom = t.one_atom;
    }
  where
    atom_eq : (a b : AtomId) → node.Atom a ≡ node.Atom b → a ≡ b
    atom_eq a b e = ap atom_in e

closed_until : (m : Members) → IsClosure m → (k l : NodeId) → operands_before (length m.nodes) (node.Until k l) ≡ true
    → IsClosure (after_until m k l).0
closed_until m c k l before =
    let x : Node = node.Until k l in
    let n : Members = (after_node m x).0 in
    let i : NodeId = (after_node m x).1 in
    let s = shared_node m (shared m c) x before (λ a e. absurd (by_tag x (node.Atom a) (λ e. omega arith) e)) in
    let t = shared_node n s (node.Next i) (lt-ltb i.0 (length n.nodes) (node_inside m x))
    (λ a e. absurd (by_tag (node.Next i) (node.Atom a) (λ e. omega arith) e)) in
    record {
      operands = t.operands;
      named_atoms = t.named_atoms;
      atom_nodes = λ a lt. node_still n (node.Next i) (node.Atom a) (node_still m x (node.Atom a) (c.atom_nodes a lt));
      atom_count = let old = c.atom_count in let more = node_grows m x in let most = node_grows n (node.Next i) in omega arith;
      nexts = λ j g h e.
          elim (node_or_old n (node.Next i) j.0 (node.Until g h) e) [
            | inl old ↦ elim (node_or_old m x j.0 (node.Until g h) old) [
              | inl older ↦ node_still n (node.Next i) (node.Next j) (node_still m x (node.Next j) (c.nexts j g h older))
              | inr new ↦
                  let there : slice_get n.nodes j.0 ≡ Some x = subst (λ y. slice_get n.nodes j.0 ≡ Some y) (sym new.1) old in
                  subst (λ b. has_node (after_node n (node.Next i)).0 (node.Next b) ≡ true)
                  (same_node i j (s.one_node i.0 j.0 x (node_at m x) there)) (has_it n (node.Next i))
            ]
            | inr new ↦ absurd (by_tag (node.Next i) (node.Until g h) (λ e. omega arith) new.1)
          ];
      one_node = t.one_node;
      one_atom = t.one_atom;
    }

pub kept_node : (m : Members) (x : Node) → KeepsMembers m (after_node m x).0
kept_node m x = record {
  nodes = key_front node_eq node_sound node_refl m.nodes x;
  atoms = take_whole m.atoms;
}

pub kept_atom : (m : Members) (p : Proposition) → KeepsMembers m (with_atom m p)
kept_atom m p = record {
  nodes = take_whole m.nodes;
  atoms = key_front proposition_eq proposition_sound proposition_refl m.atoms p;
}

pub record IsAddition (m : Members) (f : Core) (r : Members × NodeId) : Type 0 where
  pub closed : IsClosure r.0
  pub stands : StandsFor r.0 r.1.0 f
  pub kept : KeepsMembers m r.0

both_before : (n : ℕ) (k l : NodeId) → k.0 < n → l.0 < n → (nat_lt k.0 n && nat_lt l.0 n) ≡ true
both_before n k l h i = subst (λ b. (b && nat_lt l.0 n) ≡ true) (sym (lt-ltb k.0 n h)) (lt-ltb l.0 n i)

-- both operands, after both were added
pub record ArePair (m : Members) (f g : Core) (n : Members) (k l : NodeId) : Type 0 where
  pub closed : IsClosure n
  pub left : StandsFor n k.0 f
  pub right : StandsFor n l.0 g
  pub kept : KeepsMembers m n

pair : (m : Members) (f g : Core) (a b : Members × NodeId) → IsAddition m f a → IsAddition a.0 g b
    → ArePair m f g b.0 a.1 b.1
pair m f g a b h k = record {
  closed = k.closed;
  left = stands_still a.0 b.0 k.kept f a.1.0 h.stands;
  right = k.stands;
  kept = kept_trans m a.0 b.0 h.kept k.kept;
}

pub added : (m : Members) → IsClosure m → (f : Core) → IsAddition m f (after_formula m f)
added m c core.True = record {
  closed = closed_node m c node.True refl plain_true;
  stands = node_at m node.True;
  kept = kept_node m node.True;
}
added m c (core.Atomic p) =
    let place : AtomId = record { 0 = position_or_len (proposition_eq p) m.atoms } in
    let n : Members = with_atom m p in
    record {
      closed = closed_atom m c p;
      stands = (place, node_at n (node.Atom place), atom_at m p);
      kept = kept_trans m n (after_node n (node.Atom place)).0 (kept_atom m p) (kept_node n (node.Atom place));
    }
added m c (core.Not f) =
    let h = added m c f in
    let a = after_formula m f in
    let x : Node = node.Not a.1 in
    record {
      closed = closed_node a.0 h.closed x (lt-ltb a.1.0 (length a.0.nodes) (within_of a.0 a.1.0 f h.stands)) (plain_not a.1);
      stands = (a.1, node_at a.0 x, stands_still a.0 (after_node a.0 x).0 (kept_node a.0 x) f a.1.0 h.stands);
      kept = kept_trans m a.0 (after_node a.0 x).0 h.kept (kept_node a.0 x);
    }
added m c (core.And f g) =
    let h = added m c f in
    let a = after_formula m f in
    let i = added a.0 h.closed g in
    let b = after_formula a.0 g in
    let p = pair m f g a b h i in
    let x : Node = node.And a.1 b.1 in
    let keep = kept_node b.0 x in
    let before = both_before (length b.0.nodes) a.1 b.1 (within_of b.0 a.1.0 f p.left) (within_of b.0 b.1.0 g p.right) in
    record {
      closed = closed_node b.0 p.closed x before (plain_and a.1 b.1);
      stands = (
        a.1,
        b.1,
        node_at b.0 x,
        stands_still b.0 (after_node b.0 x).0 keep f a.1.0 p.left,
        stands_still b.0 (after_node b.0 x).0 keep g b.1.0 p.right,
      );
      kept = kept_trans m b.0 (after_node b.0 x).0 p.kept keep;
    }
added m c (core.Next f) =
    let h = added m c f in
    let a = after_formula m f in
    let x : Node = node.Next a.1 in
    record {
      closed = closed_node a.0 h.closed x (lt-ltb a.1.0 (length a.0.nodes) (within_of a.0 a.1.0 f h.stands)) (plain_next a.1);
      stands = (a.1, node_at a.0 x, stands_still a.0 (after_node a.0 x).0 (kept_node a.0 x) f a.1.0 h.stands);
      kept = kept_trans m a.0 (after_node a.0 x).0 h.kept (kept_node a.0 x);
    }
added m c (core.Until f g) =
    let h = added m c f in
    let a = after_formula m f in
    let i = added a.0 h.closed g in
    let b = after_formula a.0 g in
    let p = pair m f g a b h i in
    let x : Node = node.Until a.1 b.1 in
    let u = after_node b.0 x in
    let y : Node = node.Next u.1 in
    let last = (after_node u.0 y).0 in
    let keep = kept_trans b.0 u.0 last (kept_node b.0 x) (kept_node u.0 y) in
    let before = both_before (length b.0.nodes) a.1 b.1 (within_of b.0 a.1.0 f p.left) (within_of b.0 b.1.0 g p.right) in
    record {
      closed = closed_until b.0 p.closed a.1 b.1 before;
      stands = (
        a.1,
        b.1,
        key_keeps node_eq node_sound node_refl u.0.nodes y u.1.0 x (node_at b.0 x),
        stands_still b.0 last keep f a.1.0 p.left,
        stands_still b.0 last keep g b.1.0 p.right,
      );
      kept = kept_trans m b.0 last p.kept keep;
    }
