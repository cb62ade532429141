-- Fronts of lists: old nodes and atoms keep their numbers, and what they stand for.
use Rattle.std.proofs.Common.{◌≡◌, ℕ, zero, suc, List, [], ◌∷◌, Some, slice_get, get_or, length, take, drop, refl, sym, ap, subst, ◌∙◌}
use Rattle.core_ltl.specs.CoreFormulas.{Core}
use Rattle.core_ltl.specs.CoreFormulas as core
use Rattle.core_ltl.specs.Nodes.{Listing, Members, StandsFor, KeepsNumbers}

-- the old members are a front of the new ones
pub record KeepsMembers (old new : Members) : Type 0 where
  pub nodes : take (length old.nodes) new.nodes ≡ old.nodes
  pub atoms : take (length old.atoms) new.atoms ≡ old.atoms

get_of_take : {X : Type 0} (k : ℕ) (xs : List X) (n : ℕ) (x : X) → slice_get (take k xs) n ≡ Some x
    → slice_get xs n ≡ Some x
get_of_take zero xs n x e = cc
get_of_take (suc k) [] n x e = cc
get_of_take (suc k) (y ∷ xs) zero x e = e
get_of_take (suc k) (y ∷ xs) (suc n) x e = get_of_take k xs n x e

pub front_get : {X : Type 0} (xs ys : List X) (n : ℕ) (x : X) → take (length xs) ys ≡ xs → slice_get xs n ≡ Some x
    → slice_get ys n ≡ Some x
front_get xs ys n x e h = get_of_take (length xs) ys n x (subst (λ l. slice_get l n ≡ Some x) (sym e) h)

pub front_trans : {X : Type 0} (xs ys zs : List X) → take (length xs) ys ≡ xs → take (length ys) zs ≡ ys
    → take (length xs) zs ≡ xs
front_trans [] ys zs e h = refl
front_trans (x ∷ xs) [] zs e h = cc
front_trans (x ∷ xs) (y ∷ ys) [] e h = cc
front_trans (x ∷ xs) (y ∷ ys) (z ∷ zs) e h =
    let head : z ≡ x = ap (λ l. get_or l 0 z) h ∙ ap (λ l. get_or l 0 z) e in
    let tail : take (length xs) zs ≡ xs = front_trans xs ys zs (ap (drop 1) e) (ap (drop 1) h) in
    λ j. head j ∷ tail j

pub numbers_trans : (a b c : Listing) → KeepsNumbers a b → KeepsNumbers b c → KeepsNumbers a c
numbers_trans a b c h k = record {
  nodes = front_trans a.nodes b.nodes c.nodes h.nodes k.nodes;
  atoms = front_trans a.atoms b.atoms c.atoms h.atoms k.atoms;
}

pub kept_trans : (a b c : Members) → KeepsMembers a b → KeepsMembers b c → KeepsMembers a c
kept_trans a b c h k = record {
  nodes = front_trans a.nodes b.nodes c.nodes h.nodes k.nodes;
  atoms = front_trans a.atoms b.atoms c.atoms h.atoms k.atoms;
}

-- a node stands for the same formula after members were added
pub stands_still : (old new : Members) → KeepsMembers old new → (f : Core) (n : ℕ) → StandsFor old n f
    → StandsFor new n f
stands_still old new k core.True n h = front_get old.nodes new.nodes n _ k.nodes h
stands_still old new k (core.Atomic p) n h =
    (h.0, front_get old.nodes new.nodes n _ k.nodes h.1, front_get old.atoms new.atoms h.0.0 p k.atoms h.2)
stands_still old new k (core.Not f) n h =
    (h.0, front_get old.nodes new.nodes n _ k.nodes h.1, stands_still old new k f h.0.0 h.2)
stands_still old new k (core.And f g) n h = (
  h.0,
  h.1,
  front_get old.nodes new.nodes n _ k.nodes h.2,
  stands_still old new k f h.0.0 h.3,
  stands_still old new k g h.1.0 h.4,
)
stands_still old new k (core.Next f) n h =
    (h.0, front_get old.nodes new.nodes n _ k.nodes h.1, stands_still old new k f h.0.0 h.2)
stands_still old new k (core.Until f g) n h = (
  h.0,
  h.1,
  front_get old.nodes new.nodes n _ k.nodes h.2,
  stands_still old new k f h.0.0 h.3,
  stands_still old new k g h.1.0 h.4,
)
