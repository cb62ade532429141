-- Serves proofs only. The tests of equality decide it, so they are equivalences, and equal atoms feed a hash alike.
use Rattle.std.proofs.Common.{◌≡◌, ℕ, ℤ, ◌==◌, Bool, true, false, ◌&&◌, List, refl, ap, subst, eq-eqb, eqb-true}
use Rattle.std.proofs.lemmas.Bool.{and_parts, false≢true}
use Rattle.std.proofs.lemmas.Slice.Eq.{bytes_eq-Decides}
use Rattle.std.specs.Bool.{beq, Decides}
use Rattle.std.specs.Cmp.{IsEquivalence, decided, on_equiv, signed_Decides, booleans_Decides}
use Rattle.std.specs.Hash.{HashWrites}
use Rattle.std.specs.Ordering.{int_eq}
use Rattle.std.specs.Prelude.{IsTrue}
use Rattle.std.specs.Str.{bytes_eq}
use Rattle.typed_ltl.specs.declared.atom.Atom.{Atom}
use Rattle.typed_ltl.specs.Formulas.{Number, Choice, Proposition, proposition_of}
use Rattle.typed_ltl.specs.Formulas as form
use Rattle.typed_ltl.specs.Equality.{number_eq, choice_eq, proposition_eq}
use Rattle.typed_ltl.specs.HashInput.{proposition_writes}

both_true : (b c : Bool) → b ≡ true → c ≡ true → (b && c) ≡ true
both_true true c e h = h
both_true false c e h = absurd (false≢true e)

port_sound : (p q : ℕ) (x y : Bool) → ((p == q) && beq x y) ≡ true → (p ≡ q) × (x ≡ y)
port_sound p q x y h =
    let parts = and_parts (p == q) (beq x y) h in
    (eqb-true p q parts.0, (booleans_Decides x y).0 parts.1)

port_refl : (p : ℕ) (x : Bool) → ((p == p) && beq x x) ≡ true
port_refl p x = both_true (p == p) (beq x x) (eq-eqb p p refl) ((booleans_Decides x x).1 refl)

number_sound : (a b : Number) → number_eq a b ≡ true → a ≡ b
number_sound (form.Literal x) (form.Literal y) h = ap form.Literal ((signed_Decides x y).0 h)
number_sound (form.NumberAt p x) (form.NumberAt q y) h =
    let e = port_sound p q x y h in λ j. form.NumberAt (e.0 j) (e.1 j)
number_sound (form.Sum a b) (form.Sum c d) h =
    let parts = and_parts (number_eq a c) (number_eq b d) h in
    λ j. form.Sum (number_sound a c parts.0 j) (number_sound b d parts.1 j)
number_sound (form.Difference a b) (form.Difference c d) h =
    let parts = and_parts (number_eq a c) (number_eq b d) h in
    λ j. form.Difference (number_sound a c parts.0 j) (number_sound b d parts.1 j)
number_sound (form.Opposite a) (form.Opposite b) h = ap form.Opposite (number_sound a b h)
number_sound a b h = absurd (false≢true h)

number_refl : (a : Number) → number_eq a a ≡ true
number_refl (form.Literal x) = (signed_Decides x x).1 refl
number_refl (form.NumberAt p x) = port_refl p x
number_refl (form.Sum a b) = both_true (number_eq a a) (number_eq b b) (number_refl a) (number_refl b)
number_refl (form.Difference a b) = both_true (number_eq a a) (number_eq b b) (number_refl a) (number_refl b)
number_refl (form.Opposite a) = number_refl a

choice_sound : (a b : Choice) → choice_eq a b ≡ true → a ≡ b
choice_sound (form.Named x) (form.Named y) h = ap form.Named ((bytes_eq-Decides x y).0 h)
choice_sound (form.NameAt p x) (form.NameAt q y) h = let e = port_sound p q x y h in λ j. form.NameAt (e.0 j) (e.1 j)
choice_sound a b h = absurd (false≢true h)

choice_refl : (a : Choice) → choice_eq a a ≡ true
choice_refl (form.Named x) = (bytes_eq-Decides x x).1 refl
choice_refl (form.NameAt p x) = port_refl p x

-- propositions that pass the test are equal, and equal ones pass it
pub proposition_sound : (a b : Proposition) → proposition_eq a b ≡ true → a ≡ b
proposition_sound (form.TruthAt p x) (form.TruthAt q y) h =
    let e = port_sound p q x y h in λ j. form.TruthAt (e.0 j) (e.1 j)
proposition_sound (form.Equals a b) (form.Equals c d) h =
    let parts = and_parts (number_eq a c) (number_eq b d) h in
    λ j. form.Equals (number_sound a c parts.0 j) (number_sound b d parts.1 j)
proposition_sound (form.AtMost a b) (form.AtMost c d) h =
    let parts = and_parts (number_eq a c) (number_eq b d) h in
    λ j. form.AtMost (number_sound a c parts.0 j) (number_sound b d parts.1 j)
proposition_sound (form.SameName a b) (form.SameName c d) h =
    let parts = and_parts (choice_eq a c) (choice_eq b d) h in
    λ j. form.SameName (choice_sound a c parts.0 j) (choice_sound b d parts.1 j)
proposition_sound a b h = absurd (false≢true h)

pub proposition_refl : (a : Proposition) → proposition_eq a a ≡ true
proposition_refl (form.TruthAt p x) = port_refl p x
proposition_refl (form.Equals a b) = both_true (number_eq a a) (number_eq b b) (number_refl a) (number_refl b)
proposition_refl (form.AtMost a b) = both_true (number_eq a a) (number_eq b b) (number_refl a) (number_refl b)
proposition_refl (form.SameName a b) = both_true (choice_eq a a) (choice_eq b b) (choice_refl a) (choice_refl b)

proposition_decides : (a b : Proposition) → Decides (proposition_eq a b) (a ≡ b)
proposition_decides a b =
    let P : Proposition → Type 0 = λ c. proposition_eq a c ≡ true in
    (proposition_sound a b, λ e. subst P e (proposition_refl a))

pub atom_equivalence : IsEquivalence (λ (a b : Atom). proposition_eq (proposition_of a) (proposition_of b))
atom_equivalence = on_equiv proposition_of (decided proposition_eq proposition_decides)

pub equal_atoms_feed_alike : (a b : Atom) → IsTrue (proposition_eq (proposition_of a) (proposition_of b))
    → proposition_writes (proposition_of a) ≡ proposition_writes (proposition_of b)
equal_atoms_feed_alike a b h = ap proposition_writes (proposition_sound (proposition_of a) (proposition_of b) h)
