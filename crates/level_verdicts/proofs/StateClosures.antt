-- A level is one of state formulas exactly where its closure is: each node of the closure comes from a formula of the
-- level, and each formula has a node there.
use Rattle.std.proofs.Common.{◌≡◌, ◌↔◌, ℕ, Bool, true, false, not, cond, ◌&&◌, List, [], ◌∷◌, ◌++◌, map, All}
use Rattle.std.proofs.Common.{Some, slice_get, nat_eq, refl, sym, ◌∙◌, subst}
use Rattle.std.specs.List.{AllPass, list_any, list_all, flat_map, position_or_len}
use Rattle.std.proofs.lemmas.Bool.{false≢true}
use Rattle.std.proofs.lemmas.List.Elements.{All-nil, All-cons, All-head, All-tail, All-push, All-map, All-weaker}
use Rattle.std.proofs.lemmas.List.Folds.{list_all-map}
use Rattle.std.proofs.lemmas.List.Sums.{AllPass-from_list_all, list_all-from_AllPass}
use Rattle.std.proofs.lemmas.Option.{get_or_from_slice_get, slice_get_within}
use Rattle.oss_base.specs.declared.ids.SubId.{SubId}
use Rattle.typed_ltl.specs.Formulas.{Number, Choice, Proposition, Ltl, proposition_of}
use Rattle.typed_ltl.specs.Formulas as form
use Rattle.typed_ltl.specs.Equality.{proposition_eq}
use Rattle.core_ltl.specs.declared.node.NodeId.{NodeId}
use Rattle.core_ltl.specs.declared.node.Node.{Node}
use Rattle.core_ltl.specs.declared.node.Node.TheVariants as node
use Rattle.core_ltl.specs.CoreFormulas.{Core, core_form}
use Rattle.core_ltl.specs.CoreFormulas as core
use Rattle.core_ltl.specs.Nodes.{Listing, Members, members, node_eq, StandsFor}
use Rattle.core_ltl.specs.Order.{after_node, after_formula}
use Rattle.spec_model.specs.declared.spec.Spec.{Spec}
use Rattle.spec_model.specs.declared.item.Item.{Item}
use Rattle.spec_model.specs.Expressions.{IsState, IsStateNumber, IsStateChoice, IsStateTest}
use Rattle.connections.specs.Substitution.{Reading, substituted_number, substituted_choice, substituted_test, substituted}
use Rattle.connections.specs.Substitution as by
use Rattle.levels.specs.declared.level.Level.{Level}
use Rattle.levels.specs.declared.level.PartNodes.{PartNodes}
use Rattle.levels.specs.Levels.{LevelMeaning, level_meaning, level_places, level_members, no_members, over_places}
use Rattle.levels.specs.Levels.{with_formula, with_formulas, part_formulas, part_normal_form, closure_formulas}
use Rattle.levels.specs.Levels.{IsLevel, IsNodeOf, AreAllPartNodes}
use Rattle.level_verdicts.specs.Steps.{is_state_number, is_state_choice, is_state_test, has_state_test, is_state_node, is_state_closure}
use Rattle.level_verdicts.specs.Verdicts.{IsStateLevel}

-- the test is true exactly where it is so
abbrev Tells : Bool → Type 0 → Type 0
Tells b P = (b ≡ true) ↔ P

both_true : (a b : Bool) → (a && b) ≡ true → (a ≡ true) × (b ≡ true)
both_true true true e = (refl, refl)
both_true true false e = absurd (false≢true e)
both_true false b e = absurd (false≢true e)

true_both : (a b : Bool) → a ≡ true → b ≡ true → (a && b) ≡ true
true_both true true e f = refl
true_both true false e f = absurd (false≢true f)
true_both false b e f = absurd (false≢true e)

and_tells : (a b : Bool) (P Q : Type 0) → Tells a P → Tells b Q → Tells (a && b) (P × Q)
and_tells a b P Q p q =
    (λ e. (p.0 (both_true a b e).0, q.0 (both_true a b e).1), λ h. true_both a b (p.1 h.0) (q.1 h.1))

not_tells : (b : Bool) → Tells (not b) (b ≡ false)
not_tells true = (λ e. absurd (false≢true e), λ h. absurd (false≢true (sym h)))
not_tells false = (λ e. refl, λ h. refl)

true_tells : Tells true (Unit {0})
true_tells = (λ e. tt, λ h. refl)

false_tells : Tells false ⊥
false_tells = (λ e. absurd (false≢true e), λ h. absurd h)

-- Formulas, each port at another place

abbrev moved : (ℕ → ℕ) → ℕ → Reading
moved at k = by.Free (at k)

number_tells : (at : ℕ → ℕ) (n : Number) → Tells (is_state_number (substituted_number (moved at) n)) (IsStateNumber n)
number_tells at (form.Literal z) = true_tells
number_tells at (form.NumberAt p next) = not_tells next
number_tells at (form.Sum a b) =
    and_tells (is_state_number (substituted_number (moved at) a)) (is_state_number (substituted_number (moved at) b))
    (IsStateNumber a) (IsStateNumber b) (number_tells at a) (number_tells at b)
number_tells at (form.Difference a b) =
    and_tells (is_state_number (substituted_number (moved at) a)) (is_state_number (substituted_number (moved at) b))
    (IsStateNumber a) (IsStateNumber b) (number_tells at a) (number_tells at b)
number_tells at (form.Opposite a) = number_tells at a

choice_tells : (at : ℕ → ℕ) (n : Choice) → Tells (is_state_choice (substituted_choice (moved at) n)) (IsStateChoice n)
choice_tells at (form.Named name) = true_tells
choice_tells at (form.NameAt p next) = not_tells next

-- no operator of the core formula is temporal, and none of its atoms reads a next valuation
abbrev is_state_core : Core → Bool
is_state_core core.True = true
is_state_core (core.Atomic a) = is_state_test a
is_state_core (core.Not f) = is_state_core f
is_state_core (core.And f g) = is_state_core f && is_state_core g
is_state_core (core.Next f) = false
is_state_core (core.Until f g) = false

abbrev told : (ℕ → ℕ) → Ltl → Bool
told at f = is_state_core (core_form (substituted (moved at) f))

test_tells : (at : ℕ → ℕ) (t : Proposition) → Tells (is_state_core (core_form (substituted_test (moved at) t))) (IsStateTest t)
test_tells at (form.TruthAt p next) = not_tells next
test_tells at (form.Equals a b) =
    and_tells (is_state_number (substituted_number (moved at) a)) (is_state_number (substituted_number (moved at) b))
    (IsStateNumber a) (IsStateNumber b) (number_tells at a) (number_tells at b)
test_tells at (form.AtMost a b) =
    and_tells (is_state_number (substituted_number (moved at) a)) (is_state_number (substituted_number (moved at) b))
    (IsStateNumber a) (IsStateNumber b) (number_tells at a) (number_tells at b)
test_tells at (form.SameName a b) =
    and_tells (is_state_choice (substituted_choice (moved at) a)) (is_state_choice (substituted_choice (moved at) b))
    (IsStateChoice a) (IsStateChoice b) (choice_tells at a) (choice_tells at b)

abbrev IsTold : (ℕ → ℕ) → Ltl → Type 0
IsTold at f = Tells (told at f) (IsState f)

two_tell : (at : ℕ → ℕ) (f g : Ltl) → IsTold at f → IsTold at g → Tells (told at f && told at g) (IsState f × IsState g)
two_tell at f g h k = and_tells (told at f) (told at g) (IsState f) (IsState g) h k

iff_tells : (at : ℕ → ℕ) (f g : Ltl) → IsTold at f → IsTold at g → IsTold at (form.Iff f g)
iff_tells at f g h k =
    let a = told at f in
    let b = told at g in
    let one = two_tell at f g h k in
    let two = two_tell at g f k h in
    (λ e. one.0 (both_true (a && b) (b && a) e).0, λ s. true_both (a && b) (b && a) (one.1 s) (two.1 (s.1, s.0)))

formula_tells : (at : ℕ → ℕ) (f : Ltl) → IsTold at f
formula_tells at form.True = true_tells
formula_tells at form.False = true_tells
formula_tells at (form.Atomic a) = test_tells at a
formula_tells at (form.Not f) = formula_tells at f
formula_tells at (form.And f g) = two_tell at f g (formula_tells at f) (formula_tells at g)
formula_tells at (form.Or f g) = two_tell at f g (formula_tells at f) (formula_tells at g)
formula_tells at (form.Implies f g) = two_tell at f g (formula_tells at f) (formula_tells at g)
formula_tells at (form.Iff f g) = iff_tells at f g (formula_tells at f) (formula_tells at g)
formula_tells at (form.Then f) = false_tells
formula_tells at (form.Until f g) = false_tells
formula_tells at (form.Releases f g) = false_tells
formula_tells at (form.Future f) = false_tells
formula_tells at (form.Always f) = false_tells
formula_tells at (form.Never f) = false_tells

-- Closures

abbrev AreStateMembers : Members → Type 0
AreStateMembers m = AllPass is_state_node m.nodes × AllPass is_state_test m.atoms

members_tell : (c : Listing) → Tells (is_state_closure c) (AreStateMembers (members c))
members_tell c =
    let nodes = list_all is_state_node c.nodes in
    let atoms = list_all has_state_test c.atoms in
    let tests = map proposition_of c.atoms in
    let same : list_all is_state_test tests ≡ atoms = list_all-map is_state_test proposition_of c.atoms in (
      λ e.
          (let both = both_true nodes atoms e in
          (AllPass-from_list_all is_state_node c.nodes both.0, AllPass-from_list_all is_state_test tests (same ∙ both.1))),
      λ h.
          true_both nodes atoms (list_all-from_AllPass is_state_node c.nodes h.0)
          (sym same ∙ list_all-from_AllPass is_state_test tests h.1),
    )

inserted : {X : Type 0} (p : X → Bool) (b : Bool) (xs : List X) (x : X) → AllPass p xs → p x ≡ true
    → AllPass p (cond b xs (xs ++ x ∷ []))
inserted p true xs x h e = h
inserted p false xs x h e = All-push (λ y. p y ≡ true) xs x h e

node_added : (m : Members) (x : Node) → AreStateMembers m → is_state_node x ≡ true → AreStateMembers (after_node m x).0
node_added m x h e = (inserted is_state_node (list_any (node_eq x) m.nodes) m.nodes x h.0 e, h.1)

-- a closure of state formulas stays one where a state formula is added
after_state : (f : Core) (m : Members) → AreStateMembers m → is_state_core f ≡ true → AreStateMembers (after_formula m f).0
after_state core.True m h e = node_added m node.True h refl
after_state (core.Atomic p) m h e =
    node_added (record m { atoms = cond (list_any (proposition_eq p) m.atoms) m.atoms (m.atoms ++ p ∷ []) })
    (node.Atom (record { 0 = position_or_len (proposition_eq p) m.atoms }))
    (h.0, inserted is_state_test (list_any (proposition_eq p) m.atoms) m.atoms p h.1 e) refl
after_state (core.Not f) m h e =
    let k = after_formula m f in
    node_added k.0 (node.Not k.1) (after_state f m h e) refl
after_state (core.And f g) m h e =
    let both = both_true (is_state_core f) (is_state_core g) e in
    let k = after_formula m f in
    let l = after_formula k.0 g in
    node_added l.0 (node.And k.1 l.1) (after_state g k.0 (after_state f m h both.0) both.1) refl
after_state (core.Next f) m h e = absurd (false≢true e)
after_state (core.Until f g) m h e = absurd (false≢true e)

abbrev has_state_core : Ltl → Bool
has_state_core f = is_state_core (core_form f)

with_state : (formulas : List Ltl) (m : Members) → AreStateMembers m → AllPass has_state_core formulas
    → AreStateMembers (with_formulas m formulas)
unfolding with_formulas
with_state [] m h s = h
with_state (f ∷ formulas) m h s =
    let P = λ (g : Ltl). has_state_core g ≡ true in
    with_state formulas (with_formula m f) (after_state (core_form f) m h (All-head P f formulas s)) (All-tail P f formulas s)

passes_at : {X : Type 0} (p : X → Bool) (xs : List X) → AllPass p xs → (i : ℕ) (x : X) → slice_get xs i ≡ Some x → p x ≡ true
passes_at p xs h i x e = subst (λ y. p y ≡ true) (get_or_from_slice_get xs i x x e) (h i x (slice_get_within xs i x e))

-- what has a node in a closure of state formulas is one
stands_state : (m : Members) → AreStateMembers m → (f : Core) (n : ℕ) → StandsFor m n f → is_state_core f ≡ true
stands_state m h core.True n s = refl
stands_state m h (core.Atomic p) n s = passes_at is_state_test m.atoms h.1 s.0.0 p s.2
stands_state m h (core.Not f) n s = stands_state m h f s.0.0 s.2
stands_state m h (core.And f g) n s =
    true_both (is_state_core f) (is_state_core g) (stands_state m h f s.0.0 s.3) (stands_state m h g s.1.0 s.4)
stands_state m h (core.Next f) n s = passes_at is_state_node m.nodes h.0 n (node.Next s.0) s.1
stands_state m h (core.Until f g) n s = passes_at is_state_node m.nodes h.0 n (node.Until s.0 s.1) s.2

-- Levels

abbrev place_in : List ℕ → ℕ → ℕ
place_in places k = position_or_len (nat_eq k) places

node_state : (m : Members) (places : List ℕ) → AreStateMembers m → (n : NodeId) (f : Ltl) → IsNodeOf m places n f → IsState f
node_state m places h n f s =
    (formula_tells (place_in places) f).0 (stands_state m h (core_form (over_places places f)) n.0 s)

-- both formulas of a listed contract
abbrev IsStatePair : SubId × Ltl × Ltl → Type 0
IsStatePair part = IsState part.1 × IsState part.2

parts_state : (m : Members) (places : List ℕ) → AreStateMembers m → (nodes : List PartNodes) (parts : List (SubId × Ltl × Ltl))
    → AreAllPartNodes m places nodes parts → All IsStatePair parts
parts_state m places h [] [] s = All-nil IsStatePair
parts_state m places h [] (part ∷ parts) s = absurd s
parts_state m places h (n ∷ nodes) [] s = absurd s
parts_state m places h (n ∷ nodes) (part ∷ parts) s =
    All-cons IsStatePair part parts
    (node_state m places h n.assume part.1 s.0.assume, node_state m places h n.guarantee part.2 s.0.guarantee)
    (parts_state m places h nodes parts s.1)

part_formulas_state : (parts : List (SubId × Ltl × Ltl)) → All IsStatePair parts → All IsState (flat_map part_formulas parts)
part_formulas_state [] h = All-nil IsState
part_formulas_state (part ∷ parts) h =
    let one = All-head IsStatePair part parts h in
    let more = flat_map part_formulas parts in
    let rest = part_formulas_state parts (All-tail IsStatePair part parts h) in
    All-cons IsState part.1 (part.2 ∷ part_normal_form part ∷ more) one.0
    (All-cons IsState part.2 (part_normal_form part ∷ more) one.1 (All-cons IsState (part_normal_form part) more one rest))

closure_state : (spec : Spec) (item : Item) → IsStateLevel spec item → AreStateMembers (level_members spec item)
closure_state spec item s =
    let places = level_places spec item in
    let level : LevelMeaning = level_meaning spec item in
    let P = λ (f : Ltl). has_state_core f ≡ true in
    let more = flat_map part_formulas level.parts in
    let all : All IsState (closure_formulas level) =
    All-cons IsState level.asks (level.gives ∷ more) s.asks
    (All-cons IsState level.gives more s.gives (part_formulas_state level.parts s.parts)) in
    with_state (map (over_places places) (closure_formulas level)) no_members
    (All-nil (λ (x : Node). is_state_node x ≡ true), All-nil (λ (t : Proposition). is_state_test t ≡ true))
    (All-map P (over_places places) (closure_formulas level)
    (All-weaker IsState (λ f. P (over_places places f)) (λ f g. (formula_tells (place_in places) f).1 g) (closure_formulas level) all))

level_state : (spec : Spec) (item : Item) (level : Level) → IsLevel spec item level → AreStateMembers (members level.closure)
    → IsStateLevel spec item
level_state spec item level is h =
    let m = members level.closure in
    record {
      asks = node_state m level.places h level.assume (level_meaning spec item).asks is.assume;
      gives = node_state m level.places h level.guarantee (level_meaning spec item).gives is.guarantee;
      parts = parts_state m level.places h level.parts.items (level_meaning spec item).parts is.parts;
    }

-- the closure of a level tells whether the level is one of state formulas
pub level_told : (spec : Spec) (item : Item) (level : Level) (b : Bool) → IsLevel spec item level
    → b ≡ is_state_closure level.closure → Tells b (IsStateLevel spec item)
level_told spec item level b is e =
    let told = members_tell level.closure in (
      λ t. level_state spec item level is (told.0 (sym e ∙ t)),
      λ s. e ∙ told.1 (subst AreStateMembers (sym is.closure) (closure_state spec item s)),
    )
