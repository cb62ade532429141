-- Lists that a loop goes through: what came first, what is still to come.

use Rattle.std.proofs.Common.{◌≡◌, ℕ, zero, suc, ◌+◌, ◌<◌, List, [], ◌∷◌, ◌++◌, length, take, drop, get_or, map, Some, slice_get, refl, sym, ap}
use Rattle.std.proofs.Common.{subst, ◌∙◌, arith, append_assoc}
use Rattle.std.proofs.lemmas.List.{take_more, take-append-drop, map-append}
use Rattle.std.proofs.lemmas.Grind.{flat_map-append}
use Rattle.std.specs.List.{flat_map}
use Rattle.oss_base.specs.declared.ids.SubId.{SubId}
use Rattle.typed_ltl.specs.Formulas.{Ltl, meaning}
use Rattle.spec_model.specs.declared.spec.Spec.{Spec}
use Rattle.spec_model.specs.declared.item.Item.{Item}
use Rattle.connections.specs.declared.substituting.LevelFormulas.{LevelFormulas}
use Rattle.connections.specs.declared.substituting.Part.{Part}
use Rattle.connections.specs.LevelFormulas.{AreLevelFormulas, formulas_of_part}
use Rattle.core_ltl.proofs.Added.{get_left}
use Rattle.core_ltl.specs.Nodes.{Listing, members, KeepsNumbers}
use Rattle.levels.specs.declared.level.Level.{Level}
use Rattle.levels.specs.declared.level.PartNodes.{PartNodes}
use Rattle.first_lasso.specs.FormulaPorts.{formula_ports}
use Rattle.levels.specs.Levels.{IsLevel, AreLevels, level_meaning, level_reads, part_formulas, ArePartNodes, AreAllPartNodes}
use Rattle.levels.specs.Steps.{AddsFormulas, ExceedsWith, formulas_meaning, part_reads, over_all, parts_formulas}
use Rattle.levels.proofs.Adding.{adds_both, exceeds_first, exceeds_then, parts_more, parts_stay}
use Rattle.levels.proofs.Stepwise.{to_come}

-- both parts of an empty list are empty
pub both_empty : {X : Type 0} (xs ys : List X) → xs ++ ys ≡ [] → (xs ≡ []) × (ys ≡ [])
both_empty [] ys e = (refl, e)
both_empty (x ∷ xs) ys e = cc

-- where nothing came from the elements before, the first is that of the element here
pub first_here : {X Y : Type 0} (F : X → List Y) (xs : List X) (i : ℕ) (d x : X) (y : Y) → i < length xs → get_or xs i d ≡ x
    → flat_map F (take i xs) ≡ [] → slice_get (F x) 0 ≡ Some y → slice_get (flat_map F xs) 0 ≡ Some y
first_here F [] i d x y l g e f = absurd (omega (arith, l))
first_here F (z ∷ xs) zero d x y l g e f = get_left (F z) (flat_map F xs) 0 y (subst (λ w. slice_get (F w) 0 ≡ Some y) (sym g) f)
first_here F (z ∷ xs) (suc i) d x y l g e f =
    let both = both_empty (F z) (flat_map F (take i xs)) e in
    ap (λ w. slice_get (w ++ flat_map F xs) 0) both.0 ∙ first_here F xs i d x y (omega (arith, l)) g both.1 f

-- nothing came from one element more
pub none_more : {X Y : Type 0} (F : X → List Y) (xs : List X) (i : ℕ) (d x : X) → i < length xs → get_or xs i d ≡ x
    → flat_map F (take i xs) ≡ [] → F x ≡ [] → flat_map F (take (i + 1) xs) ≡ []
none_more F xs i d x l g e f =
    ap (flat_map F) (take_more xs i d l ∙ ap (λ w. take i xs ++ w ∷ []) g)
    ∙ (flat_map-append F (take i xs) (x ∷ [])
    ∙ (ap (λ w. w ++ flat_map F (x ∷ [])) e ∙ ap (λ w. w ++ []) f))

pub levels_pushed : (spec : Spec) (items : List Item) (levels : List Level) (item : Item) (level : Level) → AreLevels spec items levels
    → IsLevel spec item level → AreLevels spec (items ++ item ∷ []) (levels ++ level ∷ [])
levels_pushed spec [] [] item level h k = (k, tt)
levels_pushed spec (i ∷ items) (x ∷ levels) item level h k = (h.0, levels_pushed spec items levels item level h.1 k)
levels_pushed spec [] (x ∷ levels) item level h k = absurd h
levels_pushed spec (i ∷ items) [] item level h k = absurd h

-- one item more was gone through
pub levels_more : (spec : Spec) (items : List Item) (levels : List Level) (i : ℕ) (d item : Item) → i < length items
    → get_or items i d ≡ item → AreLevels spec (take i items ++ item ∷ []) levels → AreLevels spec (take (i + 1) items) levels
levels_more spec items levels i d item l g h =
    subst (λ (xs : List Item). AreLevels spec xs levels) (sym (take_more items i d l ∙ ap (λ (x : Item). take i items ++ x ∷ []) g)) h

-- formulas of listed contracts

split_here : {X : Type 0} (xs : List X) (i : ℕ) (d x : X) → i < length xs → get_or xs i d ≡ x → xs ≡ take i xs ++ (x ∷ drop (i + 1) xs)
split_here xs i d x l g = sym (take-append-drop i xs) ∙ ap (λ l. take i xs ++ l) (to_come xs i d x l g)

formulas_split : (places : List ℕ) (xs : List Part) (y : Part) (ys : List Part)
    → parts_formulas places (map formulas_of_part (xs ++ y ∷ ys))
    ≡ parts_formulas places (map formulas_of_part xs)
    ++ (over_all places (part_formulas (formulas_of_part y)) ++ parts_formulas places (map formulas_of_part ys))
formulas_split places [] y ys = refl
formulas_split places (x ∷ xs) y ys =
    ap (λ zs. over_all places (part_formulas (formulas_of_part x)) ++ zs) (formulas_split places xs y ys)

-- those of all listed contracts, by those before one, its own, and those after it
pub formulas_here : (places : List ℕ) (parts : List Part) (i : ℕ) (d part : Part) → i < length parts → get_or parts i d ≡ part
    → parts_formulas places (map formulas_of_part parts)
    ≡ parts_formulas places (map formulas_of_part (take i parts))
    ++ (over_all places (part_formulas (formulas_of_part part)) ++ parts_formulas places (map formulas_of_part (drop (i + 1) parts)))
formulas_here places parts i d part l g =
    ap (λ (ps : List Part). parts_formulas places (map formulas_of_part ps)) (split_here parts i d part l g)
    ∙ formulas_split places (take i parts) part (drop (i + 1) parts)

pub formulas_more : (places : List ℕ) (parts : List Part) (i : ℕ) (d part : Part) → i < length parts → get_or parts i d ≡ part
    → parts_formulas places (map formulas_of_part (take (i + 1) parts))
    ≡ parts_formulas places (map formulas_of_part (take i parts)) ++ over_all places (part_formulas (formulas_of_part part))
formulas_more places parts i d part l g =
    ap (λ (ps : List Part). parts_formulas places (map formulas_of_part ps)) (take_more parts i d l ∙ ap (λ (p : Part). take i parts ++ p ∷ []) g)
    ∙ formulas_split places (take i parts) part []

-- the formulas of one listed contract more were added, or they were too many
pub part_added : (places : List ℕ) (parts : List Part) (i : ℕ) (d part : Part) (a b c : Listing) → i < length parts → get_or parts i d ≡ part
    → AddsFormulas a b (parts_formulas places (map formulas_of_part (take i parts)))
    → AddsFormulas b c (over_all places (part_formulas (formulas_of_part part)))
    → AddsFormulas a c (parts_formulas places (map formulas_of_part (take (i + 1) parts)))
part_added places parts i d part a b c l g h k =
    subst (AddsFormulas a c) (sym (formulas_more places parts i d part l g))
    (adds_both a b c (parts_formulas places (map formulas_of_part (take i parts))) (over_all places (part_formulas (formulas_of_part part))) h k)

pub part_exceeds : (places : List ℕ) (parts : List Part) (i : ℕ) (d part : Part) (a b : Listing) → i < length parts → get_or parts i d ≡ part
    → AddsFormulas a b (parts_formulas places (map formulas_of_part (take i parts)))
    → ExceedsWith b (over_all places (part_formulas (formulas_of_part part)))
    → ExceedsWith a (parts_formulas places (map formulas_of_part parts))
part_exceeds places parts i d part a b l g h k =
    let before = parts_formulas places (map formulas_of_part (take i parts)) in
    let here = over_all places (part_formulas (formulas_of_part part)) in
    let behind = parts_formulas places (map formulas_of_part (drop (i + 1) parts)) in
    subst (ExceedsWith a) (sym (formulas_here places parts i d part l g))
    (exceeds_then a b before (here ++ behind) h (exceeds_first b here behind k))

-- the nodes of one listed contract more
pub part_nodes : (places : List ℕ) (parts : List Part) (i : ℕ) (d part : Part) (b c : Listing) (nodes : List PartNodes) (n : PartNodes)
    → i < length parts → get_or parts i d ≡ part → KeepsNumbers b c
    → AreAllPartNodes (members b) places nodes (map formulas_of_part (take i parts)) → ArePartNodes (members c) places n (formulas_of_part part)
    → AreAllPartNodes (members c) places (nodes ++ n ∷ []) (map formulas_of_part (take (i + 1) parts))
part_nodes places parts i d part b c nodes n l g k h p =
    let more : map formulas_of_part (take (i + 1) parts) ≡ map formulas_of_part (take i parts) ++ formulas_of_part part ∷ [] =
    ap (map formulas_of_part) (take_more parts i d l ∙ ap (λ (x : Part). take i parts ++ x ∷ []) g)
    ∙ map-append formulas_of_part (take i parts) (part ∷ []) in
    subst (AreAllPartNodes (members c) places (nodes ++ n ∷ [])) (sym more)
    (parts_more (members c) places nodes (map formulas_of_part (take i parts)) n (formulas_of_part part)
    (parts_stay b c places nodes (map formulas_of_part (take i parts)) k h) p)

-- what formulas mean and read

pub meaning_is : (spec : Spec) (item : Item) (formulas : LevelFormulas) → AreLevelFormulas spec item formulas
    → formulas_meaning formulas ≡ level_meaning spec item
meaning_is spec item formulas h = λ j. record { asks = h.assume j; gives = h.guarantee j; parts = h.parts j }

parts_read : (parts : List Part) → flat_map part_reads parts
    ≡ flat_map formula_ports (flat_map (λ (part : SubId × Ltl × Ltl). part.1 ∷ part.2 ∷ []) (map formulas_of_part parts))
parts_read [] = refl
parts_read (p ∷ parts) = ap (λ l. part_reads p ++ l) (parts_read parts)
    ∙ append_assoc (formula_ports (meaning p.assume)) (formula_ports (meaning p.guarantee))
    (flat_map formula_ports (flat_map (λ (part : SubId × Ltl × Ltl). part.1 ∷ part.2 ∷ []) (map formulas_of_part parts)))

pub level_read : (formulas : LevelFormulas) (a g ports : List ℕ) → a ≡ formula_ports (formulas_meaning formulas).asks
    → g ≡ formula_ports (formulas_meaning formulas).gives → ports ≡ (a ++ g) ++ flat_map part_reads formulas.parts
    → ports ≡ level_reads (formulas_meaning formulas)
level_read formulas a g ports e f h =
    h ∙ (append_assoc a g (flat_map part_reads formulas.parts) ∙ (λ j. e j ++ (f j ++ parts_read formulas.parts j)))
