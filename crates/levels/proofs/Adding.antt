-- Formulas that are added to a closure one after the other.

use Rattle.std.proofs.Common.{◌≡◌, ℕ, ◌+◌, ◌<◌, ◌≤◌, Bool, List, [], ◌∷◌, ◌++◌, length, map, take, min, Result, Ok, Err, refl, sym, ap, subst, ◌∙◌, arith}
use Rattle.std.specs.List.{position_or_len}
use Rattle.std.proofs.lemmas.List.{length-take, length-map, take-map}
use Rattle.indexmap.specs.IndexSet.{insert_key}
use Rattle.oss_base.specs.Limits.{most_closure_members}
use Rattle.oss_base.specs.declared.ids.SubId.{SubId}
use Rattle.typed_ltl.specs.Formulas.{Ltl, proposition_of}
use Rattle.typed_ltl.specs.declared.atom.Atom.{Atom}
use Rattle.typed_ltl.specs.Equality.{proposition_eq}
use Rattle.core_ltl.specs.declared.node.Node.{Node}
use Rattle.core_ltl.specs.declared.node.Node.TheVariants as node
use Rattle.core_ltl.specs.declared.node.NodeId.{NodeId}
use Rattle.core_ltl.specs.CoreFormulas.{Core, core_form}
use Rattle.core_ltl.specs.CoreFormulas as core
use Rattle.core_ltl.specs.Nodes.{Listing, Members, members, node_eq, KeepsNumbers}
use Rattle.core_ltl.specs.Order.{after_node, after_formula}
use Rattle.core_ltl.proofs.Added.{insert_front, take_whole}
use Rattle.core_ltl.proofs.Fronts.{KeepsMembers, numbers_trans, stands_still}
use Rattle.levels.specs.declared.building.FormulaNodes.{FormulaNodes}
use Rattle.levels.specs.declared.level.PartNodes.{PartNodes}
use Rattle.levels.specs.Levels.{LevelMeaning, no_members, with_formula, with_formulas, over_places, part_formulas, part_normal_form, IsNodeOf}
use Rattle.levels.specs.Levels.{ArePartNodes, AreAllPartNodes}
use Rattle.levels.specs.Steps.{AddsFormulas, AreFormulaNodes, ExceedsWith, over_all, closure_over, parts_formulas}

-- closures grow

after : (a b c : ℕ) → a ≤ b → b ≤ c → a ≤ c
after a b c h k = omega arith

over : (a b c : ℕ) → a < b → b ≤ c → a < c
over a b c h k = omega arith

taken_whole : (n m k : ℕ) → k ≡ n → k ≡ min n m → n ≤ m
taken_whole n m k e f = omega arith

insert_grows : {X : Type 0} (eq : X → X → Bool) (xs : List X) (x : X) → length xs ≤ length (insert_key eq xs x)
insert_grows eq xs x =
    taken_whole (length xs) (length (insert_key eq xs x)) (length (take (length xs) (insert_key eq xs x)))
    (ap length (insert_front eq xs x)) (length-take (length xs) (insert_key eq xs x))

abbrev count : Members → ℕ
count m = length m.nodes

node_adds : (m : Members) (x : Node) → count m ≤ count (after_node m x).0
node_adds m x = insert_grows node_eq m.nodes x

formula_adds : (m : Members) (f : Core) → count m ≤ count (after_formula m f).0
formula_adds m core.True = node_adds m node.True
formula_adds m (core.Atomic p) =
    node_adds (record m { atoms = insert_key proposition_eq m.atoms p }) (node.Atom (record { 0 = position_or_len (proposition_eq p) m.atoms }))
formula_adds m (core.Not f) =
    let k = after_formula m f in
    after (count m) (count k.0) (count (after_node k.0 (node.Not k.1)).0) (formula_adds m f) (node_adds k.0 (node.Not k.1))
formula_adds m (core.And f g) =
    let k = after_formula m f in
    let l = after_formula k.0 g in
    let n = after_node l.0 (node.And k.1 l.1) in
    after (count m) (count l.0) (count n.0) (after (count m) (count k.0) (count l.0) (formula_adds m f) (formula_adds k.0 g))
    (node_adds l.0 (node.And k.1 l.1))
formula_adds m (core.Next f) =
    let k = after_formula m f in
    after (count m) (count k.0) (count (after_node k.0 (node.Next k.1)).0) (formula_adds m f) (node_adds k.0 (node.Next k.1))
formula_adds m (core.Until f g) =
    let k = after_formula m f in
    let l = after_formula k.0 g in
    let u = after_node l.0 (node.Until k.1 l.1) in
    let n = after_node u.0 (node.Next u.1) in
    after (count m) (count u.0) (count n.0)
    (after (count m) (count l.0) (count u.0) (after (count m) (count k.0) (count l.0) (formula_adds m f) (formula_adds k.0 g))
    (node_adds l.0 (node.Until k.1 l.1)))
    (node_adds u.0 (node.Next u.1))

formulas_add : (m : Members) (formulas : List Ltl) → count m ≤ count (with_formulas m formulas)
unfolding with_formulas
formulas_add m [] = after (count m) (count m) (count m) (omega arith) (omega arith)
formulas_add m (f ∷ formulas) =
    after (count m) (count (with_formula m f)) (count (with_formulas (with_formula m f) formulas))
    (formula_adds m (core_form f)) (formulas_add (with_formula m f) formulas)

pub with_both : (m : Members) (fs gs : List Ltl) → with_formulas m (fs ++ gs) ≡ with_formulas (with_formulas m fs) gs
unfolding with_formulas
with_both m [] gs = refl
with_both m (f ∷ fs) gs = with_both (with_formula m f) fs gs

-- one addition after another

pub adds_both : (a b c : Listing) (fs gs : List Ltl) → AddsFormulas a b fs → AddsFormulas b c gs → AddsFormulas a c (fs ++ gs)
adds_both a b c fs gs h k = record {
  after = k.after ∙ (ap (λ m. with_formulas m gs) h.after ∙ sym (with_both (members a) fs gs));
  within = k.within;
  kept = numbers_trans a b c h.kept k.kept;
}

pub adds_none : (a : Listing) → length a.nodes ≤ most_closure_members → AddsFormulas a a []
unfolding with_formulas
adds_none a l = record { after = refl; within = l; kept = record { nodes = take_whole a.nodes; atoms = take_whole a.atoms } }

-- where a front of the formulas is too many already
pub exceeds_first : (a : Listing) (fs gs : List Ltl) → ExceedsWith a fs → ExceedsWith a (fs ++ gs)
exceeds_first a fs gs h =
    subst (λ (m : Members). most_closure_members < count m) (sym (with_both (members a) fs gs))
    (over most_closure_members (count (with_formulas (members a) fs)) (count (with_formulas (with_formulas (members a) fs) gs)) h
    (formulas_add (with_formulas (members a) fs) gs))

-- where those that follow are too many
pub exceeds_then : (a b : Listing) (fs gs : List Ltl) → AddsFormulas a b fs → ExceedsWith b gs → ExceedsWith a (fs ++ gs)
exceeds_then a b fs gs h k = subst (λ (m : Members). most_closure_members < length m.nodes)
    (ap (λ m. with_formulas m gs) h.after ∙ sym (with_both (members a) fs gs)) k

-- nodes that stay

keeps_members : (a b : Listing) → KeepsNumbers a b → KeepsMembers (members a) (members b)
keeps_members a b k = record {
  nodes = k.nodes;
  atoms = ap (λ n. take n (map proposition_of b.atoms)) (length-map a.atoms proposition_of)
      ∙ (take-map proposition_of (length a.atoms) b.atoms ∙ ap (map proposition_of) k.atoms);
}

pub node_stays : (a b : Listing) (places : List ℕ) (n : NodeId) (f : Ltl) → KeepsNumbers a b → IsNodeOf (members a) places n f
    → IsNodeOf (members b) places n f
node_stays a b places n f k h = stands_still (members a) (members b) (keeps_members a b k) (core_form (over_places places f)) n.0 h

part_stays : (a b : Listing) (places : List ℕ) (nodes : PartNodes) (part : SubId × Ltl × Ltl) → KeepsNumbers a b
    → ArePartNodes (members a) places nodes part → ArePartNodes (members b) places nodes part
part_stays a b places nodes part k h = record {
  sub = h.sub;
  assume = node_stays a b places nodes.assume part.1 k h.assume;
  guarantee = node_stays a b places nodes.guarantee part.2 k h.guarantee;
  normal_form = node_stays a b places nodes.normal_form (part_normal_form part) k h.normal_form;
}

pub parts_stay : (a b : Listing) (places : List ℕ) (nodes : List PartNodes) (parts : List (SubId × Ltl × Ltl)) → KeepsNumbers a b
    → AreAllPartNodes (members a) places nodes parts → AreAllPartNodes (members b) places nodes parts
parts_stay a b places [] [] k h = tt
parts_stay a b places (n ∷ nodes) (p ∷ parts) k h = (part_stays a b places n p k h.0, parts_stay a b places nodes parts k h.1)
parts_stay a b places [] (p ∷ parts) k h = absurd h
parts_stay a b places (n ∷ nodes) [] k h = absurd h

-- one more listed contract
pub parts_more : (m : Members) (places : List ℕ) (nodes : List PartNodes) (parts : List (SubId × Ltl × Ltl)) (n : PartNodes)
    (p : SubId × Ltl × Ltl) → AreAllPartNodes m places nodes parts → ArePartNodes m places n p
    → AreAllPartNodes m places (nodes ++ n ∷ []) (parts ++ p ∷ [])
parts_more m places [] [] n p h k = (k, tt)
parts_more m places (x ∷ nodes) (q ∷ parts) n p h k = (h.0, parts_more m places nodes parts n p h.1 k)
parts_more m places [] (q ∷ parts) n p h k = absurd h
parts_more m places (x ∷ nodes) [] n p h k = absurd h

-- a listed contract's formulas over the ports that occur: the assumption, the guarantee, that the one implies the other
pub record AreThree (places : List ℕ) (part : SubId × Ltl × Ltl) (a b c d : Listing) : Type 0 where
  pub asked : AddsFormulas a b (over_places places part.1 ∷ [])
  pub given : AddsFormulas b c (over_places places part.2 ∷ [])
  pub implied : AddsFormulas c d (over_places places (part_normal_form part) ∷ [])

pub three_added : (places : List ℕ) (part : SubId × Ltl × Ltl) (a b c d : Listing) → AreThree places part a b c d
    → AddsFormulas a d (over_all places (part_formulas part))
three_added places part a b c d h =
    let f = over_places places part.1 in
    let g = over_places places part.2 in
    let i = over_places places (part_normal_form part) in
    adds_both a b d (f ∷ []) (g ∷ i ∷ []) h.asked (adds_both b c d (g ∷ []) (i ∷ []) h.given h.implied)

pub three_nodes : (places : List ℕ) (part : SubId × Ltl × Ltl) (a b c d : Listing) (nodes : PartNodes) → AreThree places part a b c d
    → nodes.sub ≡ part.0
    → IsNodeOf (members b) places nodes.assume part.1 × IsNodeOf (members c) places nodes.guarantee part.2
    × IsNodeOf (members d) places nodes.normal_form (part_normal_form part)
    → ArePartNodes (members d) places nodes part
three_nodes places part a b c d nodes h e n = record {
  sub = e;
  assume = node_stays c d places nodes.assume part.1 h.implied.kept (node_stays b c places nodes.assume part.1 h.given.kept n.0);
  guarantee = node_stays c d places nodes.guarantee part.2 h.implied.kept n.1;
  normal_form = n.2;
}

-- too many with the first, the second, the third of them
pub many_first : (places : List ℕ) (part : SubId × Ltl × Ltl) (a : Listing) → ExceedsWith a (over_places places part.1 ∷ [])
    → ExceedsWith a (over_all places (part_formulas part))
many_first places part a h =
    exceeds_first a (over_places places part.1 ∷ []) (over_places places part.2 ∷ over_places places (part_normal_form part) ∷ []) h

pub many_second : (places : List ℕ) (part : SubId × Ltl × Ltl) (a b : Listing) → AddsFormulas a b (over_places places part.1 ∷ [])
    → ExceedsWith b (over_places places part.2 ∷ []) → ExceedsWith a (over_all places (part_formulas part))
many_second places part a b k h =
    exceeds_then a b (over_places places part.1 ∷ []) (over_places places part.2 ∷ over_places places (part_normal_form part) ∷ []) k
    (exceeds_first b (over_places places part.2 ∷ []) (over_places places (part_normal_form part) ∷ []) h)

pub many_third : (places : List ℕ) (part : SubId × Ltl × Ltl) (a b c : Listing) → AddsFormulas a b (over_places places part.1 ∷ [])
    → AddsFormulas b c (over_places places part.2 ∷ []) → ExceedsWith c (over_places places (part_normal_form part) ∷ [])
    → ExceedsWith a (over_all places (part_formulas part))
many_third places part a b c k l h =
    exceeds_then a b (over_places places part.1 ∷ []) (over_places places part.2 ∷ over_places places (part_normal_form part) ∷ []) k
    (exceeds_then b c (over_places places part.2 ∷ []) (over_places places (part_normal_form part) ∷ []) l h)

-- a closure to which a contract's formulas and those of the listed ones were added, one after the other
pub record AreSteps (places : List ℕ) (level : LevelMeaning) (a b c d : Listing) : Type 0 where
  pub asks : AddsFormulas a b (over_places places level.asks ∷ [])
  pub gives : AddsFormulas b c (over_places places level.gives ∷ [])
  pub parts : AddsFormulas c d (parts_formulas places level.parts)

pub steps_added : (places : List ℕ) (level : LevelMeaning) (a b c d : Listing) → AreSteps places level a b c d
    → AddsFormulas a d (closure_over places level)
steps_added places level a b c d s =
    adds_both a b d (over_places places level.asks ∷ []) (over_places places level.gives ∷ parts_formulas places level.parts) s.asks
    (adds_both b c d (over_places places level.gives ∷ []) (parts_formulas places level.parts) s.gives s.parts)

-- the nodes stay while the rest is added
pub steps_nodes : (places : List ℕ) (level : LevelMeaning) (a b c d : Listing) (made : FormulaNodes) → AreSteps places level a b c d
    → IsNodeOf (members b) places made.assume level.asks × IsNodeOf (members c) places made.guarantee level.gives
    × AreAllPartNodes (members d) places made.parts.items level.parts
    → AreFormulaNodes (members d) places level made
steps_nodes places level a b c d made s n = record {
  assume = node_stays c d places made.assume level.asks s.parts.kept (node_stays b c places made.assume level.asks s.gives.kept n.0);
  guarantee = node_stays c d places made.guarantee level.gives s.parts.kept n.1;
  parts = n.2;
}

-- the same for a closure that had no members

pub empty_members : (a : Listing) → a.nodes ≡ [] → a.atoms ≡ [] → members a ≡ no_members
empty_members a e f = λ j. record { nodes = e j; atoms = map proposition_of (f j) }

pub empty_within : (a : Listing) → a.nodes ≡ [] → length a.nodes ≤ most_closure_members
empty_within a e = subst (λ (xs : List Node). length xs ≤ most_closure_members) (sym e) (omega arith)

pub all_after : (a d : Listing) (formulas : List Ltl) → members a ≡ no_members → AddsFormulas a d formulas
    → members d ≡ with_formulas no_members formulas
all_after a d formulas e h = h.after ∙ ap (λ (m : Members). with_formulas m formulas) e

-- it would have too many members with the assumption, with the guarantee, with the listed ones
pub too_many : (a : Listing) (formulas : List Ltl) → members a ≡ no_members → ExceedsWith a formulas
    → most_closure_members < length (with_formulas no_members formulas).nodes
too_many a formulas e h = subst (λ (m : Members). most_closure_members < length (with_formulas m formulas).nodes) e h

pub many_asked : (places : List ℕ) (level : LevelMeaning) (a : Listing) → ExceedsWith a (over_places places level.asks ∷ [])
    → ExceedsWith a (closure_over places level)
many_asked places level a h =
    exceeds_first a (over_places places level.asks ∷ []) (over_places places level.gives ∷ parts_formulas places level.parts) h

pub many_given : (places : List ℕ) (level : LevelMeaning) (a b : Listing) → AddsFormulas a b (over_places places level.asks ∷ [])
    → ExceedsWith b (over_places places level.gives ∷ []) → ExceedsWith a (closure_over places level)
many_given places level a b k h =
    exceeds_then a b (over_places places level.asks ∷ []) (over_places places level.gives ∷ parts_formulas places level.parts) k
    (exceeds_first b (over_places places level.gives ∷ []) (parts_formulas places level.parts) h)

pub many_listed : (places : List ℕ) (level : LevelMeaning) (a b c : Listing) → AddsFormulas a b (over_places places level.asks ∷ [])
    → AddsFormulas b c (over_places places level.gives ∷ []) → ExceedsWith c (parts_formulas places level.parts)
    → ExceedsWith a (closure_over places level)
many_listed places level a b c k l h =
    exceeds_then a b (over_places places level.asks ∷ []) (over_places places level.gives ∷ parts_formulas places level.parts) k
    (exceeds_then b c (over_places places level.gives ∷ []) (parts_formulas places level.parts) l h)

-- an error is the same beside any kind of value
abbrev error_of : {T E : Type 0} → E → Result T E → E
error_of e (Ok value) = e
error_of e (Err f) = f

-- the error beside values of a type
abbrev pub err_of : (T : Type 0) {E : Type 0} → E → Result T E
err_of T e = Err e

pub same_error : {T U E : Type 0} (e f : E) → err_of T e ≡ err_of T f → err_of U e ≡ err_of U f
same_error e f h = ap Err (ap (error_of e) h)
