-- The questions of a level read the ports that occur in it alone.
use Rattle.std.proofs.Common.{◌≡◌, ℕ, zero, suc, ◌+◌, ◌<◌, Bool, true, false, cond, List, [], ◌∷◌, ◌++◌, filter, length, get_or, nat_eq}
use Rattle.std.proofs.Common.{All, AllPairs, Contains, Some, slice_get, flat_map, ap, ◌∙◌, subst, arith}
use Rattle.std.specs.List.{list_any, range_with_len}
use Rattle.std.proofs.lemmas.Bool.{false≢true}
use Rattle.std.proofs.lemmas.List.Elements.{All-nil, All-cons, All-head, All-tail, All-append, All-filter, All-map, All-weaker, All-contains}
use Rattle.std.proofs.lemmas.List.Elements.{Contains-get_or, Contains-append_left, Contains-append_right}
use Rattle.std.proofs.lemmas.List.FromFn.{length-range_with_len, get_or-range_with_len}
use Rattle.std.proofs.lemmas.List.Kept.{AllPairs-filter}
use Rattle.std.proofs.lemmas.Option.{get_or_from_slice_get, slice_get_within}
use Rattle.oss_base.specs.declared.ids.SubId.{SubId}
use Rattle.port_types.specs.declared.sets.Set24.{Set24}
use Rattle.port_types.specs.declared.types.PortType.{PortType}
use Rattle.port_types.specs.Sets.{has_place}
use Rattle.typed_ltl.specs.Formulas.{Ltl}
use Rattle.first_lasso.specs.FormulaPorts.{formula_ports}
use Rattle.first_lasso.specs.UsedPorts.{AreUsed}
use Rattle.first_lasso.proofs.Narrowing.{is_listed}
use Rattle.levels.specs.Levels.{LevelMeaning, part_normal_form, level_reads, occurring}
use Rattle.levels.specs.LevelQuestions.{with_normal_forms, broken_contract, entailment, is_of_other_sub, met_assumption, outside_set}
use Rattle.levels.specs.LevelQuestions.{entailment_without}
use Rattle.narrowed_questions.proofs.AskedQuestions.{ReadPlaces}

-- ---- the ports that occur are used ones, in order

range_below : (n : ℕ) → All (λ p. p < n) (range_with_len 0 n)
range_below n k d lt =
    let within : k < n = omega (arith, lt, length-range_with_len 0 n) in
    omega (arith, within, get_or-range_with_len 0 n k d within)

range_rises : (n : ℕ) → AllPairs (λ p q. p < q) (range_with_len 0 n)
range_rises n i j d lt within =
    let last : j < n = omega (arith, within, length-range_with_len 0 n) in
    let first : i < n = omega (arith, lt, last) in
    omega (arith, lt, get_or-range_with_len 0 n i d first, get_or-range_with_len 0 n j d last)

pub occurring_are_used : (ports : List PortType) (n : ℕ) (level : LevelMeaning) → n ≡ length ports → AreUsed ports (occurring n level)
occurring_are_used ports n level e =
    let test = λ (k : ℕ). list_any (nat_eq k) (level_reads level) in
    record {
      below = subst (λ (m : ℕ). All (λ p. p < m) (occurring n level)) e (All-filter test (λ p. p < n) (range_with_len 0 n) (range_below n));
      rising = AllPairs-filter (λ p q. p < q) test (range_with_len 0 n) (range_rises n);
    }

-- what passes stays
moved : (y : ℕ) (ys : List ℕ) (x : ℕ) (b : Bool) → Contains ys x → Contains (cond b (y ∷ ys) ys) x
moved y ys x true c = Contains-append_right (y ∷ []) ys x c
moved y ys x false c = c

here : (y : ℕ) (ys : List ℕ) (x : ℕ) (b : Bool) → b ≡ true → y ≡ x → Contains (cond b (y ∷ ys) ys) x
here y ys x true t same = (0, omega arith, same)
here y ys x false t same = absurd (false≢true t)

kept : (p : ℕ → Bool) (xs : List ℕ) (x : ℕ) → p x ≡ true → (k : ℕ) → k < length xs → get_or xs k x ≡ x → Contains (filter p xs) x
kept p [] x e k lt same = absurd (omega (arith, lt))
kept p (y ∷ xs) x e zero lt same = here y (filter p xs) x (p y) (ap p same ∙ e) same
kept p (y ∷ xs) x e (suc k) lt same = moved y (filter p xs) x (p y) (kept p xs x e k (omega (arith, lt)) same)

pub read_occurs : (n : ℕ) (level : LevelMeaning) (p : ℕ) → p < n → Contains (level_reads level) p → Contains (occurring n level) p
read_occurs n level p lt c =
    let is : get_or (range_with_len 0 n) p p ≡ p = omega (arith, get_or-range_with_len 0 n p p lt) in
    kept (λ k. list_any (nat_eq k) (level_reads level)) (range_with_len 0 n) p (is_listed (level_reads level) p c) p
    (omega (arith, lt, length-range_with_len 0 n)) is

-- ---- the formulas of questions read what the level reads

abbrev pub Among : List ℕ → Ltl → Type 0
Among reads f = All (Contains reads) (formula_ports f)

abbrev pub PartAmong : List ℕ → SubId × Ltl × Ltl → Type 0
PartAmong reads part = Among reads part.1 × Among reads part.2

abbrev pub SignedAmong : List ℕ → Ltl × Bool → Type 0
SignedAmong reads e = Among reads e.0

-- what these ports are among, so is each formula that has them
among_by : (reads : List ℕ) (f : Ltl) → ((p : ℕ) → Contains (formula_ports f) p → Contains reads p) → Among reads f
among_by reads f h k d lt = h (get_or (formula_ports f) k d) (Contains-get_or (formula_ports f) k d lt)

abbrev formulas_of : List (SubId × Ltl × Ltl) → List Ltl
formulas_of parts = flat_map (λ (part : SubId × Ltl × Ltl). part.1 ∷ part.2 ∷ []) parts

parts_among : (reads : List ℕ) (parts : List (SubId × Ltl × Ltl))
    → ((p : ℕ) → Contains (flat_map formula_ports (formulas_of parts)) p → Contains reads p) → All (PartAmong reads) parts
parts_among reads [] h = All-nil (PartAmong reads)
parts_among reads (part ∷ parts) h =
    let a = formula_ports part.1 in
    let b = formula_ports part.2 in
    let rest = flat_map formula_ports (formulas_of parts) in
    All-cons (PartAmong reads) part parts (
      among_by reads part.1 (λ p c. h p (Contains-append_left a (b ++ rest) p c)),
      among_by reads part.2 (λ p c. h p (Contains-append_right a (b ++ rest) p (Contains-append_left b rest p c))),
    )
    (parts_among reads parts (λ p c. h p (Contains-append_right a (b ++ rest) p (Contains-append_right b rest p c))))

pub record LevelAmong (level : LevelMeaning) : Type 0 where
  pub asks : Among (level_reads level) level.asks
  pub gives : Among (level_reads level) level.gives
  pub parts : All (PartAmong (level_reads level)) level.parts

pub level_among : (level : LevelMeaning) → LevelAmong level
level_among level =
    let a = formula_ports level.asks in
    let b = formula_ports level.gives in
    let rest = flat_map formula_ports (formulas_of level.parts) in
    record {
      asks = among_by (level_reads level) level.asks (λ p c. Contains-append_left a (b ++ rest) p c);
      gives = among_by (level_reads level) level.gives (λ p c. Contains-append_right a (b ++ rest) p (Contains-append_left b rest p c));
      parts = parts_among (level_reads level) level.parts (λ p c. Contains-append_right a (b ++ rest) p (Contains-append_right b rest p c));
    }

forms_among : (reads : List ℕ) (parts : List (SubId × Ltl × Ltl)) → All (PartAmong reads) parts
    → All (SignedAmong reads) (with_normal_forms parts)
forms_among reads parts h =
    All-map (SignedAmong reads) (λ (part : SubId × Ltl × Ltl). (part_normal_form part, true)) parts
    (All-weaker (PartAmong reads) (λ part. SignedAmong reads (part_normal_form part, true)) (λ part g.
    All-append (Contains reads) (formula_ports part.1) (formula_ports part.2) g.0 g.1) parts h)

outside_among : (reads : List ℕ) (set : Set24) (k : ℕ) (parts : List (SubId × Ltl × Ltl)) → All (PartAmong reads) parts
    → All (PartAmong reads) (outside_set set k parts)
outside_among reads set k [] h = h
outside_among reads set k (part ∷ parts) h =
    chosen (has_place set k) (All-head (PartAmong reads) part parts h)
    (outside_among reads set (k + 1) parts (All-tail (PartAmong reads) part parts h))
  where
    chosen : (b : Bool) → PartAmong reads part → All (PartAmong reads) (outside_set set (k + 1) parts)
        → All (PartAmong reads) (cond b (outside_set set (k + 1) parts) (part ∷ outside_set set (k + 1) parts))
    chosen true g rest = rest
    chosen false g rest = All-cons (PartAmong reads) part (outside_set set (k + 1) parts) g rest

broken_among : (level : LevelMeaning) → All (SignedAmong (level_reads level)) (broken_contract level)
broken_among level =
    let P = SignedAmong (level_reads level) in
    let h = level_among level in
    All-cons P (level.asks, true) ((level.gives, false) ∷ []) h.asks (All-cons P (level.gives, false) [] h.gives (All-nil P))

pub entailment_among : (level : LevelMeaning) → All (SignedAmong (level_reads level)) (entailment level)
entailment_among level =
    All-append (SignedAmong (level_reads level)) (with_normal_forms level.parts) (broken_contract level)
    (forms_among (level_reads level) level.parts (level_among level).parts) (broken_among level)

pub drop_among : (set : Set24) (level : LevelMeaning) → All (SignedAmong (level_reads level)) (entailment_without set level)
drop_among set level =
    All-append (SignedAmong (level_reads level)) (with_normal_forms (outside_set set 0 level.parts)) (broken_contract level)
    (forms_among (level_reads level) (outside_set set 0 level.parts)
    (outside_among (level_reads level) set 0 level.parts (level_among level).parts)) (broken_among level)

pub assumption_among : (level : LevelMeaning) (part : SubId × Ltl × Ltl) → PartAmong (level_reads level) part
    → All (SignedAmong (level_reads level)) (met_assumption level part)
assumption_among level part g =
    let reads = level_reads level in
    let P = SignedAmong (level_reads level) in
    let others = filter (is_of_other_sub part.0) level.parts in
    All-cons P (level.asks, true) (with_normal_forms others ++ (part.1, false) ∷ []) (level_among level).asks
    (All-append P (with_normal_forms others) ((part.1, false) ∷ [])
    (forms_among reads others (All-filter (is_of_other_sub part.0) (PartAmong reads) level.parts (level_among level).parts))
    (All-cons P (part.1, false) [] g.0 (All-nil P)))

-- ---- so they read the ports that occur, where the level reads ports below n

pub read_places : (n : ℕ) (level : LevelMeaning) (formulas : List (Ltl × Bool)) → All (λ p. p < n) (level_reads level)
    → All (SignedAmong (level_reads level)) formulas → ReadPlaces (occurring n level) formulas
read_places n level formulas below h =
    All-weaker (SignedAmong (level_reads level)) (SignedAmong (occurring n level)) (λ e g.
    All-weaker (Contains (level_reads level)) (Contains (occurring n level)) (λ p c.
    read_occurs n level p (All-contains (λ q. q < n) (level_reads level) p below c) c) (formula_ports e.0) g) formulas h

-- a part of the level is among what it reads
pub part_at : (reads : List ℕ) (parts : List (SubId × Ltl × Ltl)) → All (PartAmong reads) parts
    → (j : ℕ) (part : SubId × Ltl × Ltl) → slice_get parts j ≡ Some part → PartAmong reads part
part_at reads parts h j part e =
    subst (λ (q : SubId × Ltl × Ltl). PartAmong reads q) (get_or_from_slice_get parts j part part e) (h j part (slice_get_within parts j part e))
