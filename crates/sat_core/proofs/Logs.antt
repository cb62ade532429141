-- A log made of derivations derives.
use Rattle.std.proofs.Common.{◌≡◌, ◌≢◌, ◌<◌, ◌≤◌, ◌+◌, ◌-◌, ◌^◌, ℕ, zero, suc, Bool, true, false, List, [], ◌∷◌, ◌++◌, length, take, get_or, set, map}
use Rattle.std.proofs.Common.{Some, slice_get, refl, sym, ap, ◌∙◌, subst, inl, inr, ◌⊎◌, arith, length-append}
use Rattle.std.proofs.lemmas.List.{get_or_append_left, get_or-append_right, get_or_push, length_push, take-append-le, take_all, length-take, length-map}
use Rattle.std.proofs.lemmas.List.{map_push, append_assoc, get_or-take, get_or_read, get_or-set_same, get_or-set_other, set_past, length-set}
use Rattle.std.proofs.lemmas.Bool.{cases_lt, cases_eq}
use Rattle.std.proofs.lemmas.Option.{slice_get_within, slice_get-get_or, get_or_from_slice_get}
use Rattle.cnf.specs.declared.lit.Lit.{Lit}
use Rattle.clause_log.specs.declared.chain.Chain.{Chain}
use Rattle.clause_log.specs.declared.chain.Pivot.{Pivot}
use Rattle.clause_log.specs.Derivations.{Resolves, Leads, Follows, clauses_before, EachFollows, Derives}
use Rattle.sat_core.specs.declared.clause_ref.ClauseRef.{ClauseRef}
use Rattle.sat_core.specs.declared.clause_ref.ClauseRef.TheVariants.{Added, Learnt, Assumed}
use Rattle.sat_core.specs.declared.chain.Resolution.{Resolution}
use Rattle.sat_core.specs.declared.chain.Derivation.{Derivation}
use Rattle.sat_core.specs.Search.{ClauseLists, clause_lists, unit_clause, HasClause, clause_of, ResolvesTo, IsDerivation}
use Rattle.sat_core.specs.Decisions.{AreDerivations}
use Rattle.sat_core.specs.Numbering.{log_number, log_pivot, HasNumber, AllHaveNumbers, IsBelow, AllBelow, IsNeeded, AllNeeded, clauses_with_units}
use Rattle.sat_core.specs.Numbering.{IsNumbered, marks_with, MarksMore, AreBelow, AreNeeded}

-- the sources that are needed name in the list of clauses, by their numbers, what they name
abbrev pub IsPlaced : ClauseLists → List Bool → (ClauseRef → ℕ) → List (List Lit) → Type 0
IsPlaced k needed number clauses =
    (reason : ClauseRef) → HasClause k reason → IsNeeded needed reason → (number reason < length clauses) ×
    (get_or clauses (number reason) [] ≡ clause_of k reason)

leads : (k : ClauseLists) (needed : List Bool) (na : ℕ) (numbers : List ℕ) (clauses : List (List Lit))
    → IsPlaced k needed (log_number na numbers) clauses
    → (so_far : List Lit) (resolutions : List Resolution) (clause : List Lit)
    → ((p : ℕ) (none : Resolution) → p < length resolutions → IsNeeded needed (get_or resolutions p none).reason)
    → ResolvesTo k so_far resolutions clause → Leads clauses so_far (map (log_pivot na numbers) resolutions) clause
leads k needed na numbers clauses placed so_far [] clause need r = r
leads k needed na numbers clauses placed so_far (resolution ∷ resolutions) clause need r =
    let at = placed resolution.reason r.0 (need 0 resolution (omega arith)) in (
      at.0,
      (
        r.1.0,
        r.1.1,
        r.1.2,
        subst (λ (c : List Lit). Resolves so_far c r.1.0 r.1.1) (sym at.1) r.1.3,
        leads k needed na numbers clauses placed r.1.1 resolutions clause (λ p none h. need (suc p) none (omega arith)) r.1.4,
      ),
    )

pub follows_from : (k : ClauseLists) (needed : List Bool) (na : ℕ) (numbers : List ℕ) (clauses : List (List Lit))
    (first : ClauseRef)
    (resolutions : List Resolution) (chain : Chain) → IsPlaced k needed (log_number na numbers) clauses → AllNeeded needed first resolutions
    → IsDerivation k first resolutions chain.clause → chain.first ≡ log_number na numbers first → chain.rest ≡ map
    (log_pivot na numbers) resolutions
    → Follows clauses chain
follows_from k needed na numbers clauses first resolutions chain placed need d e f =
    let at = placed first d.named need.of_first in
    let l = leads k needed na numbers clauses placed (clause_of k first) resolutions chain.clause need.of_rest d.reached in
    let l2 = subst (λ (c : List Lit). Leads clauses c (map (log_pivot na numbers) resolutions) chain.clause)
    (sym (ap (λ n. get_or clauses n []) e ∙ at.1)) l in
    (subst (λ n. n < length clauses) (sym e) at.0, subst (λ (ps : List Pivot). Leads clauses (get_or clauses chain.first []) ps chain.clause) (sym f) l2)

-- before the chain behind a log stand the clauses of the whole log
before_push : (cnf : List (List Lit)) (log : List Chain) (chain : Chain) (k : ℕ) → k ≤ length log
    → clauses_before cnf (log ++ chain ∷ []) k ≡ clauses_before cnf log k
before_push cnf log chain k h = ap (λ (l : List Chain). cnf ++ map (λ c. c.clause) l) (take-append-le k log (chain ∷ []) h)

before_all : (cnf : List (List Lit)) (log : List Chain) (chain : Chain)
    → clauses_before cnf (log ++ chain ∷ []) (length (log ++ chain ∷ [])) ≡ clauses_before cnf log (length log)
    ++ chain.clause ∷ []
before_all cnf log chain =
    let name : Chain → List Lit = λ c. c.clause in
    ap (λ (l : List Chain). cnf ++ map name l) (take_all (length (log ++ chain ∷ [])) (log ++ chain ∷ []) (omega arith))
    ∙ ap (λ (l : List (List Lit)). cnf ++ l) (map_push name log chain)
    ∙ sym (append_assoc cnf (map name log) (chain.clause ∷ []))
    ∙ ap (λ (l : List Chain). (cnf ++ map name l) ++ chain.clause ∷ []) (sym (take_all (length log) log (omega arith)))

length_before : (cnf : List (List Lit)) (log : List Chain)
    → length (clauses_before cnf log (length log)) ≡ length cnf + length log
length_before cnf log =
    let name : Chain → List Lit = λ c. c.clause in
    length-append cnf (map name (take (length log) log))
    ∙ ap (λ n. length cnf + n) (length-map (take (length log) log) name ∙ ap length (take_all (length log) log (omega arith)))

-- a log one chain longer
pub follows_push : (cnf : List (List Lit)) (log : List Chain) (chain : Chain) → EachFollows cnf log
    → Follows (clauses_before cnf log (length log)) chain → EachFollows cnf (log ++ chain ∷ [])
follows_push cnf log chain old last k c at =
    let within : k < length (log ++ chain ∷ []) = slice_get_within (log ++ chain ∷ []) k c at in
    let read : get_or (log ++ chain ∷ []) k c ≡ c = get_or_from_slice_get (log ++ chain ∷ []) k c c at in
    elim (cases_lt k (length log)) [
      | inl lt ↦
          let here : get_or log k c ≡ c = sym (get_or_append_left log (chain ∷ []) c k lt) ∙ read in
          let was : slice_get log k ≡ Some c = slice_get-get_or log k c lt ∙ ap Some here in
          subst (λ ls. Follows ls c) (sym (before_push cnf log chain k (omega arith))) (old k c was)
      | inr ge ↦
          let end : k ≡ length log = omega (arith, length_push log chain) in
          let same : chain ≡ c = sym (get_or_push log chain c k (sym end)) ∙ read in
          subst (λ (x : Chain). Follows (clauses_before cnf (log ++ chain ∷ []) k) x) same
          (subst (λ ls. Follows ls chain) (sym (before_push cnf log chain k (omega arith) ∙ ap (λ n. clauses_before cnf log n) end)) last)
    ]

pub none_follow : (cnf : List (List Lit)) → EachFollows cnf []
none_follow cnf k c at = absurd (omega (arith, slice_get_within [] k c at))

pub placed_by : (added learnt : List (List Lit)) (assumed units : List Lit) (needed : List Bool) (count : ℕ)
    (numbers : List ℕ) (log : List Chain)
    → (units ≡ assumed) ⊎ (units ≡ []) → count ≤ length learnt
    → IsNumbered added learnt assumed needed count numbers log
    → IsPlaced (clause_lists added (take count learnt) units) needed (log_number (length added) numbers)
    (clauses_before (clauses_with_units added assumed) log (length log))
placed_by added learnt assumed units needed count numbers log u short n (Added p) named need =
    let cnf = clauses_with_units added assumed in
    let len = length_before cnf log in
    let name : Chain → List Lit = λ c. c.clause in
    let la = length-append added (map unit_clause assumed) in
    let in_cnf : p < length cnf = omega (arith, named, la) in (
      omega (arith, len, in_cnf),
      get_or_append_left cnf (map name (take (length log) log)) [] p in_cnf ∙ get_or_append_left added (map unit_clause assumed) [] p named,
    )
placed_by added learnt assumed units needed count numbers log (inl u) short n (Assumed p) named need =
    let cnf = clauses_with_units added assumed in
    let len = length_before cnf log in
    let name : Chain → List Lit = λ c. c.clause in
    let la = length-append added (map unit_clause assumed) in
    let named2 : p < length (map unit_clause assumed) = subst (λ (us : List Lit). p < length (map unit_clause us)) u named in
    let in_cnf : length added + p < length cnf = omega (arith, named2, la) in
    let le : length added ≤ length added + p = omega arith in
    let back : length added + p - length added ≡ p = omega arith in (
      omega (arith, len, in_cnf),
      get_or_append_left cnf (map name (take (length log) log)) [] (length added + p) in_cnf
          ∙ get_or-append_right added (map unit_clause assumed) (length added) (length added + p) [] refl le
          ∙ ap (λ q. get_or (map unit_clause assumed) q []) back
          ∙ ap (λ (us : List Lit). get_or (map unit_clause us) p []) (sym u),
    )
placed_by added learnt assumed units needed count numbers log (inr u) short n (Assumed p) named need =
    let named2 : p < length (map unit_clause []) = subst (λ (us : List Lit). p < length (map unit_clause us)) u named in
    absurd (omega (arith, named2))
placed_by added learnt assumed units needed count numbers log u short n (Learnt p) named need =
    let len = length_before (clauses_with_units added assumed) log in
    let lt : p < count = omega (arith, named, length-take count learnt) in
    let at = n.numbered p lt need in
    (omega (arith, len, at.0), at.1 ∙ sym (get_or-take count learnt p [] lt))

-- a learnt clause more that is needed, with its chain
pub IsNumbered-chain : (added learnt : List (List Lit)) (assumed : List Lit) (needed : List Bool) (count number : ℕ)
    (numbers : List ℕ)
    (log : List Chain) (chain : Chain) → IsNumbered added learnt assumed needed count numbers log
    → Follows (clauses_before (clauses_with_units added assumed) log (length log)) chain → chain.clause
    ≡ get_or learnt count []
    → number ≡ length (clauses_with_units added assumed) + length log
    → IsNumbered added learnt assumed needed (count + 1) (numbers ++ number ∷ []) (log ++ chain ∷ [])
IsNumbered-chain added learnt assumed needed count number numbers log chain n f c e =
    let cnf = clauses_with_units added assumed in
    let all = before_all cnf log chain in
    let len = length_before cnf log in
    let grown = length_push log chain in
    record {
      counted = length_push numbers number ∙ ap (λ m. m + 1) n.counted;
      follows = follows_push cnf log chain n.follows f;
      numbered = λ p h need. elim (cases_eq p count) [
        | inl at ↦
            let here : get_or (numbers ++ number ∷ []) p 0 ≡ number = get_or_push numbers number 0 p (n.counted ∙ sym at) in (
              omega (arith, here, e, grown),
              ap (λ m. get_or (clauses_before cnf (log ++ chain ∷ []) (length (log ++ chain ∷ []))) m []) here
                  ∙ ap (λ ls. get_or ls number []) all
                  ∙ get_or_push (clauses_before cnf log (length log)) chain.clause [] number (len ∙ sym e)
                  ∙ c ∙ ap (λ q. get_or learnt q []) (sym at),
            )
        | inr other ↦
            let lt : p < count = omega (arith, other) in
            let old = n.numbered p lt need in
            let here : get_or (numbers ++ number ∷ []) p 0 ≡ get_or numbers p 0 = get_or_append_left numbers (number ∷ []) 0 p
            (omega (arith, lt, n.counted)) in (
              omega (arith, here, old.0, grown),
              ap (λ m. get_or (clauses_before cnf (log ++ chain ∷ []) (length (log ++ chain ∷ []))) m []) here
                  ∙ ap (λ ls. get_or ls (get_or numbers p 0) []) all
                  ∙ get_or_append_left (clauses_before cnf log (length log)) (chain.clause ∷ []) [] (get_or numbers p 0) (omega (arith, len, old.0))
                  ∙ old.1,
            )
      ];
    }

-- a learnt clause more that isn't needed
pub IsNumbered-skip : (added learnt : List (List Lit)) (assumed : List Lit) (needed : List Bool) (count number : ℕ)
    (numbers : List ℕ)
    (log : List Chain) → IsNumbered added learnt assumed needed count numbers log → get_or needed count true ≡ false
    → IsNumbered added learnt assumed needed (count + 1) (numbers ++ number ∷ []) log
IsNumbered-skip added learnt assumed needed count number numbers log n skip =
    let cnf = clauses_with_units added assumed in
    record {
      counted = length_push numbers number ∙ ap (λ m. m + 1) n.counted;
      follows = n.follows;
      numbered = λ p h need. elim (cases_eq p count) [
        | inl at ↦
            let clash : true ≡ false = sym need ∙ ap (λ q. get_or needed q true) at ∙ skip in
            absurd (cc)
        | inr other ↦
            let lt : p < count = omega (arith, other) in
            let old = n.numbered p lt need in
            let here : get_or (numbers ++ number ∷ []) p 0 ≡ get_or numbers p 0 = get_or_append_left numbers (number ∷ []) 0 p
            (omega (arith, lt, n.counted)) in (
              omega (arith, here, old.0),
              ap (λ m. get_or (clauses_before cnf log (length log)) m []) here ∙ old.1,
            )
      ];
    }

-- the log with the chain of the empty clause behind it
pub derives_by : (added learnt : List (List Lit)) (assumed : List Lit) (needed : List Bool) (count : ℕ)
    (numbers : List ℕ) (log : List Chain)
    (chain : Chain) → IsNumbered added learnt assumed needed count numbers log
    → Follows (clauses_before (clauses_with_units added assumed) log (length log)) chain → chain.clause ≡ []
    → Derives (clauses_with_units added assumed) (log ++ chain ∷ [])
derives_by added learnt assumed needed count numbers log chain n f e = record {
  each = follows_push (clauses_with_units added assumed) log chain n.follows f;
  ends = (log, chain, refl, e);
}

-- what a derivation names has a number
reaches_named : (k : ClauseLists) (so_far : List Lit) (resolutions : List Resolution) (clause : List Lit)
    → ResolvesTo k so_far resolutions clause → (place : ℕ) (none : Resolution) → place < length resolutions
    → HasClause k (get_or resolutions place none).reason
reaches_named k so_far [] clause r place none h = absurd (omega arith)
reaches_named k so_far (resolution ∷ resolutions) clause r zero none h = r.0
reaches_named k so_far (resolution ∷ resolutions) clause r (suc place) none h = reaches_named k r.1.1 resolutions clause r.1.4 place none (omega arith)

named_number : (added learnt : List (List Lit)) (units : List Lit) (numbers : List ℕ) (reason : ClauseRef)
    → length learnt ≤ length numbers → length added + length units < 2 ^ 64
    → HasClause (clause_lists added learnt units) reason → HasNumber (length added) numbers reason
named_number added learnt units numbers (Added p) h w n = tt
named_number added learnt units numbers (Assumed p) h w n = omega (arith, n, length-map units unit_clause)
named_number added learnt units numbers (Learnt p) h w n = omega (arith, n)

pub derived_numbers : (added learnt : List (List Lit)) (units : List Lit) (numbers : List ℕ) (first : ClauseRef)
    (resolutions : List Resolution)
    (clause : List Lit) → length learnt ≤ length numbers → length added + length units < 2 ^ 64
    → IsDerivation (clause_lists added learnt units) first resolutions clause → AllHaveNumbers
    (length added) numbers first resolutions
derived_numbers added learnt units numbers first resolutions clause h w d = record {
  of_first = named_number added learnt units numbers first h w d.named;
  of_rest = λ place none lt. named_number added learnt units numbers (get_or resolutions place none).reason h w
      (reaches_named _ _ resolutions clause d.reached place none lt);
}

named_below : (added learnt : List (List Lit)) (units : List Lit) (n : ℕ) (reason : ClauseRef) → length learnt ≤ n
    → HasClause (clause_lists added learnt units) reason → IsBelow n reason
named_below added learnt units n (Added p) h w = tt
named_below added learnt units n (Assumed p) h w = tt
named_below added learnt units n (Learnt p) h w = omega (arith, w)

-- a derivation names only clauses learnt before
pub derived_below : (added learnt : List (List Lit)) (units : List Lit) (n : ℕ) (first : ClauseRef)
    (resolutions : List Resolution)
    (clause : List Lit) → length learnt ≤ n → IsDerivation (clause_lists added learnt units) first resolutions clause → AllBelow n first resolutions
derived_below added learnt units n first resolutions clause h d = record {
  of_first = named_below added learnt units n first h d.named;
  of_rest = λ place none lt. named_below added learnt units n (get_or resolutions place none).reason h
      (reaches_named _ _ resolutions clause d.reached place none lt);
}

-- marks
marked_more : (needed : List Bool) (reason : ClauseRef) (p : ℕ) → get_or needed p true ≡ true
    → get_or (marks_with needed reason) p true ≡ true
marked_more needed (Added q) p e = e
marked_more needed (Assumed q) p e = e
marked_more needed (Learnt q) p e = elim (cases_eq p q) [
  | inl same ↦ elim (cases_lt q (length needed)) [
    | inl h ↦ ap (λ k. get_or (set needed q true) k true) same ∙ get_or-set_same needed q true true h
    | inr past ↦ ap (λ l. get_or l p true) (set_past needed q true past) ∙ e
  ]
  | inr other ↦ get_or-set_other needed q p true true other ∙ e
]

marked_kept : (needed : List Bool) (reason : ClauseRef) (n p : ℕ) → IsBelow n reason → n ≤ p
    → get_or (marks_with needed reason) p true ≡ get_or needed p true
marked_kept needed (Added q) n p b h = refl
marked_kept needed (Assumed q) n p b h = refl
marked_kept needed (Learnt q) n p b h = let other : p ≢ q = omega (arith, b) in get_or-set_other needed q p true true other

marked_itself : (needed : List Bool) (reason : ClauseRef) → IsBelow (length needed) reason
    → IsNeeded (marks_with needed reason) reason
marked_itself needed (Added q) b = tt
marked_itself needed (Assumed q) b = tt
marked_itself needed (Learnt q) b = get_or-set_same needed q true true b

marked_other : (needed : List Bool) (reason other : ClauseRef) → IsNeeded needed other
    → IsNeeded (marks_with needed reason) other
marked_other needed reason (Added q) n = tt
marked_other needed reason (Assumed q) n = tt
marked_other needed reason (Learnt q) n = marked_more needed reason q n

length_marked : (needed : List Bool) (reason : ClauseRef) → length (marks_with needed reason) ≡ length needed
length_marked needed (Added q) = refl
length_marked needed (Assumed q) = refl
length_marked needed (Learnt q) = length-set needed q true

-- the marks after the first resolutions
pub record IsMarkedSoFar (old new : List Bool) (first : ClauseRef) (resolutions : List Resolution) (count : ℕ) : Type 0 where
  pub more : (place : ℕ) → get_or old place true ≡ true → get_or new place true ≡ true
  pub of_first : IsNeeded new first
  pub of_rest : (place : ℕ) (none : Resolution) → place < count → IsNeeded new (get_or resolutions place none).reason
  pub kept : (n place : ℕ) → AllBelow n first resolutions → n ≤ place → get_or new place true ≡ get_or old place true
  pub len : length new ≡ length old

pub marked_next : (old new : List Bool) (first : ClauseRef) (resolutions : List Resolution) (i : ℕ)
    (resolution : Resolution) → i < length resolutions
    → resolution ≡ get_or resolutions i resolution → IsBelow (length old) resolution.reason
    → IsMarkedSoFar old new first resolutions i
    → IsMarkedSoFar old (marks_with new resolution.reason) first resolutions (i + 1)
marked_next old new first resolutions i resolution h e b m = record {
  more = λ p x. marked_more new resolution.reason p (m.more p x);
  of_first = marked_other new resolution.reason first m.of_first;
  of_rest = λ p none lt. elim (cases_eq p i) [
    | inl at ↦
        let same : get_or resolutions p none ≡ resolution = ap (λ k. get_or resolutions k none) at ∙ sym (get_or_read resolutions i resolution h e none) in
        subst (λ (l : Resolution). IsNeeded (marks_with new resolution.reason) l.reason) (sym same)
        (marked_itself new resolution.reason (subst (λ n. IsBelow n resolution.reason) (sym m.len) b))
    | inr other ↦ marked_other new resolution.reason (get_or resolutions p none).reason (m.of_rest p none (omega (arith, other)))
  ];
  kept = λ n p below le.
      let at : IsBelow n resolution.reason = subst (λ (l : Resolution). IsBelow n l.reason) (sym e) (below.of_rest i resolution h) in
      marked_kept new resolution.reason n p at le ∙ m.kept n p below le;
  len = length_marked new resolution.reason ∙ m.len;
}

pub marked_more_links : (old new grown : List Bool) (first : ClauseRef) (resolutions : List Resolution) (i : ℕ)
    (resolution : Resolution)
    → i < length resolutions → resolution ≡ get_or resolutions i resolution → grown ≡ marks_with new resolution.reason
    → AllBelow (length old) first resolutions → IsMarkedSoFar old new first resolutions i
    → IsMarkedSoFar old grown first resolutions (i + 1)
marked_more_links old new grown first resolutions i resolution h e g b m =
    let below : IsBelow (length old) resolution.reason = subst (λ (l : Resolution). IsBelow (length old) l.reason) (sym e) (b.of_rest i resolution h) in
    subst (λ l. IsMarkedSoFar old l first resolutions (i + 1)) (sym g) (marked_next old new first resolutions i resolution h e below m)

needed_more : (old new : List Bool) (reason : ClauseRef)
    → ((p : ℕ) → get_or old p true ≡ true → get_or new p true ≡ true) → IsNeeded old reason → IsNeeded new reason
needed_more old new (Added q) more n = tt
needed_more old new (Assumed q) more n = tt
needed_more old new (Learnt q) more n = more q n

pub all_needed_more : (old new : List Bool) (first : ClauseRef) (resolutions : List Resolution)
    → ((p : ℕ) → get_or old p true ≡ true → get_or new p true ≡ true) → AllNeeded old first resolutions
    → AllNeeded new first resolutions
all_needed_more old new first resolutions more n = record {
  of_first = needed_more old new first more n.of_first;
  of_rest = λ p none h. needed_more old new (get_or resolutions p none).reason more (n.of_rest p none h);
}

-- the derivations from a place on name only what is needed
abbrev pub NeededFrom : List Bool → List Derivation → ℕ → Type 0
NeededFrom needed derivations at =
    (p : ℕ) (none : Derivation) → at ≤ p → p < length derivations → get_or needed p true ≡ true
    → AllNeeded needed (get_or derivations p none).first (get_or derivations p none).rest.items

pub needed_step : (old new : List Bool) (derivations : List Derivation) (n at : ℕ) (d : Derivation) → n ≡ at + 1
    → at < length derivations → d ≡ get_or derivations at d → AreBelow derivations
    → MarksMore old new d.first d.rest.items → NeededFrom old derivations n → NeededFrom new derivations at
needed_step old new derivations n at d e h is below m from p none le lt need =
    elim (cases_eq p at) [
      | inl here ↦
          let same : get_or derivations p none ≡ d = ap (λ k. get_or derivations k none) here ∙ sym (get_or_read derivations at d h is none) in
          subst (λ (x : Derivation). AllNeeded new x.first x.rest.items) (sym same) m.all
      | inr other ↦
          let b : AllBelow at d.first d.rest.items = subst (λ (x : Derivation). AllBelow at x.first x.rest.items) (sym is) (below at d h) in
          let was : get_or old p true ≡ true = sym (m.kept at p b le) ∙ need in
          all_needed_more old new (get_or derivations p none).first (get_or derivations p none).rest.items m.more
          (from p none (omega (arith, other)) lt was)
    ]

pub needed_skip : (needed : List Bool) (derivations : List Derivation) (n at : ℕ) → n ≡ at + 1
    → get_or needed at true ≡ false → NeededFrom needed derivations n → NeededFrom needed derivations at
needed_skip needed derivations n at e skip from p none le lt need =
    elim (cases_eq p at) [
      | inl here ↦
          let clash : true ≡ false = sym need ∙ ap (λ q. get_or needed q true) here ∙ skip in
          absurd (cc)
      | inr other ↦ from p none (omega (arith, other)) lt need
    ]

pub length_clauses : (added : List (List Lit)) (assumed : List Lit)
    → length (clauses_with_units added assumed) ≡ length added + length assumed
length_clauses added assumed = length-append added (map unit_clause assumed) ∙ ap (λ n. length added + n) (length-map assumed unit_clause)

-- the chain of a derivation: its clause, and its numbers where the learnt clauses have these
pub record IsChainOf (added : ℕ) (ns : List ℕ) (clause : List Lit) (first : ClauseRef) (resolutions : List Resolution)
    (chain : Chain) : Type 0 where
  pub clause_is : chain.clause ≡ clause
  pub first_is : chain.first ≡ log_number added ns first
  pub rest_is : chain.rest ≡ map (log_pivot added ns) resolutions

-- the numbers with one more, and the log with its chain
pub record IsLongerBy (numbers grown : List ℕ) (number : ℕ) (log longer : List Chain) (chain : Chain) : Type 0 where
  pub numbers_are : grown ≡ numbers ++ number ∷ []
  pub chains_are : longer ≡ log ++ chain ∷ []

-- the next learnt clause is needed, and this is its derivation
pub record IsNext (learnt : List (List Lit)) (derivations : List Derivation) (needed : List Bool) (place : ℕ)
    (d : Derivation) : Type 0 where
  pub within : place < length learnt
  pub is : d ≡ get_or derivations place d
  pub need : get_or needed place true ≡ true

-- one learnt clause more, with its chain
pub chain_next : (added learnt : List (List Lit)) (assumed : List Lit) (needed : List Bool) (place number : ℕ)
    (numbers grown : List ℕ) (log longer : List Chain) (chain : Chain) (derivations : List Derivation) (d : Derivation)
    → AreDerivations added learnt derivations × AreNeeded needed derivations
    → IsNext learnt derivations needed place d
    → IsChainOf (length added) numbers (get_or learnt place []) d.first d.rest.items chain
    → number ≡ length added + length assumed + length log → IsLongerBy numbers grown number log longer chain
    → IsNumbered added learnt assumed needed place numbers log
    → IsNumbered added learnt assumed needed (place + 1) grown longer
chain_next added learnt assumed needed place number numbers grown log longer chain derivations d (derived, needs) next made number_is more n =
    let k = clause_lists added (take place learnt) [] in
    let h2 : place < length derivations = omega (arith, derived.same, next.within) in
    let x = subst (λ (y : Derivation). IsDerivation k y.first y.rest.items (get_or learnt place [])) (sym next.is) (derived.each place d next.within) in
    let x2 = subst (λ (c : List Lit). IsDerivation k d.first d.rest.items c) (sym made.clause_is) x in
    let a = subst (λ (y : Derivation). AllNeeded needed y.first y.rest.items) (sym next.is) (needs place d h2 next.need) in
    let placed = placed_by added learnt assumed [] needed place numbers log (inr refl) (omega (arith, next.within)) n in
    let follows = follows_from k needed (length added) numbers
    (clauses_before (clauses_with_units added assumed) log (length log)) d.first d.rest.items chain placed a x2 made.first_is made.rest_is in
    subst (λ (g : List ℕ). IsNumbered added learnt assumed needed (place + 1) g longer) (sym more.numbers_are)
    (subst (λ (l : List Chain). IsNumbered added learnt assumed needed (place + 1) (numbers ++ number ∷ []) l) (sym more.chains_are)
    (IsNumbered-chain added learnt assumed needed place number numbers log chain n follows made.clause_is
    (omega (arith, number_is, length_clauses added assumed))))

-- one that isn't needed
pub skip_next : (added learnt : List (List Lit)) (assumed : List Lit) (needed : List Bool) (place number : ℕ)
    (numbers grown : List ℕ)
    (log same : List Chain) → get_or needed place true ≡ false → grown ≡ numbers ++ number ∷ [] → same ≡ log
    → IsNumbered added learnt assumed needed place numbers log → IsNumbered added learnt assumed needed
    (place + 1) grown same
skip_next added learnt assumed needed place number numbers grown log same skip grown_is same_is n =
    subst (λ (g : List ℕ). IsNumbered added learnt assumed needed (place + 1) g same) (sym grown_is)
    (subst (λ (l : List Chain). IsNumbered added learnt assumed needed (place + 1) (numbers ++ number ∷ []) l) (sym same_is)
    (IsNumbered-skip added learnt assumed needed place number numbers log n skip))

-- the whole log
pub log_done : (added learnt : List (List Lit)) (assumed : List Lit) (needed : List Bool) (numbers : List ℕ)
    (log longer : List Chain) (chain : Chain) (first : ClauseRef) (resolutions : List Resolution)
    → IsNumbered added learnt assumed needed (length learnt) numbers log → AllNeeded needed first resolutions
    → IsDerivation (clause_lists added learnt assumed) first resolutions []
    → IsChainOf (length added) numbers [] first resolutions chain → longer ≡ log ++ chain ∷ []
    → Derives (clauses_with_units added assumed) longer
log_done added learnt assumed needed numbers log longer chain first resolutions n a d made longer_is =
    let clauses = clauses_before (clauses_with_units added assumed) log (length log) in
    let all : take (length learnt) learnt ≡ learnt = take_all (length learnt) learnt (omega arith) in
    let placed = placed_by added learnt assumed assumed needed (length learnt) numbers log (inl refl) (omega arith) n in
    let placed2 = subst (λ (ls : List (List Lit)). IsPlaced (clause_lists added ls assumed) needed
    (log_number (length added) numbers) clauses) all placed in
    let d2 = subst (λ (c : List Lit). IsDerivation (clause_lists added learnt assumed) first resolutions c) (sym made.clause_is) d in
    let follows = follows_from (clause_lists added learnt assumed) needed (length added) numbers clauses first resolutions chain placed2 a d2
    made.first_is made.rest_is in
    subst (λ (l : List Chain). Derives (clauses_with_units added assumed) l) (sym longer_is)
    (derives_by added learnt assumed needed (length learnt) numbers log chain n follows made.clause_is)
