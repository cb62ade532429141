-- What the calls answer and leave, by the lists that contracts see.
use Rattle.std.proofs.Common.{◌≡◌, ◌≢◌, ◌<◌, ◌≤◌, ◌+◌, ◌⊎◌, ◌↔◌, ℕ, List, [], ◌∷◌, ◌++◌, length, map, get_or, take, drop, set, Option, Some, None, refl}
use Rattle.std.proofs.Common.{sym, ◌∙◌, ap, subst, inl, inr, arith}
use Rattle.std.specs.List.{All, Contains, slice_get}
use Rattle.std.proofs.lemmas.Bool.{cases_lt}
use Rattle.std.proofs.lemmas.List.{get_or-map, get_or_past, append-nil, take_all, drop_all, ext_get_or, length-map}
use Rattle.std.specs.Option.{MatchOption}
use Rattle.std.proofs.lemmas.Option.{slice_get_past}
use Rattle.std.proofs.lemmas.List.Elements.{Contains-append_left}
use Rattle.cnf.specs.declared.lit.Lit.{Lit}
use Rattle.clause_links.specs.declared.records.Record.{Record}
use Rattle.clause_links.specs.declared.records.Heads.{Heads}
use Rattle.clause_links.specs.WatchLists.{WatchLists, WatchesBoth, Watches, watchers, clause_lits, Precedes, IsRewatched}
use Rattle.clause_links.specs.Records.{no_record, no_heads, record_at, IsWatchedBy, link_of, link_at, head_of, head_at, GoesThrough, linked_list, pair_of}
use Rattle.clause_links.specs.Records.{watch_lists, IsWatcher, IsRecord, IsListOfWatchers, AreLinked, records_after, heads_after, with_list_head, nth_lit}
use Rattle.clause_links.specs.Records.{with_two_heads}
use Rattle.clause_links.proofs.Members.{Cut, cut_at, no_member, has_head, has_middle, first_or_none, ends_with}
use Rattle.clause_links.proofs.Walks.{first_is, way_on, one_cut}
use Rattle.clause_links.proofs.HeadLaws.{no_head, length-with_list_head}
use Rattle.clause_links.proofs.Listing.{watchers_are, watchers_from, no_watchers, watcher_from, watches_from, pair_from, pairs_at, pairs_from, known_of}
use Rattle.clause_links.proofs.Listing.{clause_is, members_of}
use Rattle.clause_links.proofs.Moves.{CanMove, IsMoved, IsPair, Lists, known_to, IsMoved-from_can, moved_lists}

-- a slice that was written as a whole
pub take-written : {X : Type 0} (old new : List X) (n : ℕ) → length new ≡ n → length old ≡ n
    → take n (new ++ drop (length new) old) ≡ new
take-written {X = X} old new n e f =
    ap (λ (xs : List X). take n (new
    ++ xs)) (drop_all (length new) old (omega arith)) ∙ ap (λ (xs : List X). take n xs) (append-nil new) ∙ take_all n new (omega arith)

-- ---- reading

none_first : (xs : List ℕ) → ((x : ℕ) → Contains xs x → ⊥) → slice_get xs 0 ≡ None
none_first [] none = refl
none_first (x ∷ xs) none = absurd (none x (has_head x xs))

pub head_is : (records : List Record) (heads : List Heads) (lit : Lit) → AreLinked records heads → head_at heads lit
    ≡ slice_get (watchers (watch_lists records heads) lit) 0
head_is records heads lit linked =
    elim (cases_lt lit.var (length heads)) [
      | inl within ↦
          first_is (link_at records lit) (head_at heads lit) (linked_list records heads lit) (linked.lists lit within).linked
          ∙ ap (λ (xs : List ℕ). slice_get xs 0) (sym (watchers_are records heads lit within))
      | inr past ↦
          ap (λ (h : Heads). head_of h lit.positive) (get_or_past heads lit.var no_heads past) ∙ no_head lit.positive
          ∙ ap (λ (xs : List ℕ). slice_get xs 0) (sym (no_watchers records heads lit past))
    ]

pub none_watch : (records : List Record) (heads : List Heads) (lit : Lit) (head : Option ℕ) → AreLinked records heads
    → head ≡ slice_get (watchers (watch_lists records heads) lit) 0
    → (head ≡ None) ↔ ((clause : ℕ) → Watches (watch_lists records heads) clause lit → ⊥)
none_watch records heads lit head linked first = (
  λ e clause w.
      no_member clause
      (subst (λ (xs : List ℕ). Contains xs clause) (first_or_none (watchers (watch_lists records heads) lit) (sym first ∙ e))
      ((members_of records heads lit clause linked).1 (watcher_from records heads lit clause w))),
  λ none.
      first ∙ none_first (watchers (watch_lists records heads) lit)
      (λ x m. none x (watches_from records heads lit x ((members_of records heads lit x linked).0 m))),
)

pub next_is : (records : List Record) (heads : List Heads) (clause : ℕ) (lit : Lit) (next : Option ℕ)
    → AreLinked records heads → Watches (watch_lists records heads) clause lit
    → next ≡ link_at records lit clause
    → (front back : List ℕ) → watchers (watch_lists records heads) lit ≡ front ++ clause ∷ back → next
    ≡ slice_get back 0
next_is records heads clause lit next linked w is front back cut =
    let within : lit.var < length heads = known_of (length heads) records lit clause linked.each (watcher_from records heads lit clause w) in
    let way : GoesThrough (link_at records lit) (head_at heads lit) (front ++ clause ∷ back) =
    subst (λ (xs : List ℕ). GoesThrough (link_at records lit) (head_at heads lit) xs) (sym (watchers_are records heads lit within) ∙ cut)
    (linked.lists lit within).linked in
    is ∙ first_is (link_at records lit) (link_at records lit clause) back (way_on (link_at records lit) (head_at heads lit) front clause back way)

pub last_is : (records : List Record) (heads : List Heads) (clause : ℕ) (lit : Lit) (next : Option ℕ)
    → AreLinked records heads → Watches (watch_lists records heads) clause lit
    → next ≡ link_at records lit clause
    → (next ≡ None) ↔ ((front : List ℕ) × (watchers (watch_lists records heads) lit ≡ front ++ clause ∷ []))
last_is records heads clause lit next linked w is = (
  λ e.
      let xs : List ℕ = watchers (watch_lists records heads) lit in
      let cut : Cut xs clause = cut_at xs clause ((members_of records heads lit clause linked).1 (watcher_from records heads lit clause w)) in
      let none : cut.back ≡ [] = first_or_none cut.back (sym (next_is records heads clause lit next linked w is cut.front cut.back cut.is) ∙ e) in
      (cut.front, cut.is ∙ ap (λ (back : List ℕ). cut.front ++ clause ∷ back) none),
  λ found. next_is records heads clause lit next linked w is found.0 [] found.1,
)

-- ---- a move

pub can_move : (records : List Record) (heads : List Heads) (before : Option ℕ) (clause : ℕ) (from to : Lit)
    → AreLinked records heads
    → Watches (watch_lists records heads) clause from → (Watches (watch_lists records heads) clause to → ⊥)
    → Contains (clause_lits (watch_lists records heads) clause) to
    → (p : Precedes (watchers (watch_lists records heads) from) before clause)
    → CanMove records heads before clause from to p.0 p.1
can_move records heads before clause from to linked w unwatched own p =
    let watcher : IsWatcher records from clause = watcher_from records heads from clause w in
    let within : from.var < length heads = known_of (length heads) records from clause linked.each watcher in
    record {
      linked = linked;
      watcher = watcher;
      unwatched = λ h. unwatched (watches_from records heads to clause (record { within = watcher.within; watched = h }));
      own = subst (λ (lits : List Lit). Contains lits to) (clause_is records heads clause watcher.within) own;
      cut = sym (watchers_are records heads from within) ∙ p.2;
      is_before = p.3;
    }

-- the same, by what contracts see
pub can_move_by : (records : List Record) (heads : List Heads) (before : Option ℕ) (clause : ℕ) (from to : Lit)
    (lists : WatchLists)
    → watch_lists records heads ≡ lists → AreLinked records heads
    → Watches lists clause from → (Watches lists clause to → ⊥) → Contains (clause_lits lists clause) to
    → (p : Precedes (watchers lists from) before clause)
    → CanMove records heads before clause from to p.0 p.1
can_move_by records heads before clause from to lists view linked =
    subst
    (λ (l : WatchLists).
    Watches l clause from → (Watches l clause to → ⊥) → Contains (clause_lits l clause) to → (p : Precedes (watchers l from) before clause)
    → CanMove records heads before clause from to p.0 p.1)
    view (can_move records heads before clause from to linked)

pub before_within : (records : List Record) (heads : List Heads) (before : Option ℕ) (clause : ℕ) (from to : Lit)
    (front back : List ℕ)
    → CanMove records heads before clause from to front back
    → MatchOption before (from.var < length heads) (λ b. b < length records)
before_within records heads None clause from to front back can = known_of (length heads) records from clause can.linked.each can.watcher
before_within records heads (Some b) clause from to front back can =
    let within : from.var < length heads = known_of (length heads) records from clause can.linked.each can.watcher in
    let ends : (init : List ℕ) × (front ≡ init ++ b ∷ []) = ends_with front b (sym can.is_before) in
    let member : Contains (front ++ clause ∷ back) b =
    Contains-append_left front (clause ∷ back) b (subst (λ (xs : List ℕ). Contains xs b) (sym ends.1) (has_middle ends.0 b [])) in
    (((can.linked.lists from within).members b).0 (subst (λ (xs : List ℕ). Contains xs b) (sym can.cut) member)).within

pub rest_is : (records : List Record) (heads : List Heads) (before : Option ℕ) (clause : ℕ) (from to : Lit)
    (front back : List ℕ)
    → CanMove records heads before clause from to front back
    → (other behind : List ℕ) → front ++ clause ∷ back ≡ other ++ clause ∷ behind → front ++ back ≡ other ++ behind
rest_is records heads before clause from to front back can other behind same =
    let within : from.var < length heads = known_of (length heads) records from clause can.linked.each can.watcher in
    one_cut (link_at records from) (head_at heads from) front back other behind clause
    (subst (λ (xs : List ℕ). GoesThrough (link_at records from) (head_at heads from) xs) can.cut (can.linked.lists from within).linked) same

-- what a move leaves, by the lists that contracts see
pub record IsMoveOf (old new : WatchLists) (clause : ℕ) (from to : Lit) (front back : List ℕ) : Type 0 where
  pub of_from : watchers new from ≡ front ++ back
  pub of_to : watchers new to ≡ clause ∷ watchers old to
  pub of_others : (lit : Lit) → lit ≢ from → lit ≢ to → watchers new lit ≡ watchers old lit
  pub pair : IsRewatched old new clause from to
  pub clauses : new.clauses ≡ old.clauses

same_pairs : (records newer : List Record) (x : ℕ) → length newer ≡ length records → pair_of (record_at newer x)
    ≡ pair_of (record_at records x)
    → slice_get (map pair_of newer) x ≡ slice_get (map pair_of records) x
same_pairs records newer x len same =
    elim (cases_lt x (length records)) [
      | inl within ↦
          pair_from newer x (pair_of (record_at records x)) (omega arith) same ∙ sym (pair_from records x (pair_of (record_at records x)) within refl)
      | inr past ↦
          slice_get_past (map pair_of newer) x (omega (arith, length-map newer pair_of)) ∙ sym
          (slice_get_past (map pair_of records) x (omega (arith, length-map records pair_of)))
    ]

same_clauses : (records newer : List Record) → length newer ≡ length records
    → ((x : ℕ) → (record_at newer x).clause ≡ (record_at records x).clause)
    → map (λ (r : Record). r.clause) newer ≡ map (λ (r : Record). r.clause) records
same_clauses records newer len same =
    let clause : Record → List Lit = λ r. r.clause in
    ext_get_or [] (map clause newer) (map clause records) (length-map newer clause ∙ len ∙ sym (length-map records clause))
    (λ i h.
    let within : i < length newer = omega (arith, length-map newer clause) in
    get_or-map clause newer i no_record [] within ∙ same i ∙ sym (get_or-map clause records i no_record [] (omega arith)))

pub move_of : (records : List Record) (heads : List Heads) (before : Option ℕ) (clause : ℕ) (from to : Lit)
    (front back : List ℕ)
    → CanMove records heads before clause from to front back
    → IsMoveOf (watch_lists records heads)
    (watch_lists (records_after records heads before clause from to) (heads_after records heads before clause from to))
    clause from to front back
move_of records heads before clause from to front back can =
    let newer : List Record = records_after records heads before clause from to in
    let newer_heads : List Heads = heads_after records heads before clause from to in
    let is : IsMoved records newer heads newer_heads clause from to (front ++ back) = IsMoved-from_can records heads before clause from to front back can in
    let lists : Lists records newer heads newer_heads clause from to front back = moved_lists records heads before clause from to front back can in
    let still : (lit : Lit) → lit.var < length heads → lit.var < length newer_heads = λ lit h. subst (λ (n : ℕ). lit.var < n) (sym is.vars) h in
    let from_within : from.var < length heads = known_of (length heads) records from clause can.linked.each can.watcher in
    let to_within : to.var < length heads = known_to records heads before clause from to front back can in
    record {
      of_from = watchers_from newer newer_heads from (front ++ back) (still from from_within) lists.of_from;
      of_to = watchers_from newer newer_heads to (clause ∷ linked_list records heads to) (still to to_within) lists.of_to
          ∙ ap (λ (xs : List ℕ). clause ∷ xs) (sym (watchers_are records heads to to_within));
      of_others = λ lit n m. elim (cases_lt lit.var (length heads)) [
        | inl within ↦
            watchers_from newer newer_heads lit (linked_list records heads lit) (still lit within) (lists.of_other lit within n m)
            ∙ sym (watchers_are records heads lit within)
        | inr past ↦
            no_watchers newer newer_heads lit (subst (λ (k : ℕ). k ≤ lit.var) (sym is.vars) past) ∙ sym (no_watchers records heads lit past)
      ];
      pair = record {
        other = λ lit w.
            let old : (clause < length records) × IsPair (record_at records clause) from lit = pairs_at records heads clause from lit w in
            pairs_from newer newer_heads clause to lit (omega (arith, old.0, is.len)) (is.pair lit old.1);
        others = λ x n. same_pairs records newer x is.len (is.other_pairs x n);
      };
      clauses = same_clauses records newer is.len is.clauses;
    }

-- ---- a new clause

pub length-with_two_heads : (heads : List Heads) (lits : List Lit) (clause : ℕ)
    → length (with_two_heads heads lits clause)
    ≡ length heads
length-with_two_heads heads lits clause =
    length-with_list_head (with_list_head heads (nth_lit lits 0) (Some clause)) (nth_lit lits 1) (Some clause) ∙ length-with_list_head heads
    (nth_lit lits 0) (Some clause)
