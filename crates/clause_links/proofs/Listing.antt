-- The lists that contracts see are those that the links go through.
use Rattle.std.proofs.Common.{◌≡◌, ◌≢◌, ◌<◌, ◌≤◌, ◌+◌, ◌⊎◌, ◌↔◌, ℕ, zero, suc, Bool, true, false, List, [], ◌∷◌, ◌++◌, length, map, get_or, Option, Some}
use Rattle.std.proofs.Common.{None, refl, sym, ◌∙◌, ap, subst, inl, inr, arith}
use Rattle.std.specs.Prelude.{nat_eq, if◌then◌else◌}
use Rattle.std.specs.List.{All, Contains, IsDistinct, slice_get, list_any}
use Rattle.std.proofs.lemmas.Bool.{cases_lt, eqb-true}
use Rattle.std.proofs.lemmas.List.{get_or-map, get_or_past, length-map}
use Rattle.std.proofs.lemmas.List.Elements.{All-contains, All-get_or, All-map, All-weaker}
use Rattle.std.proofs.lemmas.Map.Steps.{length-le_from_distinct_below}
use Rattle.std.proofs.lemmas.Map.Views.{Contains-from_any}
use Rattle.std.proofs.lemmas.Option.{slice_get_within, slice_get-get_or, get_or_from_slice_get}
use Rattle.cnf.specs.declared.lit.Lit.{Lit}
use Rattle.clause_links.specs.declared.records.Record.{Record}
use Rattle.clause_links.specs.declared.records.Heads.{Heads}
use Rattle.clause_links.specs.WatchLists.{WatchLists, WatchesBoth, Watches, watchers, clause_lits, AreExact}
use Rattle.clause_links.specs.Records.{no_record, record_at, IsWatchedBy, link_at, head_at, walk, GoesThrough, linked_list, lists_from, pair_of}
use Rattle.clause_links.specs.Records.{watch_lists, IsWatcher, IsRecord, IsListOfWatchers, AreLinked}
use Rattle.clause_links.proofs.Members.{no_member}
use Rattle.clause_links.proofs.Walks.{goes_once, walk_whole, first_is}

-- a list that the links go through, and that has the watchers, is the one that is walked
pub linked_list_is : (records : List Record) (lit : Lit) (head : Option ℕ) (xs : List ℕ)
    → IsListOfWatchers records lit head xs
    → walk (link_at records lit) (length records) head ≡ xs
linked_list_is records lit head xs listed =
    walk_whole (link_at records lit) (length records) head xs listed.linked
    (length-le_from_distinct_below xs (length records) (goes_once (link_at records lit) head xs listed.linked)
    (λ q t. ((listed.members q).0 (Contains-from_any eqb-true q xs t)).within))

-- records and heads are linked where each literal has a list
pub linked_from : (records : List Record) (heads : List Heads) → All (IsRecord (length heads)) records
    → ((lit : Lit) → lit.var < length heads → (xs : List ℕ) × IsListOfWatchers records lit (head_at heads lit) xs)
    → AreLinked records heads
linked_from records heads each listed = record {
  each = each;
  lists = λ lit within.
      let found : (xs : List ℕ) × IsListOfWatchers records lit (head_at heads lit) xs = listed lit within in
      subst (λ (xs : List ℕ). IsListOfWatchers records lit (head_at heads lit) xs)
      (sym (linked_list_is records lit (head_at heads lit) found.0 found.1)) found.1;
}

-- ---- the list of a literal

list_at : (records : List Record) (heads : List Heads) (sign : Bool) (n : ℕ) (more : List Heads) (k : ℕ)
    → k < length more
    → get_or (lists_from records heads sign n more) k []
    ≡ linked_list records heads (record { var = n + k; positive = sign })
list_at records heads sign n [] k h = absurd (omega arith)
list_at records heads sign n (head ∷ more) zero h =
    let e : n ≡ n + zero = omega arith in
    ap (λ (v : ℕ). linked_list records heads (record { var = v; positive = sign })) e
list_at records heads sign n (head ∷ more) (suc k) h =
    let e : n + 1 + k ≡ n + suc k = omega arith in
    list_at records heads sign (n + 1) more k (omega arith) ∙ ap (λ (v : ℕ). linked_list records heads (record { var = v; positive = sign })) e

lists-length : (records : List Record) (heads : List Heads) (sign : Bool) (n : ℕ) (more : List Heads)
    → length (lists_from records heads sign n more) ≡ length more
lists-length records heads sign n [] = refl
lists-length records heads sign n (head ∷ more) = ap suc (lists-length records heads sign (n + 1) more)

list_of_sign : (records : List Record) (heads : List Heads) (sign : Bool) (var : ℕ) → var < length heads
    → get_or (if sign then lists_from records heads true 0 heads else lists_from records heads false 0 heads) var []
    ≡ linked_list records heads (record { var = var; positive = sign })
list_of_sign records heads true var h =
    let e : 0 + var ≡ var = omega arith in
    list_at records heads true 0 heads var h ∙ ap (λ (v : ℕ). linked_list records heads (record { var = v; positive = true })) e
list_of_sign records heads false var h =
    let e : 0 + var ≡ var = omega arith in
    list_at records heads false 0 heads var h ∙ ap (λ (v : ℕ). linked_list records heads (record { var = v; positive = false })) e

no_list_of_sign : (records : List Record) (heads : List Heads) (sign : Bool) (var : ℕ) → length heads ≤ var
    → get_or (if sign then lists_from records heads true 0 heads else lists_from records heads false 0 heads) var []
    ≡ []
no_list_of_sign records heads true var h =
    get_or_past (lists_from records heads true 0 heads) var [] (omega (arith, lists-length records heads true 0 heads))
no_list_of_sign records heads false var h =
    get_or_past (lists_from records heads false 0 heads) var [] (omega (arith, lists-length records heads false 0 heads))

pub watchers_are : (records : List Record) (heads : List Heads) (lit : Lit) → lit.var < length heads
    → watchers (watch_lists records heads) lit ≡ linked_list records heads lit
watchers_are records heads lit h = list_of_sign records heads lit.positive lit.var h

pub no_watchers : (records : List Record) (heads : List Heads) (lit : Lit) → length heads ≤ lit.var
    → watchers (watch_lists records heads) lit ≡ []
no_watchers records heads lit h = no_list_of_sign records heads lit.positive lit.var h

-- the list of a literal by any list that is one
pub watchers_from : (records : List Record) (heads : List Heads) (lit : Lit) (xs : List ℕ) → lit.var < length heads
    → IsListOfWatchers records lit (head_at heads lit) xs → watchers (watch_lists records heads) lit ≡ xs
watchers_from records heads lit xs within listed = watchers_are records heads lit within ∙ linked_list_is records lit (head_at heads lit) xs listed

-- ---- what a clause watches

pub pair_at : (records : List Record) (clause : ℕ) (pair : Lit × Lit) → slice_get (map pair_of records) clause
    ≡ Some pair
    → (clause < length records) × (pair_of (record_at records clause) ≡ pair)
pair_at records clause pair e =
    let within : clause < length records = omega (arith, slice_get_within (map pair_of records) clause pair e, length-map records pair_of) in
    (within, sym (get_or-map pair_of records clause no_record pair within) ∙ get_or_from_slice_get (map pair_of records) clause pair pair e)

pub pair_from : (records : List Record) (clause : ℕ) (pair : Lit × Lit) → clause < length records
    → pair_of (record_at records clause) ≡ pair
    → slice_get (map pair_of records) clause ≡ Some pair
pair_from records clause pair within e =
    slice_get-get_or (map pair_of records) clause pair (omega (arith, length-map records pair_of))
    ∙ ap (λ (p : Lit × Lit). Some p) (get_or-map pair_of records clause no_record pair within ∙ e)

pub pairs_at : (records : List Record) (heads : List Heads) (clause : ℕ) (a b : Lit)
    → WatchesBoth (watch_lists records heads) clause a b
    → (clause < length records)
    × ((pair_of (record_at records clause) ≡ (a, b)) ⊎ (pair_of (record_at records clause) ≡ (b, a)))
pairs_at records heads clause a b h =
    elim h [
      | inl e ↦ ((pair_at records clause (a, b) e).0, inl (pair_at records clause (a, b) e).1)
      | inr e ↦ ((pair_at records clause (b, a) e).0, inr (pair_at records clause (b, a) e).1)
    ]

pub pairs_from : (records : List Record) (heads : List Heads) (clause : ℕ) (a b : Lit) → clause < length records
    → ((pair_of (record_at records clause) ≡ (a, b)) ⊎ (pair_of (record_at records clause) ≡ (b, a)))
    → WatchesBoth (watch_lists records heads) clause a b
pairs_from records heads clause a b within h =
    elim h [ inl e ↦ inl (pair_from records clause (a, b) within e) | inr e ↦ inr (pair_from records clause (b, a) within e) ]

watched_by_pair : (r : Record) (a b : Lit) → ((pair_of r ≡ (a, b)) ⊎ (pair_of r ≡ (b, a))) → IsWatchedBy r a
watched_by_pair r a b h =
    elim h [ inl e ↦ inl (ap (λ (p : Lit × Lit). p.0) e) | inr e ↦ inr (ap (λ (p : Lit × Lit). p.1) e) ]

pub watcher_from : (records : List Record) (heads : List Heads) (lit : Lit) (clause : ℕ)
    → Watches (watch_lists records heads) clause lit → IsWatcher records lit clause
watcher_from records heads lit clause h =
    let pair : (clause < length records) × ((pair_of (record_at records clause) ≡ (lit, h.0)) ⊎ (pair_of (record_at records clause) ≡ (h.0, lit))) =
    pairs_at records heads clause lit h.0 h.1 in
    record { within = pair.0; watched = watched_by_pair (record_at records clause) lit h.0 pair.1 }

pub watches_from : (records : List Record) (heads : List Heads) (lit : Lit) (clause : ℕ) → IsWatcher records lit clause
    → Watches (watch_lists records heads) clause lit
watches_from records heads lit clause h =
    let r : Record = record_at records clause in
    elim h.watched [
      | inl e ↦ (r.second.lit, pairs_from records heads clause lit r.second.lit h.within (inl (ap (λ (l : Lit). (l, r.second.lit)) e)))
      | inr e ↦ (r.first.lit, pairs_from records heads clause lit r.first.lit h.within (inr (ap (λ (l : Lit). (r.first.lit, l)) e)))
    ]

-- a watched literal is one of the clause, and of a variable that is there
pub own_of : (n : ℕ) (r : Record) (lit : Lit) → IsRecord n r → IsWatchedBy r lit → Contains r.clause lit
own_of n r lit h w =
    elim w [
      | inl e ↦ subst (λ (l : Lit). Contains r.clause l) e h.first
      | inr e ↦ subst (λ (l : Lit). Contains r.clause l) e h.second
    ]

pub known_of : (n : ℕ) (records : List Record) (lit : Lit) (clause : ℕ) → All (IsRecord n) records
    → IsWatcher records lit clause → lit.var < n
known_of n records lit clause each h =
    let r : IsRecord n (record_at records clause) = each clause no_record h.within in
    All-contains (λ (l : Lit). l.var < n) (record_at records clause).clause lit r.known (own_of n (record_at records clause) lit r h.watched)

-- ---- the law

pub members_of : (records : List Record) (heads : List Heads) (lit : Lit) (clause : ℕ) → AreLinked records heads
    → Contains (watchers (watch_lists records heads) lit) clause ↔ IsWatcher records lit clause
members_of records heads lit clause linked =
    elim (cases_lt lit.var (length heads)) [
      | inl within ↦
          let listed : IsListOfWatchers records lit (head_at heads lit) (linked_list records heads lit) = linked.lists lit within in (
            λ m. (listed.members clause).0 (subst (λ (xs : List ℕ). Contains xs clause) (watchers_are records heads lit within) m),
            λ w. subst (λ (xs : List ℕ). Contains xs clause) (sym (watchers_are records heads lit within)) ((listed.members clause).1 w),
          )
      | inr past ↦ (
        λ m. absurd (no_member clause (subst (λ (xs : List ℕ). Contains xs clause) (no_watchers records heads lit past) m)),
        λ w. absurd (omega (arith, known_of (length heads) records lit clause linked.each w)),
      )
    ]

once_of : (records : List Record) (heads : List Heads) (lit : Lit) → AreLinked records heads
    → IsDistinct nat_eq (watchers (watch_lists records heads) lit)
once_of records heads lit linked =
    elim (cases_lt lit.var (length heads)) [
      | inl within ↦ subst (λ (xs : List ℕ). IsDistinct nat_eq xs) (sym (watchers_are records heads lit within))
          (goes_once (link_at records lit) (head_at heads lit) (linked_list records heads lit) (linked.lists lit within).linked)
      | inr past ↦ subst (λ (xs : List ℕ). IsDistinct nat_eq xs) (sym (no_watchers records heads lit past))
          (goes_once (link_at records lit) None [] refl)
    ]

own_pair : (n : ℕ) (r : Record) (a b : Lit) → IsRecord n r → ((pair_of r ≡ (a, b)) ⊎ (pair_of r ≡ (b, a))) → (a ≢ b)
    × Contains r.clause a
own_pair n r a b h pair = (
  λ q. elim pair [
    | inl e ↦ h.apart (ap (λ (p : Lit × Lit). p.0) e ∙ q ∙ sym (ap (λ (p : Lit × Lit). p.1) e))
    | inr e ↦ h.apart (ap (λ (p : Lit × Lit). p.0) e ∙ sym q ∙ sym (ap (λ (p : Lit × Lit). p.1) e))
  ],
  own_of n r a h (watched_by_pair r a b pair),
)

pub clause_is : (records : List Record) (heads : List Heads) (clause : ℕ) → clause < length records
    → clause_lits (watch_lists records heads) clause ≡ (record_at records clause).clause
clause_is records heads clause within = get_or-map (λ (r : Record). r.clause) records clause no_record [] within

own_clause : (records : List Record) (heads : List Heads) (clause : ℕ) (a b : Lit) → AreLinked records heads
    → WatchesBoth (watch_lists records heads) clause a b
    → (a ≢ b) × Contains (clause_lits (watch_lists records heads) clause) a
own_clause records heads clause a b linked h =
    let pair : (clause < length records) × ((pair_of (record_at records clause) ≡ (a, b)) ⊎ (pair_of (record_at records clause) ≡ (b, a))) =
    pairs_at records heads clause a b h in
    let own : (a ≢ b) × Contains (record_at records clause).clause a =
    own_pair (length heads) (record_at records clause) a b (linked.each clause no_record pair.0) pair.1 in
    (own.0, subst (λ (lits : List Lit). Contains lits a) (sym (clause_is records heads clause pair.0)) own.1)

pub lists_are_exact : (records : List Record) (heads : List Heads) → AreLinked records heads
    → AreExact (watch_lists records heads)
lists_are_exact records heads linked = record {
  members = λ lit clause. (
    λ m. watches_from records heads lit clause ((members_of records heads lit clause linked).0 m),
    λ w. (members_of records heads lit clause linked).1 (watcher_from records heads lit clause w),
  );
  once = λ lit. once_of records heads lit linked;
  paired = length-map records pair_of ∙ sym (length-map records (λ (r : Record). r.clause));
  own = λ clause a b h. own_clause records heads clause a b linked h;
  known = All-map (All (λ (l : Lit). l.var < length heads)) (λ (r : Record). r.clause) records
      (All-weaker (IsRecord (length heads)) (λ (r : Record). All (λ (l : Lit). l.var < length heads) r.clause) (λ r h. h.known) records linked.each);
}

-- ---- the calls that read
