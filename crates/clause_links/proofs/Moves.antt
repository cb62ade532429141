-- The lists after a clause watches another literal.
use Rattle.std.proofs.Common.{◌≡◌, ◌≢◌, ◌<◌, ◌≤◌, ◌+◌, ◌⊎◌, ◌↔◌, ℕ, List, [], ◌∷◌, ◌++◌, length, map, get_or, set, Option, Some, None, refl, sym, ◌∙◌, ap}
use Rattle.std.proofs.Common.{subst, inl, inr, arith, length-set}
use Rattle.std.specs.List.{All, Contains, slice_get}
use Rattle.std.proofs.lemmas.Bool.{cases_eq}
use Rattle.std.proofs.lemmas.List.{get_or-set_same, get_or-set_other}
use Rattle.std.proofs.lemmas.List.Elements.{All-set, All-contains}
use Rattle.cnf.specs.declared.lit.Lit.{Lit}
use Rattle.clause_links.specs.declared.records.Record.{Record}
use Rattle.clause_links.specs.declared.records.Heads.{Heads}
use Rattle.clause_links.specs.WatchLists.{last_member}
use Rattle.clause_links.specs.Records.{no_record, record_at, IsWatchedBy, link_of, link_at, with_watch, head_at, with_list_head, GoesThrough, linked_list}
use Rattle.clause_links.specs.Records.{pair_of, IsWatcher, IsRecord, IsListOfWatchers, AreLinked, unlinked_records, unlinked_heads, moved_records}
use Rattle.clause_links.specs.Records.{records_after, heads_after}
use Rattle.clause_links.proofs.Members.{has_head, has_tail, has_cases, has_beside, beside_cases}
use Rattle.clause_links.proofs.Walks.{same_way, stands_once}
use Rattle.clause_links.proofs.Watches.{lit_cases, link-with_watch, link-with_watch_other, clause-with_watch, pair-with_watch, watched-with_watch}
use Rattle.clause_links.proofs.Watches.{with_watch_cases, still_watched, IsRecord-with_watch}
use Rattle.clause_links.proofs.HeadLaws.{head-with_list_head, head-with_list_head_other, length-with_list_head}
use Rattle.clause_links.proofs.Listing.{known_of, linked_from}
use Rattle.clause_links.proofs.Unlinking.{at_set, IsUnlinked, IsUnlinked-from_cut}

-- what a move wants: the clause watches one literal and not the other, which is its own, and stands behind `before` in
-- the list of the one, whose rest is `front ++ back`
pub record CanMove (records : List Record) (heads : List Heads) (before : Option ℕ) (clause : ℕ) (from to : Lit)
    (front back : List ℕ) : Type 0 where
  pub linked : AreLinked records heads
  pub watcher : IsWatcher records from clause
  pub unwatched : IsWatchedBy (record_at records clause) to → ⊥
  pub own : Contains (record_at records clause).clause to
  pub cut : linked_list records heads from ≡ front ++ clause ∷ back
  pub is_before : before ≡ last_member front

-- the pair of a record, in either order
abbrev pub IsPair : Record → Lit → Lit → Type 0
IsPair r a b = (pair_of r ≡ (a, b)) ⊎ (pair_of r ≡ (b, a))

-- what is so after a move
pub record IsMoved (records newer : List Record) (heads newer_heads : List Heads) (clause : ℕ) (from to : Lit)
    (rest : List ℕ) : Type 0 where
  pub len : length newer ≡ length records
  pub vars : length newer_heads ≡ length heads
  pub each : All (IsRecord (length heads)) newer
  pub clauses : (x : ℕ) → (record_at newer x).clause ≡ (record_at records x).clause
  pub pair : (other : Lit) → IsPair (record_at records clause) from other → IsPair (record_at newer clause) to other
  pub other_pairs : (x : ℕ) → x ≢ clause → pair_of (record_at newer x) ≡ pair_of (record_at records x)
  pub others_watch : (lit : Lit) (x : ℕ) → x ≢ clause → IsWatcher newer lit x ↔ IsWatcher records lit x
  pub watches : IsWatcher newer to clause
  pub cases : (lit : Lit) → IsWatcher newer lit clause → (to ≡ lit) ⊎ (IsWatcher records lit clause × (from ≢ lit))
  pub still : (lit : Lit) → from ≢ lit → IsWatcher records lit clause → IsWatcher newer lit clause
  pub way : GoesThrough (link_at newer from) (head_at newer_heads from) rest
  pub head : head_at newer_heads to ≡ Some clause
  pub link : link_at newer to clause ≡ head_at heads to
  pub links : (x : ℕ) → x ≢ clause → link_at newer to x ≡ link_at records to x
  pub other_links : (lit : Lit) → lit ≢ from → lit ≢ to → (x : ℕ) → link_at newer lit x ≡ link_at records lit x
  pub other_heads : (lit : Lit) → lit ≢ from → lit ≢ to → head_at newer_heads lit ≡ head_at heads lit

watched_same : (a b : Record) (lit : Lit) → pair_of a ≡ pair_of b → IsWatchedBy a lit → IsWatchedBy b lit
watched_same a b lit e w =
    elim w [
      | inl f ↦ inl (sym (ap (λ (p : Lit × Lit). p.0) e) ∙ f)
      | inr s ↦ inr (sym (ap (λ (p : Lit × Lit). p.1) e) ∙ s)
    ]

-- a watcher, by the record that stands at its place
watcher_by : (records newer : List Record) (lit : Lit) (x : ℕ) → length newer ≡ length records
    → (IsWatchedBy (record_at records x) lit → IsWatchedBy (record_at newer x) lit)
    → IsWatcher records lit x → IsWatcher newer lit x
watcher_by records newer lit x len same w = record { within = omega (arith, w.within); watched = same w.watched }

-- the second half of a move: the clause is out of the list of `from`, and comes into that of `to`
IsMoved-from_unlinked : (records older : List Record) (heads older_heads : List Heads) (clause : ℕ) (from to : Lit) (rest : List ℕ)
    → IsRecord (length heads) (record_at records clause) → IsWatcher records from clause
    → (IsWatchedBy (record_at records clause) to → ⊥)
    → Contains (record_at records clause).clause to → (Contains rest clause → ⊥)
    → IsUnlinked records older heads older_heads from rest
    → IsMoved records (moved_records older older_heads clause from to) heads (with_list_head older_heads to (Some clause))
    clause from to rest
IsMoved-from_unlinked records older heads older_heads clause from to rest good watcher unwatched own absent u =
    let old : Record = record_at older clause in
    let next : Option ℕ = head_at older_heads to in
    let new : Record = with_watch old from to next in
    let newer : List Record = set older clause new in
    let within : clause < length older = omega (arith, watcher.within, u.len) in
    let here : record_at newer clause ≡ new = get_or-set_same older clause new no_record within in
    let watched : IsWatchedBy old from = watched_same (record_at records clause) old from (sym (u.pairs clause)) watcher.watched in
    let back_then : (lit : Lit) → IsWatchedBy old lit → IsWatchedBy (record_at records clause) lit =
    λ lit w. watched_same old (record_at records clause) lit (u.pairs clause) w in
    let old_good : IsRecord (length heads) old = u.each clause no_record within in
    let own_old : Contains old.clause to = subst (λ (lits : List Lit). Contains lits to) (sym (u.clauses clause)) own in
    let known : to.var < length older_heads =
    subst (λ (n : ℕ). to.var < n) (sym u.vars) (All-contains (λ (l : Lit). l.var < length heads) (record_at records clause).clause to good.known own) in
    let unlike : from ≢ to = λ e. unwatched (subst (λ (l : Lit). IsWatchedBy (record_at records clause) l) e watcher.watched) in
    let elsewhere : (x : ℕ) → x ≢ clause → record_at newer x ≡ record_at older x = λ x n. get_or-set_other older clause x new no_record n in
    let len : length newer ≡ length records = length-set older clause new ∙ u.len in
    record {
      len = len;
      vars = length-with_list_head older_heads to (Some clause) ∙ u.vars;
      each = All-set (IsRecord (length heads)) older clause new
          (IsRecord-with_watch (length heads) old from to next (λ w. unwatched (back_then to w)) own_old old_good) u.each;
      clauses = λ x. at_set (λ (r : Record). r.clause ≡ (record_at records x).clause) older clause new x within
          (λ e. clause-with_watch old from to next ∙ u.clauses clause ∙ ap (λ (v : ℕ). (record_at records v).clause) (sym e))
          (λ n. u.clauses x);
      pair = λ other p. subst (λ (r : Record). IsPair r to other) (sym here) (pair-with_watch old from to next other old_good.apart (elim p [
        | inl e ↦ inl (u.pairs clause ∙ e)
        | inr e ↦ inr (u.pairs clause ∙ e)
      ]));
      other_pairs = λ x n. ap (λ (r : Record). pair_of r) (elsewhere x n) ∙ u.pairs x;
      others_watch = λ lit x n. (
        λ w. watcher_by newer records lit x (sym len)
            (λ v. watched_same (record_at older x) (record_at records x) lit (u.pairs x) (subst (λ (r : Record). IsWatchedBy r lit) (elsewhere x n) v)) w,
        λ w. watcher_by records newer lit x len
            (λ v. subst (λ (r : Record). IsWatchedBy r lit) (sym (elsewhere x n))
            (watched_same (record_at records x) (record_at older x) lit (sym (u.pairs x)) v)) w,
      );
      watches = record {
        within = omega (arith, watcher.within, len);
        watched = subst (λ (r : Record). IsWatchedBy r to) (sym here) (watched-with_watch old from to next);
      };
      cases = λ lit w.
          elim (with_watch_cases old from to next lit old_good.apart watched (subst (λ (r : Record). IsWatchedBy r lit) here w.watched)) [
            | inl e ↦ inl e
            | inr p ↦ inr (record { within = watcher.within; watched = back_then lit p.0 }, p.1)
          ];
      still = λ lit n w. record {
        within = omega (arith, w.within, len);
        watched = subst (λ (r : Record). IsWatchedBy r lit) (sym here)
            (still_watched old from to next lit watched n (watched_same (record_at records clause) old lit (sym (u.pairs clause)) w.watched));
      };
      way = subst (λ (o : Option ℕ). GoesThrough (link_at newer from) o rest)
          (sym (head-with_list_head_other older_heads to (Some clause) from known unlike))
          (same_way (link_at older from) (link_at newer from) (head_at older_heads from) rest
          (λ x m. ap (λ (r : Record). link_of r from) (elsewhere x (λ e. absent (subst (λ (y : ℕ). Contains rest y) e m)))) u.way);
      head = head-with_list_head older_heads to (Some clause) known;
      link = ap (λ (r : Record). link_of r to) here ∙ link-with_watch old from to next (λ w. unwatched (back_then to w)) ∙ u.other_heads to
          (λ e. unlike (sym e));
      links = λ x n. ap (λ (r : Record). link_of r to) (elsewhere x n) ∙ u.links to (λ e. unlike (sym e)) x;
      other_links = λ lit n m x. at_set (λ (r : Record). link_of r lit ≡ link_at records lit x) older clause new x within
          (λ e. link-with_watch_other old from to next lit watched n m ∙ u.links lit n clause ∙ ap (λ (v : ℕ). link_at records lit v) (sym e))
          (λ other. u.links lit n x);
      other_heads = λ lit n m. head-with_list_head_other older_heads to (Some clause) lit known m ∙ u.other_heads lit n;
    }

pub IsMoved-from_can : (records : List Record) (heads : List Heads) (before : Option ℕ) (clause : ℕ) (from to : Lit)
    (front back : List ℕ)
    → CanMove records heads before clause from to front back
    → IsMoved records (records_after records heads before clause from to) heads
    (heads_after records heads before clause from to) clause from to (front ++ back)
IsMoved-from_can records heads before clause from to front back can =
    let within : from.var < length heads = known_of (length heads) records from clause can.linked.each can.watcher in
    let way : GoesThrough (link_at records from) (head_at heads from) (front ++ clause ∷ back) =
    subst (λ (l : List ℕ). GoesThrough (link_at records from) (head_at heads from) l) can.cut (can.linked.lists from within).linked in
    IsMoved-from_unlinked records (unlinked_records records before from (link_at records from clause)) heads
    (unlinked_heads heads before from (link_at records from clause))
    clause from to (front ++ back)
    (can.linked.each clause no_record can.watcher.within) can.watcher can.unwatched can.own
    (stands_once (link_at records from) (head_at heads from) front clause back way)
    (IsUnlinked-from_cut records heads before clause from front back can.linked can.watcher can.cut can.is_before)

-- ---- the lists after a move

listed_to : (records newer : List Record) (heads newer_heads : List Heads) (clause : ℕ) (from to : Lit)
    (rest xs : List ℕ)
    → IsMoved records newer heads newer_heads clause from to rest → (IsWatcher records to clause → ⊥)
    → IsListOfWatchers records to (head_at heads to) xs
    → IsListOfWatchers newer to (head_at newer_heads to) (clause ∷ xs)
listed_to records newer heads newer_heads clause from to rest xs is unwatched listed =
    let apart : (x : ℕ) → Contains xs x → x ≢ clause =
    λ x m e. unwatched (subst (λ (y : ℕ). IsWatcher records to y) e ((listed.members x).0 m)) in
    record {
      linked = (
        is.head,
        subst (λ (o : Option ℕ). GoesThrough (link_at newer to) o xs) (sym is.link)
            (same_way (link_at records to) (link_at newer to) (head_at heads to) xs (λ x m. is.links x (apart x m)) listed.linked),
      );
      members = λ x. (
        λ m. elim (has_cases clause xs x m) [
          | inl e ↦ subst (λ (y : ℕ). IsWatcher newer to y) e is.watches
          | inr there ↦ (is.others_watch to x (apart x there)).1 ((listed.members x).0 there)
        ],
        λ w. elim (cases_eq x clause) [
          | inl e ↦ subst (λ (y : ℕ). Contains (clause ∷ xs) y) (sym e) (has_head clause xs)
          | inr n ↦ has_tail clause xs x ((listed.members x).1 ((is.others_watch to x n).0 w))
        ],
      );
    }

listed_from : (records newer : List Record) (heads newer_heads : List Heads) (clause : ℕ) (from to : Lit)
    (front back : List ℕ)
    → IsMoved records newer heads newer_heads clause from to (front ++ back) → from ≢ to
    → IsListOfWatchers records from (head_at heads from) (front ++ clause ∷ back)
    → IsListOfWatchers newer from (head_at newer_heads from) (front ++ back)
listed_from records newer heads newer_heads clause from to front back is unlike listed =
    let alone : Contains (front ++ back) clause → ⊥ = stands_once (link_at records from) (head_at heads from) front clause back listed.linked in
    record {
      linked = is.way;
      members = λ x. (
        λ m. (is.others_watch from x (λ e. alone (subst (λ (y : ℕ). Contains (front ++ back) y) e m))).1
            ((listed.members x).0 (has_beside front clause back x m)),
        λ w. elim (cases_eq x clause) [
          | inl e ↦ elim (is.cases from (subst (λ (y : ℕ). IsWatcher newer from y) e w)) [
            | inl same ↦ absurd (unlike (sym same))
            | inr p ↦ absurd (p.1 refl)
          ]
          | inr n ↦ elim (beside_cases front clause back x ((listed.members x).1 ((is.others_watch from x n).0 w))) [
            | inl e ↦ absurd (n (sym e))
            | inr m ↦ m
          ]
        ],
      );
    }

listed_other : (records newer : List Record) (heads newer_heads : List Heads) (clause : ℕ) (from to : Lit)
    (rest : List ℕ) (lit : Lit) (xs : List ℕ)
    → IsMoved records newer heads newer_heads clause from to rest → lit ≢ from → lit ≢ to
    → IsListOfWatchers records lit (head_at heads lit) xs → IsListOfWatchers newer lit (head_at newer_heads lit) xs
listed_other records newer heads newer_heads clause from to rest lit xs is n m listed = record {
  linked = subst (λ (o : Option ℕ). GoesThrough (link_at newer lit) o xs) (sym (is.other_heads lit n m))
      (same_way (link_at records lit) (link_at newer lit) (head_at heads lit) xs (λ x c. is.other_links lit n m x) listed.linked);
  members = λ x. (
    λ c. elim (cases_eq x clause) [
      | inl e ↦ subst (λ (y : ℕ). IsWatcher newer lit y) (sym e)
          (is.still lit (λ q. n (sym q)) (subst (λ (y : ℕ). IsWatcher records lit y) e ((listed.members x).0 c)))
      | inr o ↦ (is.others_watch lit x o).1 ((listed.members x).0 c)
    ],
    λ w. elim (cases_eq x clause) [
      | inl e ↦ elim (is.cases lit (subst (λ (y : ℕ). IsWatcher newer lit y) e w)) [
        | inl same ↦ absurd (m (sym same))
        | inr p ↦ (listed.members x).1 (subst (λ (y : ℕ). IsWatcher records lit y) (sym e) p.0)
      ]
      | inr o ↦ (listed.members x).1 ((is.others_watch lit x o).0 w)
    ],
  );
}

-- ---- all of a move

-- the new lists, by the old ones
pub record Lists (records newer : List Record) (heads newer_heads : List Heads) (clause : ℕ) (from to : Lit)
    (front back : List ℕ) : Type 0 where
  pub of_to : IsListOfWatchers newer to (head_at newer_heads to) (clause ∷ linked_list records heads to)
  pub of_from : IsListOfWatchers newer from (head_at newer_heads from) (front ++ back)
  pub of_other : (lit : Lit) → lit.var < length heads → lit ≢ from → lit ≢ to
      → IsListOfWatchers newer lit (head_at newer_heads lit) (linked_list records heads lit)

pub known_to : (records : List Record) (heads : List Heads) (before : Option ℕ) (clause : ℕ) (from to : Lit)
    (front back : List ℕ)
    → CanMove records heads before clause from to front back → to.var < length heads
known_to records heads before clause from to front back can =
    let good : IsRecord (length heads) (record_at records clause) = can.linked.each clause no_record can.watcher.within in
    All-contains (λ (l : Lit). l.var < length heads) (record_at records clause).clause to good.known can.own

pub unlike_of : (records : List Record) (heads : List Heads) (before : Option ℕ) (clause : ℕ) (from to : Lit)
    (front back : List ℕ)
    → CanMove records heads before clause from to front back → from ≢ to
unlike_of records heads before clause from to front back can e =
    can.unwatched (subst (λ (l : Lit). IsWatchedBy (record_at records clause) l) e can.watcher.watched)

pub moved_lists : (records : List Record) (heads : List Heads) (before : Option ℕ) (clause : ℕ) (from to : Lit)
    (front back : List ℕ)
    → CanMove records heads before clause from to front back
    → Lists records (records_after records heads before clause from to) heads
    (heads_after records heads before clause from to) clause from to front back
moved_lists records heads before clause from to front back can =
    let newer : List Record = records_after records heads before clause from to in
    let newer_heads : List Heads = heads_after records heads before clause from to in
    let is : IsMoved records newer heads newer_heads clause from to (front ++ back) = IsMoved-from_can records heads before clause from to front back can in
    let unlike : from ≢ to = unlike_of records heads before clause from to front back can in
    let within : from.var < length heads = known_of (length heads) records from clause can.linked.each can.watcher in
    let known : to.var < length heads = known_to records heads before clause from to front back can in
    record {
      of_to = listed_to records newer heads newer_heads clause from to (front ++ back) (linked_list records heads to) is
          (λ w. can.unwatched w.watched) (can.linked.lists to known);
      of_from = listed_from records newer heads newer_heads clause from to front back is unlike
          (subst (λ (l : List ℕ). IsListOfWatchers records from (head_at heads from) l) can.cut (can.linked.lists from within));
      of_other = λ lit h n m. listed_other records newer heads newer_heads clause from to (front
          ++ back) lit (linked_list records heads lit) is n m (can.linked.lists lit h);
    }

pub moved_linked : (records : List Record) (heads : List Heads) (before : Option ℕ) (clause : ℕ) (from to : Lit)
    (front back : List ℕ)
    → CanMove records heads before clause from to front back
    → AreLinked (records_after records heads before clause from to) (heads_after records heads before clause from to)
moved_linked records heads before clause from to front back can =
    let newer : List Record = records_after records heads before clause from to in
    let newer_heads : List Heads = heads_after records heads before clause from to in
    let is : IsMoved records newer heads newer_heads clause from to (front ++ back) = IsMoved-from_can records heads before clause from to front back can in
    let lists : Lists records newer heads newer_heads clause from to front back = moved_lists records heads before clause from to front back can in
    linked_from newer newer_heads (subst (λ (n : ℕ). All (IsRecord n) newer) (sym is.vars) is.each)
    (λ lit h. elim (lit_cases lit to) [
      | inl e ↦ subst (λ (l : Lit). (xs : List ℕ) × IsListOfWatchers newer l (head_at newer_heads l) xs) (sym e)
          (clause ∷ linked_list records heads to, lists.of_to)
      | inr m ↦ elim (lit_cases lit from) [
        | inl e ↦ subst (λ (l : Lit). (xs : List ℕ) × IsListOfWatchers newer l (head_at newer_heads l) xs) (sym e) (front ++ back, lists.of_from)
        | inr n ↦ (linked_list records heads lit, lists.of_other lit (subst (λ (k : ℕ). lit.var < k) is.vars h) n m)
      ]
    ])
