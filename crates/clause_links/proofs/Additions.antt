-- The lists after clauses or variables come in.
use Rattle.std.proofs.Common.{◌≡◌, ◌≢◌, ◌<◌, ◌≤◌, ◌+◌, ◌-◌, ◌⊎◌, ◌↔◌, ℕ, Bool, true, false, List, [], ◌∷◌, ◌++◌, length, map, take, replicate, get_or}
use Rattle.std.proofs.Common.{Option, Some, None, refl, sym, ◌∙◌, ap, subst, inl, inr, arith, length-append}
use Rattle.std.specs.List.{All, Contains, slice_get}
use Rattle.std.proofs.lemmas.Bool.{cases_eq, cases_lt}
use Rattle.std.proofs.lemmas.List.{get_or_append_left, get_or_push, get_or-append_right, get_or_past, get_or-replicate, length-replicate, take_all, map_push}
use Rattle.std.proofs.lemmas.List.Elements.{All-push, All-weaker, All-contains}
use Rattle.cnf.specs.declared.lit.Lit.{Lit}
use Rattle.clause_links.specs.declared.records.Record.{Record}
use Rattle.clause_links.specs.declared.records.Watch.{Watch}
use Rattle.clause_links.specs.declared.records.Heads.{Heads}
use Rattle.clause_links.specs.WatchLists.{IsWatchedFirst, watchers}
use Rattle.clause_links.specs.Records.{no_record, no_heads, record_at, IsWatchedBy, link_of, link_at, head_of, head_at, with_list_head, GoesThrough}
use Rattle.clause_links.specs.Records.{linked_list, pair_of, watch_lists, IsWatcher, IsRecord, IsListOfWatchers, AreLinked}
use Rattle.clause_links.proofs.Members.{no_member, has_head, has_tail, has_cases}
use Rattle.clause_links.proofs.Walks.{same_way}
use Rattle.clause_links.proofs.Watches.{lit_cases, link_first, link_second}
use Rattle.clause_links.proofs.HeadLaws.{head-with_list_head, head-with_list_head_other, length-with_list_head, no_head}
use Rattle.clause_links.proofs.Listing.{known_of, linked_from, watchers_are, watchers_from, no_watchers}

-- ---- a clause more

-- a record of a clause that watches a and b, at the heads of their lists
pub record IsAdded (records newer : List Record) (heads newer_heads : List Heads) (lits : List Lit) (a b : Lit)
    (r : Record) : Type 0 where
  pub linked : AreLinked records heads
  pub apart : a ≢ b
  pub has_a : Contains lits a
  pub has_b : Contains lits b
  pub known : All (λ (lit : Lit). lit.var < length heads) lits
  pub newer_is : newer ≡ records ++ r ∷ []
  pub heads_are : newer_heads ≡ with_list_head (with_list_head heads a (Some (length records))) b (Some (length records))
  pub clause : r.clause ≡ lits
  pub first : r.first ≡ record { lit = a; next = head_at heads a }
  pub second : r.second ≡ record { lit = b; next = head_at heads b }

abbrev added_heads : List Record → List Heads → Lit → Lit → List Heads
added_heads records heads a b = with_list_head (with_list_head heads a (Some (length records))) b (Some (length records))

-- what is so then, with the literal of a list
pub record IsAddedTo (records newer : List Record) (heads newer_heads : List Heads) (a b : Lit) : Type 0 where
  pub vars : length newer_heads ≡ length heads
  pub each : All (IsRecord (length heads)) newer
  pub old : (lit : Lit) (x : ℕ) → x < length records → IsWatcher newer lit x ↔ IsWatcher records lit x
  pub links : (lit : Lit) (x : ℕ) → x < length records → link_at newer lit x ≡ link_at records lit x
  pub below : (lit : Lit) (x : ℕ) → IsWatcher newer lit x → (x < length records)
      ⊎ ((x ≡ length records) × ((a ≡ lit) ⊎ (b ≡ lit)))
  pub watches : (lit : Lit) → (a ≡ lit) ⊎ (b ≡ lit) → IsWatcher newer lit (length records)
  pub link : (lit : Lit) → (a ≡ lit) ⊎ (b ≡ lit) → link_at newer lit (length records) ≡ head_at heads lit
  pub head : (lit : Lit) → (a ≡ lit) ⊎ (b ≡ lit) → head_at newer_heads lit ≡ Some (length records)
  pub other_heads : (lit : Lit) → lit ≢ a → lit ≢ b → head_at newer_heads lit ≡ head_at heads lit

watcher_at : (newer : List Record) (r : Record) (lit : Lit) (n : ℕ) → n < length newer → record_at newer n ≡ r
    → IsWatchedBy r lit → IsWatcher newer lit n
watcher_at newer r lit n within is w = record { within = within; watched = subst (λ (q : Record). IsWatchedBy q lit) (sym is) w }

good_record : (n : ℕ) (lits : List Lit) (a b : Lit) (next other : Option ℕ) (r : Record) → a ≢ b → Contains lits a
    → Contains lits b → All (λ (lit : Lit). lit.var < n) lits
    → r.clause ≡ lits → r.first ≡ record { lit = a; next = next } → r.second ≡ record { lit = b; next = other }
    → IsRecord n r
good_record n lits a b next other r apart has_a has_b known clause first second =
    let la : r.first.lit ≡ a = ap (λ (w : Watch). w.lit) first in
    let lb : r.second.lit ≡ b = ap (λ (w : Watch). w.lit) second in
    record {
      apart = λ e. apart (sym la ∙ e ∙ lb);
      first = subst (λ (l : Lit). Contains r.clause l) (sym la) (subst (λ (c : List Lit). Contains c a) (sym clause) has_a);
      second = subst (λ (l : Lit). Contains r.clause l) (sym lb) (subst (λ (c : List Lit). Contains c b) (sym clause) has_b);
      known = subst (λ (c : List Lit). All (λ (lit : Lit). lit.var < n) c) (sym clause) known;
    }

IsAddedTo-from_added : (records : List Record) (heads : List Heads) (lits : List Lit) (a b : Lit) (r : Record)
    → IsAdded records (records ++ r ∷ []) heads (added_heads records heads a b) lits a b r
    → IsAddedTo records (records ++ r ∷ []) heads (added_heads records heads a b) a b
IsAddedTo-from_added records heads lits a b r is =
    let n : ℕ = length records in
    let newer : List Record = records ++ r ∷ [] in
    let here : record_at newer n ≡ r = get_or_push records r no_record n refl in
    let len : length newer ≡ n + 1 = length-append records (r ∷ []) in
    let there : (x : ℕ) → x < n → record_at newer x ≡ record_at records x = λ x h. get_or_append_left records (r ∷ []) no_record x h in
    let known_a : a.var < length heads = All-contains (λ (l : Lit). l.var < length heads) lits a is.known is.has_a in
    let known_b : b.var < length heads = All-contains (λ (l : Lit). l.var < length heads) lits b is.known is.has_b in
    let middle : List Heads = with_list_head heads a (Some n) in
    let known_middle : b.var < length middle = omega (arith, length-with_list_head heads a (Some n)) in
    let la : r.first.lit ≡ a = ap (λ (w : Watch). w.lit) is.first in
    let lb : r.second.lit ≡ b = ap (λ (w : Watch). w.lit) is.second in
    let link_a : link_of r a ≡ head_at heads a = link_first r a la ∙ ap (λ (w : Watch). w.next) is.first in
    let link_b : link_of r b ≡ head_at heads b = link_second r b (λ e. is.apart (sym la ∙ e)) lb ∙ ap (λ (w : Watch). w.next) is.second in
    record {
      vars = length-with_list_head middle b (Some n) ∙ length-with_list_head heads a (Some n);
      each = All-push (IsRecord (length heads)) records r is.linked.each
          (good_record (length heads) lits a b (head_at heads a) (head_at heads b) r is.apart is.has_a is.has_b is.known is.clause is.first is.second);
      old = λ lit x h. (
        λ w. record { within = h; watched = subst (λ (q : Record). IsWatchedBy q lit) (there x h) w.watched },
        λ w. record { within = omega (arith, len); watched = subst (λ (q : Record). IsWatchedBy q lit) (sym (there x h)) w.watched },
      );
      links = λ lit x h. ap (λ (q : Record). link_of q lit) (there x h);
      below = λ lit x w. elim (cases_lt x n) [
        | inl h ↦ inl h
        | inr past ↦
            let e : x ≡ n = omega (arith, len, w.within) in
            let is_r : record_at newer x ≡ r = ap (λ (v : ℕ). record_at newer v) e ∙ here in
            inr (
              e,
              elim w.watched [
                | inl f ↦ inl (sym la ∙ sym (ap (λ (q : Record). q.first.lit) is_r) ∙ f)
                | inr s ↦ inr (sym lb ∙ sym (ap (λ (q : Record). q.second.lit) is_r) ∙ s)
              ],
            )
      ];
      watches = λ lit h. watcher_at newer r lit n (omega (arith, len)) here (elim h [ inl e ↦ inl (la ∙ e) | inr e ↦ inr (lb ∙ e) ]);
      link = λ lit h. ap (λ (q : Record). link_of q lit) here ∙ elim h [
        | inl e ↦ subst (λ (l : Lit). link_of r l ≡ head_at heads l) e link_a
        | inr e ↦ subst (λ (l : Lit). link_of r l ≡ head_at heads l) e link_b
      ];
      head = λ lit h. elim h [
        | inl e ↦ subst (λ (l : Lit). head_at (with_list_head middle b (Some n)) l ≡ Some n) e
            (head-with_list_head_other middle b (Some n) a known_middle is.apart ∙ head-with_list_head heads a (Some n) known_a)
        | inr e ↦ subst (λ (l : Lit). head_at (with_list_head middle b (Some n)) l ≡ Some n) e (head-with_list_head middle b (Some n) known_middle)
      ];
      other_heads = λ lit na nb. head-with_list_head_other middle b (Some n) lit known_middle nb ∙ head-with_list_head_other heads a
          (Some n) lit known_a na;
    }

listed_below : (records : List Record) (lit : Lit) (head : Option ℕ) (xs : List ℕ)
    → IsListOfWatchers records lit head xs
    → (x : ℕ) → Contains xs x → x < length records
listed_below records lit head xs listed x m = ((listed.members x).0 m).within

listed_watched : (records newer : List Record) (heads newer_heads : List Heads) (a b lit : Lit) (xs : List ℕ)
    → IsAddedTo records newer heads newer_heads a b → (a ≡ lit) ⊎ (b ≡ lit)
    → IsListOfWatchers records lit (head_at heads lit) xs
    → IsListOfWatchers newer lit (head_at newer_heads lit) (length records ∷ xs)
listed_watched records newer heads newer_heads a b lit xs is watched listed =
    let n : ℕ = length records in
    let low : (x : ℕ) → Contains xs x → x < n = listed_below records lit (head_at heads lit) xs listed in
    record {
      linked = (
        is.head lit watched,
        subst (λ (o : Option ℕ). GoesThrough (link_at newer lit) o xs) (sym (is.link lit watched))
            (same_way (link_at records lit) (link_at newer lit) (head_at heads lit) xs (λ x m. is.links lit x (low x m)) listed.linked),
      );
      members = λ x. (
        λ m. elim (has_cases n xs x m) [
          | inl e ↦ subst (λ (y : ℕ). IsWatcher newer lit y) e (is.watches lit watched)
          | inr there ↦ (is.old lit x (low x there)).1 ((listed.members x).0 there)
        ],
        λ w. elim (is.below lit x w) [
          | inl h ↦ has_tail n xs x ((listed.members x).1 ((is.old lit x h).0 w))
          | inr p ↦ subst (λ (y : ℕ). Contains (n ∷ xs) y) (sym p.0) (has_head n xs)
        ],
      );
    }

listed_unwatched : (records newer : List Record) (heads newer_heads : List Heads) (a b lit : Lit) (xs : List ℕ)
    → IsAddedTo records newer heads newer_heads a b → lit ≢ a → lit ≢ b
    → IsListOfWatchers records lit (head_at heads lit) xs → IsListOfWatchers newer lit (head_at newer_heads lit) xs
listed_unwatched records newer heads newer_heads a b lit xs is na nb listed =
    let low : (x : ℕ) → Contains xs x → x < length records = listed_below records lit (head_at heads lit) xs listed in
    record {
      linked = subst (λ (o : Option ℕ). GoesThrough (link_at newer lit) o xs) (sym (is.other_heads lit na nb))
          (same_way (link_at records lit) (link_at newer lit) (head_at heads lit) xs (λ x m. is.links lit x (low x m)) listed.linked);
      members = λ x. (
        λ m. (is.old lit x (low x m)).1 ((listed.members x).0 m),
        λ w. elim (is.below lit x w) [
          | inl h ↦ (listed.members x).1 ((is.old lit x h).0 w)
          | inr p ↦ elim p.1 [ inl e ↦ absurd (na (sym e)) | inr e ↦ absurd (nb (sym e)) ]
        ],
      );
    }

-- the new lists are linked, and are the old ones with the clause in two of them
pub record Added (records newer : List Record) (heads newer_heads : List Heads) (a b : Lit) : Type 0 where
  pub linked : AreLinked newer newer_heads
  pub watched : IsWatchedFirst (watch_lists records heads) (watch_lists newer newer_heads) (length records) a b

added_lists : (records newer : List Record) (heads newer_heads : List Heads) (a b : Lit) → AreLinked records heads
    → IsAddedTo records newer heads newer_heads a b → AreLinked newer newer_heads
added_lists records newer heads newer_heads a b linked is =
    linked_from newer newer_heads (subst (λ (n : ℕ). All (IsRecord n) newer) (sym is.vars) is.each)
    (λ lit h.
    let listed : IsListOfWatchers records lit (head_at heads lit) (linked_list records heads lit) = linked.lists lit
    (subst (λ (n : ℕ). lit.var < n) is.vars h) in
    elim (lit_cases a lit) [
      | inl e ↦ (
        length records ∷ linked_list records heads lit,
        listed_watched records newer heads newer_heads a b lit
            (linked_list records heads lit) is (inl e) listed,
      )
      | inr na ↦ elim (lit_cases b lit) [
        | inl e ↦ (
          length records ∷ linked_list records heads lit,
          listed_watched records newer heads newer_heads a b lit (linked_list records heads lit) is (inr e)
              listed,
        )
        | inr nb ↦ (
          linked_list records heads lit,
          listed_unwatched records newer heads newer_heads a b lit (linked_list records heads lit) is (λ e. na (sym e)) (λ e. nb (sym e)) listed,
        )
      ]
    ])

-- the list of a literal that the clause watches, and of one that it doesn't
watchers_watched : (records newer : List Record) (heads newer_heads : List Heads) (a b lit : Lit)
    → AreLinked records heads → IsAddedTo records newer heads newer_heads a b
    → (a ≡ lit) ⊎ (b ≡ lit) → lit.var < length heads
    → watchers (watch_lists newer newer_heads) lit ≡ length records ∷ watchers (watch_lists records heads) lit
watchers_watched records newer heads newer_heads a b lit linked is h within =
    watchers_from newer newer_heads lit (length records ∷ linked_list records heads lit) (subst (λ (n : ℕ). lit.var < n) (sym is.vars) within)
    (listed_watched records newer heads newer_heads a b lit (linked_list records heads lit) is h (linked.lists lit within))
    ∙ ap (λ (xs : List ℕ). length records ∷ xs) (sym (watchers_are records heads lit within))

watchers_unwatched : (records newer : List Record) (heads newer_heads : List Heads) (a b lit : Lit)
    → AreLinked records heads → IsAddedTo records newer heads newer_heads a b
    → lit ≢ a → lit ≢ b → watchers (watch_lists newer newer_heads) lit ≡ watchers (watch_lists records heads) lit
watchers_unwatched records newer heads newer_heads a b lit linked is na nb =
    elim (cases_lt lit.var (length heads)) [
      | inl within ↦
          watchers_from newer newer_heads lit (linked_list records heads lit) (subst (λ (n : ℕ). lit.var < n) (sym is.vars) within)
          (listed_unwatched records newer heads newer_heads a b lit (linked_list records heads lit) is na nb (linked.lists lit within))
          ∙ sym (watchers_are records heads lit within)
      | inr past ↦
          no_watchers newer newer_heads lit (subst (λ (n : ℕ). n ≤ lit.var) (sym is.vars) past) ∙ sym (no_watchers records heads lit past)
    ]

added_all : (records : List Record) (heads : List Heads) (lits : List Lit) (a b : Lit) (r : Record)
    → IsAdded records (records ++ r ∷ []) heads (added_heads records heads a b) lits a b r
    → Added records (records ++ r ∷ []) heads (added_heads records heads a b) a b
added_all records heads lits a b r is =
    let newer : List Record = records ++ r ∷ [] in
    let newer_heads : List Heads = added_heads records heads a b in
    let to : IsAddedTo records newer heads newer_heads a b = IsAddedTo-from_added records heads lits a b r is in
    let known_a : a.var < length heads = All-contains (λ (l : Lit). l.var < length heads) lits a is.known is.has_a in
    let known_b : b.var < length heads = All-contains (λ (l : Lit). l.var < length heads) lits b is.known is.has_b in
    let la : r.first.lit ≡ a = ap (λ (w : Watch). w.lit) is.first in
    let lb : r.second.lit ≡ b = ap (λ (w : Watch). w.lit) is.second in
    let pair : pair_of r ≡ (a, b) = ap (λ (l : Lit). (l, r.second.lit)) la ∙ ap (λ (l : Lit). (a, l)) lb in
    record {
      linked = added_lists records newer heads newer_heads a b is.linked to;
      watched = record {
        pairs = map_push pair_of records r ∙ ap (λ (p : Lit × Lit). map pair_of records ++ p ∷ []) pair;
        first = watchers_watched records newer heads newer_heads a b a is.linked to (inl refl) known_a;
        second = watchers_watched records newer heads newer_heads a b b is.linked to (inr refl) known_b;
        others = λ lit na nb. watchers_unwatched records newer heads newer_heads a b lit is.linked to na nb;
      };
    }

pub clause_added : (records newer : List Record) (heads newer_heads : List Heads) (lits : List Lit) (a b : Lit)
    (r : Record)
    → IsAdded records newer heads newer_heads lits a b r → Added records newer heads newer_heads a b
clause_added records newer heads newer_heads lits a b r is =
    let same : IsAdded records (records ++ r ∷ []) heads (added_heads records heads a b) lits a b r =
    record {
      linked = is.linked;
      apart = is.apart;
      has_a = is.has_a;
      has_b = is.has_b;
      known = is.known;
      newer_is = refl;
      heads_are = refl;
      clause = is.clause;
      first = is.first;
      second = is.second;
    } in
    subst (λ (n : List Record). Added records n heads newer_heads a b) (sym is.newer_is)
    (subst (λ (h : List Heads). Added records (records ++ r ∷ []) heads h a b) (sym is.heads_are) (added_all records heads lits a b r same))

-- ---- variables more

-- the heads with further ones of empty lists
abbrev pub more_heads : List Heads → ℕ → List Heads
more_heads heads k = heads ++ replicate k no_heads

head_of_more : (heads : List Heads) (k : ℕ) (var : ℕ) → get_or (more_heads heads k) var no_heads
    ≡ get_or heads var no_heads
head_of_more heads k var =
    elim (cases_lt var (length heads)) [
      | inl within ↦ get_or_append_left heads (replicate k no_heads) no_heads var within
      | inr past ↦
          get_or-append_right heads (replicate k no_heads) (length heads) var no_heads refl past
          ∙ none_there k (var - length heads) ∙ sym (get_or_past heads var no_heads past)
    ]
  where
    none_there : (k i : ℕ) → get_or (replicate k no_heads) i no_heads ≡ no_heads
    none_there k i =
        elim (cases_lt i k) [
          | inl h ↦ get_or-replicate k i no_heads no_heads h
          | inr h ↦ get_or_past (replicate k no_heads) i no_heads (omega (arith, length-replicate k no_heads))
        ]

-- no new variable is watched, and the old lists stay
pub record Grown (records : List Record) (heads newer_heads : List Heads) : Type 0 where
  pub linked : AreLinked records newer_heads
  pub lists : (lit : Lit) → watchers (watch_lists records newer_heads) lit ≡ watchers (watch_lists records heads) lit

Grown-more_heads : (records : List Record) (heads : List Heads) (k : ℕ) → AreLinked records heads
    → Grown records heads (more_heads heads k)
Grown-more_heads records heads k linked =
    let newer : List Heads = more_heads heads k in
    let longer : length heads ≤ length newer = omega (arith, length-append heads (replicate k no_heads)) in
    let same : (lit : Lit) → head_at newer lit ≡ head_at heads lit = λ lit. ap (λ (h : Heads). head_of h lit.positive) (head_of_more heads k lit.var) in
    let each : All (IsRecord (length newer)) records =
    All-weaker (IsRecord (length heads)) (IsRecord (length newer))
    (λ r h. record {
      apart = h.apart;
      first = h.first;
      second = h.second;
      known = All-weaker (λ (l : Lit). l.var < length heads) (λ (l : Lit). l.var < length newer) (λ l less. omega arith) r.clause h.known;
    })
    records linked.each in
    let old_list : (lit : Lit) → lit.var < length heads → IsListOfWatchers records lit (head_at newer lit) (linked_list records heads lit) =
    λ lit within. subst (λ (o : Option ℕ). IsListOfWatchers records lit o (linked_list records heads lit)) (sym (same lit)) (linked.lists lit within) in
    let new_list : (lit : Lit) → length heads ≤ lit.var → IsListOfWatchers records lit (head_at newer lit) [] =
    λ lit past. record {
      linked = same lit ∙ ap (λ (h : Heads). head_of h lit.positive) (get_or_past heads lit.var no_heads past) ∙ no_head lit.positive;
      members = λ x. (λ m. absurd (no_member x m), λ w. absurd (omega (arith, known_of (length heads) records lit x linked.each w)));
    } in
    record {
      linked = linked_from records newer each (λ lit h. elim (cases_lt lit.var (length heads)) [
        | inl within ↦ (linked_list records heads lit, old_list lit within)
        | inr past ↦ ([], new_list lit past)
      ]);
      lists = λ lit. elim (cases_lt lit.var (length heads)) [
        | inl within ↦ watchers_from records newer lit (linked_list records heads lit) (omega arith) (old_list lit within) ∙ sym
            (watchers_are records heads lit within)
        | inr past ↦ elim (cases_lt lit.var (length newer)) [
          | inl h ↦ watchers_from records newer lit [] h (new_list lit past) ∙ sym (no_watchers records heads lit past)
          | inr further ↦ no_watchers records newer lit further ∙ sym (no_watchers records heads lit past)
        ]
      ];
    }

pub vars_added : (records : List Record) (heads newer : List Heads) (vars k : ℕ) → AreLinked records heads
    → length heads ≤ vars → newer ≡ take vars heads ++ replicate k no_heads
    → Grown records heads newer
vars_added records heads newer vars k linked longer is =
    let same : newer ≡ more_heads heads k = is ∙ ap (λ (h : List Heads). h ++ replicate k no_heads) (take_all vars heads longer) in
    subst (λ (h : List Heads). Grown records heads h) (sym same) (Grown-more_heads records heads k linked)
