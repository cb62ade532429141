-- Serves proofs only: how the records of the clauses and the heads of the lists make up watch lists.

use Rattle.std.specs.Prelude.{◌≡◌, ◌≢◌, ◌<◌, ◌+◌, ◌==◌, ◌&&◌, ◌⊎◌, ◌↔◌, ℕ, zero, suc, Bool, true, false, not, List}
use Rattle.std.specs.Prelude.{[], ◌∷◌, length, map, Option, Some, None, All, Contains, slice_index_or, slice_set}
use Rattle.std.specs.Prelude.{if◌then◌else◌}
use Rattle.cnf.specs.declared.lit.Lit.{Lit}
use Rattle.clause_links.specs.WatchLists.{WatchLists}
use Rattle.clause_links.specs.declared.records.Record.{Record}
use Rattle.clause_links.specs.declared.records.Watch.{Watch}
use Rattle.clause_links.specs.declared.records.Heads.{Heads}

-- whether two signs, and two literals, are the same
abbrev pub same_sign : Bool → Bool → Bool
same_sign true b = b
same_sign false b = not b

abbrev pub same_lit : Lit → Lit → Bool
same_lit a b = (a.var == b.var) && same_sign a.positive b.positive

-- the literal, the record and the heads that stand at no place
abbrev pub no_lit : Lit
no_lit = record { var = 0; positive = false }

abbrev pub nth_lit : List Lit → ℕ → Lit
nth_lit lits n = slice_index_or lits n no_lit

abbrev pub no_watch : Watch
no_watch = record { lit = no_lit; next = None }

abbrev pub no_record : Record
no_record = record { clause = []; first = no_watch; second = no_watch }

abbrev pub no_heads : Heads
no_heads = record { positive = None; negative = None }

abbrev pub record_at : List Record → ℕ → Record
record_at records clause = slice_index_or records clause no_record

-- the record watches the literal
abbrev pub IsWatchedBy : Record → Lit → Type 0
IsWatchedBy r lit = (r.first.lit ≡ lit) ⊎ (r.second.lit ≡ lit)

-- the next link of a record along the list of a literal; none where the record doesn't watch it
abbrev pub link_of : Record → Lit → Option ℕ
link_of r lit =
    if same_lit r.first.lit lit then r.first.next else (if same_lit r.second.lit lit then r.second.next else None)

abbrev pub link_at : List Record → Lit → ℕ → Option ℕ
link_at records lit clause = link_of (record_at records clause) lit

-- the record with another next link along the list of a literal that it watches
abbrev pub with_link : Record → Lit → Option ℕ → Record
with_link r lit next =
    if same_lit r.first.lit lit then record r { first = record { lit = r.first.lit; next = next } }
    else record r { second = record { lit = r.second.lit; next = next } }

-- the record with another literal, and its link, in the place of one that it watches
abbrev pub with_watch : Record → Lit → Lit → Option ℕ → Record
with_watch r from to next =
    if same_lit r.first.lit from then record r { first = record { lit = to; next = next } }
    else record r { second = record { lit = to; next = next } }

-- the head of the list of a literal
abbrev pub head_of : Heads → Bool → Option ℕ
head_of heads true = heads.positive
head_of heads false = heads.negative

abbrev pub head_at : List Heads → Lit → Option ℕ
head_at heads lit = head_of (slice_index_or heads lit.var no_heads) lit.positive

-- the heads with another head of the list of a literal
abbrev pub with_head : Heads → Bool → Option ℕ → Heads
with_head heads true head = record heads { positive = head }
with_head heads false head = record heads { negative = head }

abbrev pub with_list_head : List Heads → Lit → Option ℕ → List Heads
with_list_head heads lit head =
    slice_set heads lit.var (with_head (slice_index_or heads lit.var no_heads) lit.positive head)

-- the heads where a clause is the head of the lists of the first two literals of a list
abbrev pub with_two_heads : List Heads → List Lit → ℕ → List Heads
with_two_heads heads lits clause =
    with_list_head (with_list_head heads (nth_lit lits 0) (Some clause)) (nth_lit lits 1) (Some clause)

-- a watch of a literal, before the head of its list
abbrev pub watch_before : List Heads → Lit → Watch
watch_before heads lit = record { lit = lit; next = head_at heads lit }

-- the records and the heads where the link to a member of the list of a literal, from the number before it or from the
-- head, leads to what stands behind it
abbrev pub unlinked_records : List Record → Option ℕ → Lit → Option ℕ → List Record
unlinked_records records None lit after = records
unlinked_records records (Some before) lit after =
    slice_set records before (with_link (record_at records before) lit after)

abbrev pub unlinked_heads : List Heads → Option ℕ → Lit → Option ℕ → List Heads
unlinked_heads heads None lit after = with_list_head heads lit after
unlinked_heads heads (Some before) lit after = heads

-- the records where a clause watches another literal, at the head of its list
abbrev pub moved_records : List Record → List Heads → ℕ → Lit → Lit → List Record
moved_records records heads clause from to =
    slice_set records clause (with_watch (record_at records clause) from to (head_at heads to))

-- the records and the heads after a move of a watch
abbrev pub records_after : List Record → List Heads → Option ℕ → ℕ → Lit → Lit → List Record
records_after records heads before clause from to =
    moved_records (unlinked_records records before from (link_at records from clause))
    (unlinked_heads heads before from (link_at records from clause)) clause from to

abbrev pub heads_after : List Record → List Heads → Option ℕ → ℕ → Lit → Lit → List Heads
heads_after records heads before clause from to =
    with_list_head (unlinked_heads heads before from (link_at records from clause)) to (Some clause)

-- the first `n` numbers on the way from a number along the links
abbrev pub walk : (ℕ → Option ℕ) → ℕ → Option ℕ → List ℕ
walk next zero from = []
walk next (suc n) None = []
walk next (suc n) (Some x) = x ∷ walk next n (next x)

-- from a number on, the links go through the list and end
abbrev pub GoesThrough : (ℕ → Option ℕ) → Option ℕ → List ℕ → Type 0
GoesThrough next from [] = from ≡ None
GoesThrough next from (x ∷ xs) = (from ≡ Some x) × GoesThrough next (next x) xs

-- the list of a literal, as the links of the records make it
abbrev pub linked_list : List Record → List Heads → Lit → List ℕ
linked_list records heads lit = walk (link_at records lit) (length records) (head_at heads lit)

-- the lists of one sign, of the variables from a number on
abbrev pub lists_from : List Record → List Heads → Bool → ℕ → List Heads → List (List ℕ)
lists_from records heads sign n [] = []
lists_from records heads sign n (head ∷ more) =
    linked_list records heads (record { var = n; positive = sign }) ∷ lists_from records heads sign (n + 1) more

-- the two literals that a record watches
abbrev pub pair_of : Record → Lit × Lit
pair_of r = (r.first.lit, r.second.lit)

-- the watch lists that the records and the heads make up
abbrev pub watch_lists : List Record → List Heads → WatchLists
watch_lists records heads = record {
  vars = length heads;
  clauses = map (λ r. r.clause) records;
  pairs = map pair_of records;
  positive = lists_from records heads true 0 heads;
  negative = lists_from records heads false 0 heads;
}

-- the clause watches the literal, by its record
pub record IsWatcher (records : List Record) (lit : Lit) (clause : ℕ) : Type 0 where
  pub within : clause < length records
  pub watched : IsWatchedBy (record_at records clause) lit

-- a record watches two different literals of its clause, which has literals of the first `vars` variables alone
pub record IsRecord (vars : ℕ) (r : Record) : Type 0 where
  pub apart : r.first.lit ≢ r.second.lit
  pub first : Contains r.clause r.first.lit
  pub second : Contains r.clause r.second.lit
  pub known : All (λ lit. lit.var < vars) r.clause

-- the links from a literal's head go through a list of exactly the clauses that watch it, and end
pub record IsListOfWatchers (records : List Record) (lit : Lit) (head : Option ℕ) (xs : List ℕ) : Type 0 where
  pub linked : GoesThrough (link_at records lit) head xs
  pub members : (clause : ℕ) → Contains xs clause ↔ IsWatcher records lit clause

-- the records and the heads are those of watch lists
pub record AreLinked (records : List Record) (heads : List Heads) : Type 0 where
  pub each : All (IsRecord (length heads)) records
  pub lists : (lit : Lit) → lit.var < length heads
      → IsListOfWatchers records lit (head_at heads lit) (linked_list records heads lit)
