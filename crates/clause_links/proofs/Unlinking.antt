-- The list of a literal where a link leads past one of its members.
use Rattle.std.proofs.Common.{◌≡◌, ◌≢◌, ◌<◌, ◌≤◌, ◌+◌, ◌⊎◌, ◌↔◌, ℕ, List, [], ◌∷◌, ◌++◌, length, map, get_or, set, Option, Some, None, refl, sym, ◌∙◌, ap}
use Rattle.std.proofs.Common.{subst, inl, inr, arith, length-set, append_assoc}
use Rattle.std.specs.List.{All, Contains}
use Rattle.std.proofs.lemmas.Bool.{cases_eq}
use Rattle.std.proofs.lemmas.List.{get_or-set_same, get_or-set_other}
use Rattle.std.proofs.lemmas.List.Elements.{All-set, Contains-append_right}
use Rattle.cnf.specs.declared.lit.Lit.{Lit}
use Rattle.clause_links.specs.declared.records.Record.{Record}
use Rattle.clause_links.specs.declared.records.Heads.{Heads}
use Rattle.clause_links.specs.WatchLists.{last_member}
use Rattle.clause_links.specs.Records.{no_record, record_at, IsWatchedBy, link_of, link_at, with_link, head_at, with_list_head, GoesThrough, linked_list}
use Rattle.clause_links.specs.Records.{pair_of, IsWatcher, IsRecord, IsListOfWatchers, AreLinked, unlinked_records, unlinked_heads}
use Rattle.clause_links.proofs.Members.{ends_with, no_last, has_middle}
use Rattle.clause_links.proofs.Walks.{way_on, way_past}
use Rattle.clause_links.proofs.Watches.{link-with_link, link-with_link_other, pair-with_link, clause-with_link, IsRecord-with_link}
use Rattle.clause_links.proofs.HeadLaws.{head-with_list_head, head-with_list_head_other, length-with_list_head}
use Rattle.clause_links.proofs.Listing.{known_of}

-- a fact of a record after another one took a place
pub at_set : (P : Record → Type 0) (records : List Record) (k : ℕ) (r : Record) (x : ℕ) → k < length records
    → (x ≡ k → P r) → (x ≢ k → P (record_at records x)) → P (record_at (set records k r) x)
at_set P records k r x within here there =
    elim (cases_eq x k) [
      | inl e ↦ subst P (sym (ap (λ (v : ℕ). get_or (set records k r) v no_record) e ∙ get_or-set_same records k r no_record within)) (here e)
      | inr n ↦ subst P (sym (get_or-set_other records k x r no_record n)) (there n)
    ]

-- the links of a literal go through the rest of its list; all other links, heads, pairs and clauses stay
pub record IsUnlinked (records newer : List Record) (heads newer_heads : List Heads) (from : Lit) (rest : List ℕ) : Type
    0 where
  pub len : length newer ≡ length records
  pub vars : length newer_heads ≡ length heads
  pub each : All (IsRecord (length heads)) newer
  pub pairs : (x : ℕ) → pair_of (record_at newer x) ≡ pair_of (record_at records x)
  pub clauses : (x : ℕ) → (record_at newer x).clause ≡ (record_at records x).clause
  pub way : GoesThrough (link_at newer from) (head_at newer_heads from) rest
  pub links : (lit : Lit) → lit ≢ from → (x : ℕ) → link_at newer lit x ≡ link_at records lit x
  pub other_heads : (lit : Lit) → lit ≢ from → head_at newer_heads lit ≡ head_at heads lit

-- where the member is the first
unlinked_first : (records : List Record) (heads : List Heads) (clause : ℕ) (from : Lit) (back : List ℕ)
    → AreLinked records heads → from.var < length heads
    → GoesThrough (link_at records from) (head_at heads from) (clause ∷ back)
    → IsUnlinked records records heads (with_list_head heads from (link_at records from clause)) from back
unlinked_first records heads clause from back linked within way =
    let after : Option ℕ = link_at records from clause in
    record {
      len = refl;
      vars = length-with_list_head heads from after;
      each = linked.each;
      pairs = λ x. refl;
      clauses = λ x. refl;
      way = subst (λ (o : Option ℕ). GoesThrough (link_at records from) o back) (sym (head-with_list_head heads from after within)) way.1;
      links = λ lit n x. refl;
      other_heads = λ lit n. head-with_list_head_other heads from after lit within n;
    }

-- where another stands before it
unlinked_behind : (records : List Record) (heads : List Heads) (before clause : ℕ) (from : Lit) (init back : List ℕ)
    → AreLinked records heads
    → IsWatcher records from before
    → GoesThrough (link_at records from) (head_at heads from) (init ++ before ∷ clause ∷ back)
    → IsUnlinked records (set records before (with_link (record_at records before) from (link_at records from clause)))
    heads heads from (init ++ before ∷ back)
unlinked_behind records heads before clause from init back linked watcher way =
    let after : Option ℕ = link_at records from clause in
    let old : Record = record_at records before in
    let new : Record = with_link old from after in
    let newer : List Record = set records before new in
    let here : get_or newer before no_record ≡ new = get_or-set_same records before new no_record watcher.within in
    record {
      len = length-set records before new;
      vars = refl;
      each = All-set (IsRecord (length heads)) records before new
          (IsRecord-with_link (length heads) old from after (linked.each before no_record watcher.within)) linked.each;
      pairs = λ x. at_set (λ (r : Record). pair_of r ≡ pair_of (record_at records x)) records before new x watcher.within
          (λ e. pair-with_link old from after ∙ ap (λ (v : ℕ). pair_of (record_at records v)) (sym e)) (λ n. refl);
      clauses = λ x. at_set (λ (r : Record). r.clause ≡ (record_at records x).clause) records before new x watcher.within
          (λ e. clause-with_link old from after ∙ ap (λ (v : ℕ). (record_at records v).clause) (sym e)) (λ n. refl);
      way = way_past (link_at records from) (link_at newer from) (head_at heads from) init before clause back way
          (ap (λ (r : Record). link_of r from) here ∙ link-with_link old from after watcher.watched)
          (λ y unlike other. ap (λ (r : Record). link_of r from) (get_or-set_other records before y new no_record unlike));
      links = λ lit unlike x. at_set (λ (r : Record). link_of r lit ≡ link_at records lit x) records before new x watcher.within
          (λ e. link-with_link_other old from after lit watcher.watched unlike ∙ ap (λ (v : ℕ). link_at records lit v) (sym e)) (λ n. refl);
      other_heads = λ lit n. refl;
    }

-- either of them
pub IsUnlinked-from_cut : (records : List Record) (heads : List Heads) (before : Option ℕ) (clause : ℕ) (from : Lit)
    (front back : List ℕ) → AreLinked records heads
    → IsWatcher records from clause → linked_list records heads from ≡ front ++ clause ∷ back
    → before ≡ last_member front
    → IsUnlinked records (unlinked_records records before from (link_at records from clause)) heads
    (unlinked_heads heads before from (link_at records from clause)) from (front ++ back)
IsUnlinked-from_cut records heads None clause from front back linked watcher cut is =
    let within : from.var < length heads = known_of (length heads) records from clause linked.each watcher in
    let none : front ≡ [] = no_last front (sym is) in
    let way : GoesThrough (link_at records from) (head_at heads from) (clause ∷ back) =
    subst (λ (l : List ℕ). GoesThrough (link_at records from) (head_at heads from) l) (cut ∙ ap (λ (l : List ℕ). l ++ clause
    ∷ back) none) (linked.lists from within).linked in
    subst (λ (l : List ℕ). IsUnlinked records records heads (with_list_head heads from (link_at records from clause)) from (l ++ back)) (sym none)
    (unlinked_first records heads clause from back linked within way)
IsUnlinked-from_cut records heads (Some before) clause from front back linked watcher cut is =
    let within : from.var < length heads = known_of (length heads) records from clause linked.each watcher in
    let ends : (init : List ℕ) × (front ≡ init ++ before ∷ []) = ends_with front before (sym is) in
    let init : List ℕ = ends.0 in
    let whole : linked_list records heads from ≡ init ++ before ∷ clause ∷ back =
    cut ∙ ap (λ (l : List ℕ). l ++ clause ∷ back) ends.1 ∙ append_assoc init (before ∷ []) (clause ∷ back) in
    let rest : front ++ back ≡ init ++ before ∷ back = ap (λ (l : List ℕ). l ++ back) ends.1 ∙ append_assoc init (before ∷ []) back in
    let way : GoesThrough (link_at records from) (head_at heads from) (init ++ before ∷ clause ∷ back) =
    subst (λ (l : List ℕ). GoesThrough (link_at records from) (head_at heads from) l) whole (linked.lists from within).linked in
    let member : IsWatcher records from before =
    ((linked.lists from within).members before).0 (subst (λ (l : List ℕ). Contains l before) (sym whole) (has_middle init before (clause ∷ back))) in
    subst (λ (l : List ℕ). IsUnlinked records (set records before
    (with_link (record_at records before) from (link_at records from clause))) heads heads from l)
    (sym rest)
    (unlinked_behind records heads before clause from init back linked member way)
