-- The table of atoms, seen by what the atoms mean.
use Rattle.std.proofs.Common.{◌≡◌, ℕ, ◌+◌, Bool, true, false, ◌||◌, not, cond, List, [], ◌∷◌, ◌++◌, Result, length, take, suc, refl, sym, ap, subst, ◌∙◌}
use Rattle.std.specs.Prelude.{map}
use Rattle.std.specs.List.{list_any, position_or_len}
use Rattle.indexmap.specs.IndexSet.{insert_key}
use Rattle.typed_ltl.specs.declared.atom.Atom.{Atom}
use Rattle.typed_ltl.specs.Formulas.{Proposition, proposition_of}
use Rattle.typed_ltl.specs.Equality.{proposition_eq}
use Rattle.core_ltl.specs.declared.node.NodeId.{NodeId}
use Rattle.core_ltl.specs.declared.node.Node.TheVariants as node
use Rattle.core_ltl.specs.declared.stop.ClosureStop.{ClosureStop}
use Rattle.core_ltl.specs.declared.table.Table.{Table}
use Rattle.core_ltl.specs.Nodes.{KeepsNumbers}
use Rattle.core_ltl.specs.Order.{after_node, after_atom}
use Rattle.core_ltl.specs.Tables.{table_listing, table_members, Adds}
use Rattle.core_ltl.proofs.Added.{take_whole, insert_front}
use Rattle.core_ltl.proofs.Closed.{with_atom}
use Rattle.core_ltl.proofs.Fronts.{numbers_trans}

-- the test by which the table compares atoms
abbrev pub atom_eq : Atom → Atom → Bool
atom_eq a b = proposition_eq (proposition_of a) (proposition_of b)

any_map : (p : Proposition → Bool) (ks : List Atom)
    → list_any (λ a. p (proposition_of a)) ks ≡ list_any p (map proposition_of ks)
any_map p [] = refl
any_map p (k ∷ ks) = ap (λ b. p (proposition_of k) || b) (any_map p ks)

place_map : (p : Proposition → Bool) (ks : List Atom)
    → position_or_len (λ a. p (proposition_of a)) ks ≡ position_or_len p (map proposition_of ks)
place_map p [] = refl
place_map p (k ∷ ks) = ap (λ n. cond (not (p (proposition_of k))) (1 + n) 0) (place_map p ks)

push_map : (ks : List Atom) (k : Atom)
    → map proposition_of (ks ++ k ∷ []) ≡ map proposition_of ks ++ proposition_of k ∷ []
push_map [] k = refl
push_map (x ∷ ks) k = ap (λ l. proposition_of x ∷ l) (push_map ks k)

-- an atom goes last among the propositions where it is not there
pub key_map : (ks : List Atom) (k : Atom)
    → map proposition_of (insert_key atom_eq ks k) ≡ insert_key proposition_eq (map proposition_of ks) (proposition_of k)
key_map ks k = by (list_any (atom_eq k) ks) refl
  where
    same : list_any (atom_eq k) ks ≡ list_any (proposition_eq (proposition_of k)) (map proposition_of ks)
    same = any_map (proposition_eq (proposition_of k)) ks

    by : (b : Bool) → list_any (atom_eq k) ks ≡ b
        → map proposition_of (insert_key atom_eq ks k) ≡ insert_key proposition_eq (map proposition_of ks) (proposition_of k)
    by true e =
        ap (λ c. map proposition_of (cond c ks (ks ++ k ∷ []))) e
        ∙ sym (ap (λ c. cond c (map proposition_of ks) (map proposition_of ks ++ proposition_of k ∷ [])) (sym same ∙ e))
    by false e =
        ap (λ c. map proposition_of (cond c ks (ks ++ k ∷ []))) e
        ∙ (push_map ks k
        ∙ sym (ap (λ c. cond c (map proposition_of ks) (map proposition_of ks ++ proposition_of k ∷ [])) (sym same ∙ e)))

-- its place is that among the propositions
pub atom_place_map : (ks : List Atom) (k : Atom)
    → position_or_len (atom_eq k) ks ≡ position_or_len (proposition_eq (proposition_of k)) (map proposition_of ks)
atom_place_map ks k = place_map (proposition_eq (proposition_of k)) ks

pub length_map : (ks : List Atom) → length (map proposition_of ks) ≡ length ks
length_map [] = refl
length_map (k ∷ ks) = ap suc (length_map ks)

-- adding an atom to the tables and then its node is adding it to the members
pub as_atom : (limit : ℕ) (old mid new : Table) (a : Atom) (n : ℕ) (r : Result NodeId ClosureStop)
    → mid.nodes.keys ≡ old.nodes.keys → mid.atoms.keys ≡ insert_key atom_eq old.atoms.keys a
    → n ≡ position_or_len (atom_eq a) old.atoms.keys
    → Adds limit mid new (after_node (table_members mid) (node.Atom (record { 0 = n }))) r
    → Adds limit old new (after_atom (table_members old) (proposition_of a)) r
as_atom limit old mid new a n r nodes atoms place h =
    let m = table_members old in
    let p = proposition_of a in
    let keys : map proposition_of mid.atoms.keys ≡ insert_key proposition_eq m.atoms p =
    ap (λ l. map proposition_of l) atoms ∙ key_map old.atoms.keys a in
    let at : n ≡ position_or_len (proposition_eq p) m.atoms = place ∙ atom_place_map old.atoms.keys a in
    let is : table_members mid ≡ with_atom m p = λ j. record { nodes = nodes j; atoms = keys j } in
    let after : after_node (table_members mid) (node.Atom (record { 0 = n })) ≡ after_atom m p =
    λ j. after_node (is j) (node.Atom (record { 0 = at j })) in
    let g = subst (λ x. Adds limit mid new x r) after h in
    let kept : KeepsNumbers (table_listing old) (table_listing mid) = record {
      nodes = subst (λ l. take (length old.nodes.keys) l ≡ old.nodes.keys) (sym nodes) (take_whole old.nodes.keys);
      atoms = subst (λ l. take (length old.atoms.keys) l ≡ old.atoms.keys) (sym atoms) (insert_front atom_eq old.atoms.keys a);
    } in
    record {
      ok = g.ok;
      within = g.within;
      too_large = g.too_large;
      kept = numbers_trans (table_listing old) (table_listing mid) (table_listing new) kept g.kept;
    }
