-- Steps of the walk, one after the other: what is said where the first one ends early, and where it goes on.
use Rattle.std.proofs.Common.{ℕ, ◌≤◌, Result, Ok, Err, length, subst, arith}
use Rattle.std.specs.List.{position_or_len}
use Rattle.indexmap.specs.IndexSet.{insert_key}
use Rattle.typed_ltl.specs.Equality.{proposition_eq}
use Rattle.core_ltl.specs.declared.node.NodeId.{NodeId}
use Rattle.core_ltl.specs.declared.node.Node.{Node}
use Rattle.core_ltl.specs.declared.node.Node.TheVariants as node
use Rattle.core_ltl.specs.declared.walk.Unary.{Unary}
use Rattle.core_ltl.specs.declared.walk.Unary.TheVariants as one
use Rattle.core_ltl.specs.declared.walk.Temporal.{Temporal}
use Rattle.core_ltl.specs.declared.walk.Temporal.TheVariants as temporal
use Rattle.core_ltl.specs.declared.walk.Binary.{Binary}
use Rattle.core_ltl.specs.declared.walk.Binary.TheVariants as two
use Rattle.core_ltl.specs.CoreFormulas.{Core}
use Rattle.core_ltl.specs.CoreFormulas as core
use Rattle.core_ltl.specs.declared.stop.ClosureStop.{ClosureStop}
use Rattle.core_ltl.specs.declared.table.Table.{Table}
use Rattle.core_ltl.specs.Nodes.{Members, node_eq}
use Rattle.core_ltl.specs.NodeHash.{node_sound, node_refl}
use Rattle.core_ltl.specs.Order.{after_node, after_until, after_formula}
use Rattle.core_ltl.specs.Steps.{chain, after_not, after_both, after_not_and, after_implication, after_not_until}
use Rattle.core_ltl.specs.Steps.{after_unary, after_temporal, after_left, after_right}
use Rattle.core_ltl.specs.Tables.{table_listing, table_members, Adds}
use Rattle.core_ltl.proofs.Added.{key_grows}
use Rattle.core_ltl.proofs.Fronts.{numbers_trans}

pub stopped : (limit : ℕ) (old new : Table) (a b : Members × NodeId) (e : ClosureStop) → Adds limit old new a (Err e)
    → length a.0.nodes ≤ length b.0.nodes → Adds limit old new b (Err e)
stopped limit old new a b e h le = record {
  ok = tt;
  within = tt;
  too_large = λ is. let over = h.too_large is in omega arith;
  kept = h.kept;
}

pub went_on : (limit : ℕ) (old mid new : Table) (a : Members × NodeId) (k : NodeId)
    (step : Members → NodeId → Members × NodeId) (r : Result NodeId ClosureStop) → Adds limit old mid a (Ok k)
    → Adds limit mid new (step (table_members mid) k) r → Adds limit old new (chain a step) r
went_on limit old mid new a k step r h i =
    let P : Members × NodeId → Type 0 = λ c. Adds limit old new (chain c step) r in
    let first : Adds limit old new (step (table_members mid) k) r = record {
      ok = i.ok;
      within = i.within;
      too_large = i.too_large;
      kept = numbers_trans (table_listing old) (table_listing mid) (table_listing new) h.kept i.kept;
    } in
    subst P h.ok first

-- no step takes a node away
abbrev pub Grows : (Members → NodeId → Members × NodeId) → Type 0
Grows step = (m : Members) (k : NodeId) → length m.nodes ≤ length (step m k).0.nodes

pub stopped_chain : (limit : ℕ) (old new : Table) (a : Members × NodeId) (step : Members → NodeId → Members × NodeId)
    (e : ClosureStop) → Adds limit old new a (Err e) → Grows step → Adds limit old new (chain a step) (Err e)
stopped_chain limit old new a step e h g = stopped limit old new a (chain a step) e h (g a.0 a.1)

pub node_grows : (m : Members) (x : Node) → length m.nodes ≤ length (after_node m x).0.nodes
node_grows m x = key_grows node_eq node_sound node_refl m.nodes x

pub until_grows : (m : Members) (k l : NodeId) → length m.nodes ≤ length (after_until m k l).0.nodes
until_grows m k l =
    let u = after_node m (node.Until k l) in
    let first = node_grows m (node.Until k l) in
    let next = node_grows u.0 (node.Next u.1) in
    omega arith

pub formula_grows : (m : Members) (f : Core) → length m.nodes ≤ length (after_formula m f).0.nodes
formula_grows m core.True = node_grows m node.True
formula_grows m (core.Atomic p) =
    node_grows (record m { atoms = insert_key proposition_eq m.atoms p }) (node.Atom (record { 0 = position_or_len (proposition_eq p) m.atoms }))
formula_grows m (core.Not f) =
    let a = after_formula m f in
    let first = formula_grows m f in
    let next = node_grows a.0 (node.Not a.1) in
    omega arith
formula_grows m (core.And f g) =
    let a = after_formula m f in
    let b = after_formula a.0 g in
    let first = formula_grows m f in
    let second = formula_grows a.0 g in
    let next = node_grows b.0 (node.And a.1 b.1) in
    omega arith
formula_grows m (core.Next f) =
    let a = after_formula m f in
    let first = formula_grows m f in
    let next = node_grows a.0 (node.Next a.1) in
    omega arith
formula_grows m (core.Until f g) =
    let a = after_formula m f in
    let b = after_formula a.0 g in
    let first = formula_grows m f in
    let second = formula_grows a.0 g in
    let next = until_grows b.0 a.1 b.1 in
    omega arith

pub not_grows : Grows after_not
not_grows m k = node_grows m (node.Not k)

pub not_and_grows : (m : Members) (k l : NodeId) → length m.nodes ≤ length (after_not_and m k l).0.nodes
not_and_grows m k l =
    let a = after_both m k l in
    let first = node_grows m (node.And k l) in
    let next = not_grows a.0 a.1 in
    omega arith

pub implication_grows : (m : Members) (k l : NodeId) → length m.nodes ≤ length (after_implication m k l).0.nodes
implication_grows m k l =
    let a = after_not m l in
    let first = not_grows m l in
    let next = not_and_grows a.0 k a.1 in
    omega arith

pub not_until_grows : (m : Members) (k l : NodeId) → length m.nodes ≤ length (after_not_until m k l).0.nodes
not_until_grows m k l =
    let a = after_until m k l in
    let first = until_grows m k l in
    let next = not_grows a.0 a.1 in
    omega arith

pub unary_grows : (u : Unary) → Grows (after_unary u)
unary_grows one.Not m k = node_grows m (node.Not k)
unary_grows one.Then m k = node_grows m (node.Next k)

pub temporal_grows : (u : Temporal) (m : Members) (t k : NodeId)
    → length m.nodes ≤ length (after_temporal u m t k).0.nodes
temporal_grows temporal.Future m t k = until_grows m t k
temporal_grows temporal.Always m t k =
    let a = after_not m k in
    let first = not_grows m k in
    let next = not_until_grows a.0 t a.1 in
    omega arith
temporal_grows temporal.Never m t k = not_until_grows m t k

pub left_grows : (b : Binary) → Grows (after_left b)
left_grows two.And m k = omega arith
left_grows two.Or m k = not_grows m k
left_grows two.Implies m k = omega arith
left_grows two.Iff m k = omega arith
left_grows two.Until m k = omega arith
left_grows two.Releases m k = not_grows m k

pub right_grows : (b : Binary) (m : Members) (k l : NodeId) → length m.nodes ≤ length (after_right b m k l).0.nodes
right_grows two.And m k l = node_grows m (node.And k l)
right_grows two.Or m k l = implication_grows m k l
right_grows two.Implies m k l = implication_grows m k l
right_grows two.Iff m k l =
    let a = after_implication m k l in
    let b = after_implication a.0 l k in
    let first = implication_grows m k l in
    let second = implication_grows a.0 l k in
    let next = node_grows b.0 (node.And a.1 b.1) in
    omega arith
right_grows two.Until m k l = until_grows m k l
right_grows two.Releases m k l =
    let a = after_not m l in
    let first = not_grows m l in
    let next = not_until_grows a.0 k a.1 in
    omega arith

pub iff_rest_grows : (k l : NodeId)
    → Grows (λ n i. chain (after_implication n l k) (λ o j. after_both o i j))
iff_rest_grows k l n i =
    let b = after_implication n l k in
    let first = implication_grows n l k in
    let next = node_grows b.0 (node.And i b.1) in
    omega arith
