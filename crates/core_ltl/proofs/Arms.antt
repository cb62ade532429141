-- What is said at each end of a walk over one form: where a part ends early, and where all goes on.
use Rattle.std.proofs.Common.{◌≡◌, ℕ, Result, Ok, Err, sym, subst, arith}
use Rattle.typed_ltl.specs.declared.formula.Formula.{Formula}
use Rattle.typed_ltl.specs.Formulas.{Ltl, meaning}
use Rattle.core_ltl.specs.declared.node.NodeId.{NodeId}
use Rattle.core_ltl.specs.declared.node.Node.TheVariants as node
use Rattle.core_ltl.specs.declared.stop.ClosureStop.{ClosureStop}
use Rattle.core_ltl.specs.declared.table.Table.{Table}
use Rattle.core_ltl.specs.declared.walk.Temporal.{Temporal}
use Rattle.core_ltl.specs.declared.walk.Binary.{Binary}
use Rattle.core_ltl.specs.CoreFormulas.{Core, core_form}
use Rattle.core_ltl.specs.Nodes.{Members, IsClosure}
use Rattle.core_ltl.specs.Order.{after_node, after_formula}
use Rattle.core_ltl.specs.Steps.{chain, after_temporal, temporal_core, after_right, left_core, binary_core}
use Rattle.core_ltl.specs.Tables.{table_members, Adds}
use Rattle.core_ltl.proofs.Chains.{Grows, stopped_chain, went_on, formula_grows, temporal_grows, right_grows}
use Rattle.core_ltl.proofs.Closed.{added}
use Rattle.core_ltl.proofs.Walks.{temporal_is, binary_is}

-- a formula is added as what it means
pub as_meant : (limit : ℕ) (old new : Table) (r : Result NodeId ClosureStop) (x : Formula) (l : Ltl) → meaning x ≡ l
    → Adds limit old new (after_formula (table_members old) (core_form l)) r
    → Adds limit old new (after_formula (table_members old) (core_form (meaning x))) r
as_meant limit old new r x l e h =
    subst (λ m. Adds limit old new (after_formula (table_members old) (core_form m)) r) (sym e) h

-- after a formula was added the members are a closure
pub closed_after : (limit : ℕ) (old new : Table) (f : Core) (k : NodeId) → IsClosure (table_members old)
    → Adds limit old new (after_formula (table_members old) f) (Ok k) → IsClosure (table_members new)
closed_after limit old new f k c h =
    subst (λ a. IsClosure a.0) (sym h.ok) (added (table_members old) c f).closed

-- what comes after the left part, and after the truth
abbrev binary_rest : Binary → Core → Members → NodeId → Members × NodeId
binary_rest b g n k = chain (after_formula n g) (λ o l. after_right b o k l)

binary_rest_grows : (b : Binary) (g : Core) → Grows (binary_rest b g)
binary_rest_grows b g n k =
    let a = after_formula n g in
    let first = formula_grows n g in
    let next = right_grows b a.0 k a.1 in
    omega arith

abbrev temporal_rest : Temporal → Core → Members → NodeId → Members × NodeId
temporal_rest u f n t = chain (after_formula n f) (λ o k. after_temporal u o t k)

temporal_rest_grows : (u : Temporal) (f : Core) → Grows (temporal_rest u f)
temporal_rest_grows u f n t =
    let a = after_formula n f in
    let first = formula_grows n f in
    let next = temporal_grows u a.0 t a.1 in
    omega arith

pub binary_stops_left : (limit : ℕ) (old new : Table) (b : Binary) (f g : Core) (e : ClosureStop)
    → IsClosure (table_members old)
    → Adds limit old new (after_formula (table_members old) (left_core b f)) (Err e)
    → Adds limit old new (after_formula (table_members old) (binary_core b f g)) (Err e)
binary_stops_left limit old new b f g e c h =
    let m = table_members old in
    subst (λ a. Adds limit old new a (Err e)) (binary_is b m c f g)
    (stopped_chain limit old new (after_formula m (left_core b f)) (binary_rest b g) e h (binary_rest_grows b g))

pub binary_stops_right : (limit : ℕ) (old mid new : Table) (b : Binary) (f g : Core) (k : NodeId) (e : ClosureStop)
    → IsClosure (table_members old)
    → Adds limit old mid (after_formula (table_members old) (left_core b f)) (Ok k)
    → Adds limit mid new (after_formula (table_members mid) g) (Err e)
    → Adds limit old new (after_formula (table_members old) (binary_core b f g)) (Err e)
binary_stops_right limit old mid new b f g k e c h i =
    let m = table_members old in
    let n = table_members mid in
    let last = stopped_chain limit mid new (after_formula n g) (λ o l. after_right b o k l) e i (λ o l. right_grows b o k l) in
    subst (λ a. Adds limit old new a (Err e)) (binary_is b m c f g)
    (went_on limit old mid new (after_formula m (left_core b f)) k (binary_rest b g) (Err e) h last)

pub binary_ends : (limit : ℕ) (old mid late new : Table) (b : Binary) (f g : Core) (k l : NodeId) (r : Result NodeId ClosureStop)
    → IsClosure (table_members old)
    → Adds limit old mid (after_formula (table_members old) (left_core b f)) (Ok k)
    → Adds limit mid late (after_formula (table_members mid) g) (Ok l)
    → Adds limit late new (after_right b (table_members late) k l) r
    → Adds limit old new (after_formula (table_members old) (binary_core b f g)) r
binary_ends limit old mid late new b f g k l r c h i j =
    let m = table_members old in
    let n = table_members mid in
    let last = went_on limit mid late new (after_formula n g) l (λ o y. after_right b o k y) r i j in
    subst (λ a. Adds limit old new a r) (binary_is b m c f g)
    (went_on limit old mid new (after_formula m (left_core b f)) k (binary_rest b g) r h last)

pub temporal_stops_at_truth : (limit : ℕ) (old new : Table) (u : Temporal) (f : Core) (e : ClosureStop)
    → Adds limit old new (after_node (table_members old) node.True) (Err e)
    → Adds limit old new (after_formula (table_members old) (temporal_core u f)) (Err e)
temporal_stops_at_truth limit old new u f e h =
    let m = table_members old in
    subst (λ a. Adds limit old new a (Err e)) (temporal_is u m f)
    (stopped_chain limit old new (after_node m node.True) (temporal_rest u f) e h (temporal_rest_grows u f))

pub temporal_stops_at_part : (limit : ℕ) (old mid new : Table) (u : Temporal) (f : Core) (t : NodeId) (e : ClosureStop)
    → Adds limit old mid (after_node (table_members old) node.True) (Ok t)
    → Adds limit mid new (after_formula (table_members mid) f) (Err e)
    → Adds limit old new (after_formula (table_members old) (temporal_core u f)) (Err e)
temporal_stops_at_part limit old mid new u f t e h i =
    let m = table_members old in
    let n = table_members mid in
    let last = stopped_chain limit mid new (after_formula n f) (λ o k. after_temporal u o t k) e i (λ o k. temporal_grows u o t k) in
    subst (λ a. Adds limit old new a (Err e)) (temporal_is u m f)
    (went_on limit old mid new (after_node m node.True) t (temporal_rest u f) (Err e) h last)

pub temporal_ends : (limit : ℕ) (old mid late new : Table) (u : Temporal) (f : Core) (t k : NodeId) (r : Result NodeId ClosureStop)
    → Adds limit old mid (after_node (table_members old) node.True) (Ok t)
    → Adds limit mid late (after_formula (table_members mid) f) (Ok k)
    → Adds limit late new (after_temporal u (table_members late) t k) r
    → Adds limit old new (after_formula (table_members old) (temporal_core u f)) r
temporal_ends limit old mid late new u f t k r h i j =
    let m = table_members old in
    let n = table_members mid in
    let last = went_on limit mid late new (after_formula n f) k (λ o y. after_temporal u o t y) r i j in
    subst (λ a. Adds limit old new a r) (temporal_is u m f)
    (went_on limit old mid new (after_node m node.True) t (temporal_rest u f) r h last)
