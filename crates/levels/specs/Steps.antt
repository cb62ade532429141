-- Serves proofs only: what the functions say of which levels are made.
use Rattle.std.specs.Prelude.{◌≡◌, ℕ, ◌≤◌, ◌<◌, Bool, true, false, not, cond, List, [], ◌∷◌, ◌++◌, map, length}
use Rattle.std.specs.Prelude.{nat_eq, nat_lt, Option, Some, None}
use Rattle.std.specs.List.{flat_map, position_or_len, sum_by}
use Rattle.oss_base.specs.declared.ids.ComponentId.{ComponentId}
use Rattle.oss_base.specs.declared.ids.SubId.{SubId}
use Rattle.oss_base.specs.declared.fault.FaultKind.{FaultKind}
use Rattle.oss_base.specs.declared.fault.FaultKind.TheVariants as fault
use Rattle.oss_base.specs.Limits.{most_closure_members, most_value_bits, most_guards}
use Rattle.port_types.specs.declared.types.PortType.{PortType}
use Rattle.typed_ltl.specs.Formulas.{Ltl, meaning}
use Rattle.typed_ltl.specs.Formulas as form
use Rattle.spec_model.specs.declared.spec.Spec.{Spec}
use Rattle.spec_model.specs.declared.port.FreePort.{FreePort}
use Rattle.spec_model.specs.Architecture.{free_targets}
use Rattle.connections.specs.declared.substituting.LevelFormulas.{LevelFormulas}
use Rattle.connections.specs.declared.substituting.Part.{Part}
use Rattle.connections.specs.Drivers.{driver_rows}
use Rattle.connections.specs.LevelFormulas.{formulas_of_part}
use Rattle.connections.specs.Substitution.{Reading}
use Rattle.connections.specs.Substitution as by
use Rattle.core_ltl.specs.declared.question.SignedNode.{SignedNode}
use Rattle.core_ltl.specs.Nodes.{Listing, Members, members, KeepsNumbers}
use Rattle.state_coding.specs.Codes.{type_bits}
use Rattle.levels.specs.declared.renumbering.OnePart.{OnePart}
use Rattle.levels.specs.declared.renumbering.OnePart.TheVariants as one
use Rattle.levels.specs.declared.renumbering.TwoParts.{TwoParts}
use Rattle.levels.specs.declared.renumbering.TwoParts.TheVariants as two
use Rattle.levels.specs.declared.building.FormulaNodes.{FormulaNodes}
use Rattle.levels.specs.declared.building.LevelNodes.{LevelNodes}
use Rattle.levels.specs.declared.level.Level.{Level}
use Rattle.levels.specs.declared.level.PartNodes.{PartNodes}
use Rattle.levels.specs.declared.scope.Scope.{Scope}
use Rattle.first_lasso.specs.FormulaPorts.{formula_ports}
use Rattle.levels.specs.LevelFaults.{guard_count}
use Rattle.levels.specs.Levels.{LevelMeaning, with_formulas, over_places, closure_formulas, no_members, IsNodeOf}
use Rattle.spec_model.specs.FreeTypes.{free_types}
use Rattle.levels.specs.Levels.{AreAllPartNodes, part_formulas}

-- what the formulas of a level mean
abbrev pub formulas_meaning : LevelFormulas → LevelMeaning
formulas_meaning formulas = record {
  asks = meaning formulas.assume;
  gives = meaning formulas.guarantee;
  parts = map formulas_of_part formulas.parts;
}

abbrev pub part_reads : Part → List ℕ
part_reads part = formula_ports (meaning part.assume) ++ formula_ports (meaning part.guarantee)

abbrev pub place_reading : List ℕ → ℕ → Reading
place_reading places k = by.Free (position_or_len (nat_eq k) places)

abbrev pub unary_of : OnePart → Ltl → Ltl
unary_of one.Not f = form.Not f
unary_of one.Then f = form.Then f
unary_of one.Future f = form.Future f
unary_of one.Always f = form.Always f
unary_of one.Never f = form.Never f

abbrev pub binary_of : TwoParts → Ltl → Ltl → Ltl
binary_of two.And f g = form.And f g
binary_of two.Or f g = form.Or f g
binary_of two.Implies f g = form.Implies f g
binary_of two.Iff f g = form.Iff f g
binary_of two.Until f g = form.Until f g
binary_of two.Releases f g = form.Releases f g

abbrev pub shown_type : FreePort → PortType
shown_type free = free.kind

-- the tables of a component
pub record IsScope (spec : Spec) (s : Scope) : Type 0 where
  pub rows : s.drivers.rows ≡ driver_rows spec s.component
  pub free : s.drivers.free ≡ length (free_targets spec s.component)
  pub types : map shown_type s.free ≡ free_types spec s.component

-- these formulas were added to a closure, which is within its limit
pub record AddsFormulas (old new : Listing) (formulas : List Ltl) : Type 0 where
  pub after : members new ≡ with_formulas (members old) formulas
  pub within : length new.nodes ≤ most_closure_members
  pub kept : KeepsNumbers old new

-- with these formulas it would have too many members
abbrev pub ExceedsWith : Listing → List Ltl → Type 0
ExceedsWith old formulas = most_closure_members < length (with_formulas (members old) formulas).nodes

abbrev pub over_all : List ℕ → List Ltl → List Ltl
over_all places formulas = map (over_places places) formulas

-- the formulas of a closure over the ports that occur
abbrev pub closure_over : List ℕ → LevelMeaning → List Ltl
closure_over places level = over_all places (closure_formulas level)

-- the nodes of what a level says, over the ports at these places
pub record AreFormulaNodes (m : Members) (at : List ℕ) (level : LevelMeaning) (made : FormulaNodes) : Type 0 where
  pub assume : IsNodeOf m at made.assume level.asks
  pub guarantee : IsNodeOf m at made.guarantee level.gives
  pub parts : AreAllPartNodes m at made.parts.items level.parts

-- the closure and the nodes of what a level says, over the ports at these places
pub record AreNodes (at : List ℕ) (level : LevelMeaning) (made : LevelNodes) : Type 0 where
  pub closure : members made.closure ≡ with_formulas no_members (closure_over at level)
  pub within : length made.closure.nodes ≤ most_closure_members
  pub assume : IsNodeOf (members made.closure) at made.assume level.asks
  pub guarantee : IsNodeOf (members made.closure) at made.guarantee level.gives
  pub parts : AreAllPartNodes (members made.closure) at made.parts.items level.parts

-- a level of a component that says this, over the ports at these places
pub record IsBuilt (c : ComponentId) (at : List ℕ) (types : List PortType) (level : LevelMeaning)
    (made : Level) : Type 0 where
  pub component : made.component ≡ c
  pub places : made.places ≡ at
  pub ports : made.ports ≡ types
  pub closure : members made.closure ≡ with_formulas no_members (closure_over at level)
  pub within : length made.closure.nodes ≤ most_closure_members
  pub assume : IsNodeOf (members made.closure) at made.assume level.asks
  pub guarantee : IsNodeOf (members made.closure) at made.guarantee level.gives
  pub parts : AreAllPartNodes (members made.closure) at made.parts.items level.parts

-- what a level has too many of, if it has
abbrev pub excess_of : ℕ → Level → Option FaultKind
excess_of width level = cond (nat_lt most_value_bits (sum_by type_bits level.ports)) (Some fault.F29)
    (cond (nat_lt most_guards (guard_count (length level.closure.nodes) width)) (Some fault.F30) None)

abbrev pub normal_form_node : PartNodes → SignedNode
normal_form_node part = record { node = part.normal_form; positive = true }

abbrev pub has_other_sub : SubId → PartNodes → Bool
has_other_sub sub part = not (nat_eq part.sub.0 sub.0)

abbrev pub broken_nodes : Level → List SignedNode
broken_nodes level = record { node = level.assume; positive = true }
    ∷ record { node = level.guarantee; positive = false } ∷ []

-- the formulas that are added for listed contracts
abbrev pub parts_formulas : List ℕ → List (SubId × Ltl × Ltl) → List Ltl
parts_formulas places parts = over_all places (flat_map part_formulas parts)
