-- Levels: one contract that is refined by contracts of subcomponents (Cimatti and Tonetta, Contracts-refinement proof
-- system for component-based embedded systems, 2015), with the ports that its formulas read and their closure (Clarke,
-- Grumberg and Hamaguchi, Another Look at LTL Model Checking, 1994). Formulas stand over the free ports of the refined
-- component, by their places in the free order.
use Rattle.std.specs.Prelude.{◌≡◌, ℕ, List, [], ◌∷◌, map, filter, length, None, nat_eq}
use Rattle.std.specs.List.{list_any, flat_map, range_with_len, position_or_len}
use Rattle.oss_base.specs.declared.ids.SubId.{SubId}
use Rattle.port_types.specs.declared.types.PortType.{PortType}
use Rattle.typed_ltl.specs.Formulas.{Ltl}
use Rattle.typed_ltl.specs.Formulas as form
use Rattle.spec_model.specs.declared.spec.Spec.{Spec}
use Rattle.spec_model.specs.declared.item.Item.{Item}
use Rattle.spec_model.specs.Architecture.{free_targets}
use Rattle.spec_model.specs.FreeTypes.{free_types}
use Rattle.connections.specs.LevelFormulas.{asked_over_free, given_over_free, part_over_free}
use Rattle.connections.specs.Substitution.{substituted}
use Rattle.connections.specs.Substitution as by
use Rattle.core_ltl.specs.declared.node.NodeId.{NodeId}
use Rattle.core_ltl.specs.CoreFormulas.{core_form}
use Rattle.core_ltl.specs.Nodes.{Members, members, StandsFor}
use Rattle.core_ltl.specs.Order.{after_formula}
use Rattle.levels.specs.declared.level.Level.{Level}
use Rattle.levels.specs.declared.level.PartNodes.{PartNodes}
use Rattle.first_lasso.specs.FormulaPorts.{formula_ports}
use Rattle.first_lasso.specs.UsedPorts.{types_at}

-- What a level says: what the refined contract asks and gives, and, in the order of the list, the subcomponent of each
-- listed contract with what that contract asks and gives.
pub record LevelMeaning : Type 0 where
  pub asks : Ltl
  pub gives : Ltl
  pub parts : List (SubId × Ltl × Ltl)

-- the level of an item
abbrev pub level_meaning : Spec → Item → LevelMeaning
level_meaning spec item = record {
  asks = asked_over_free spec item.component None item.contract;
  gives = given_over_free spec item.component None item.contract;
  parts = map (part_over_free spec item.component) item.parts;
}

-- what an implementation of a listed contract meets: where its assumption holds, its guarantee does
abbrev pub part_normal_form : SubId × Ltl × Ltl → Ltl
part_normal_form part = form.Implies part.1 part.2

-- Ports

-- every occurrence of a port in the formulas of a level
abbrev pub level_reads : LevelMeaning → List ℕ
level_reads level = flat_map formula_ports
    (level.asks ∷ level.gives ∷ flat_map (λ (part : SubId × Ltl × Ltl). part.1 ∷ part.2 ∷ []) level.parts)

-- those of n free ports that occur, in the free order
abbrev pub occurring : ℕ → LevelMeaning → List ℕ
occurring n level = filter (λ k. list_any (nat_eq k) (level_reads level)) (range_with_len 0 n)

abbrev pub level_places : Spec → Item → List ℕ
level_places spec item = occurring (length (free_targets spec item.component)) (level_meaning spec item)

-- the types of the ports that occur
abbrev pub level_types : Spec → Item → List PortType
level_types spec item = types_at (free_types spec item.component) (level_places spec item)

-- the same formula over these ports alone, each named by its place among them
abbrev pub over_places : List ℕ → Ltl → Ltl
over_places places f = substituted (λ k. by.Free (position_or_len (nat_eq k) places)) f

-- Closures

-- the members of a closure after the core forms of these formulas were added, one after the other
abbrev pub with_formula : Members → Ltl → Members
with_formula m f = (after_formula m (core_form f)).0

unfoldable pub with_formulas : Members → List Ltl → Members
with_formulas m [] = m
with_formulas m (f ∷ formulas) = with_formulas (with_formula m f) formulas

-- what is added for a listed contract: its assumption, its guarantee, its normal form
abbrev pub part_formulas : SubId × Ltl × Ltl → List Ltl
part_formulas part = part.1 ∷ part.2 ∷ part_normal_form part ∷ []

-- the formulas of a closure in order: those of the refined contract, then those of each listed one
abbrev pub closure_formulas : LevelMeaning → List Ltl
closure_formulas level = level.asks ∷ level.gives ∷ flat_map part_formulas level.parts

abbrev pub no_members : Members
no_members = record { nodes = []; atoms = [] }

-- the closure of a level, over the ports that occur
abbrev pub level_members : Spec → Item → Members
level_members spec item =
    with_formulas no_members (map (over_places (level_places spec item)) (closure_formulas (level_meaning spec item)))

-- Levels in code

-- the node stands for the formula, over these ports
abbrev pub IsNodeOf : Members → List ℕ → NodeId → Ltl → Type 0
IsNodeOf m places node f = StandsFor m node.0 (core_form (over_places places f))

pub record ArePartNodes (m : Members) (places : List ℕ) (nodes : PartNodes) (part : SubId × Ltl × Ltl) : Type 0 where
  pub sub : nodes.sub ≡ part.0
  pub assume : IsNodeOf m places nodes.assume part.1
  pub guarantee : IsNodeOf m places nodes.guarantee part.2
  pub normal_form : IsNodeOf m places nodes.normal_form (part_normal_form part)

-- one after the other, the nodes of each listed contract
abbrev pub AreAllPartNodes : Members → List ℕ → List PartNodes → List (SubId × Ltl × Ltl) → Type 0
AreAllPartNodes m places [] [] = Unit {0}
AreAllPartNodes m places (nodes ∷ rest) (part ∷ parts) =
    ArePartNodes m places nodes part × AreAllPartNodes m places rest parts
AreAllPartNodes m places _ _ = ⊥

-- this is the level of an item of the specification
pub record IsLevel (spec : Spec) (item : Item) (level : Level) : Type 0 where
  pub component : level.component ≡ item.component
  pub places : level.places ≡ level_places spec item
  pub ports : level.ports ≡ level_types spec item
  pub closure : members level.closure ≡ level_members spec item
  pub assume : IsNodeOf (members level.closure) level.places level.assume (level_meaning spec item).asks
  pub guarantee : IsNodeOf (members level.closure) level.places level.guarantee (level_meaning spec item).gives
  pub parts : AreAllPartNodes (members level.closure) level.places level.parts.items (level_meaning spec item).parts

-- these are the levels of the items, in their order
abbrev pub AreLevels : Spec → List Item → List Level → Type 0
AreLevels spec [] [] = Unit {0}
AreLevels spec (item ∷ items) (level ∷ levels) = IsLevel spec item level × AreLevels spec items levels
AreLevels spec _ _ = ⊥
