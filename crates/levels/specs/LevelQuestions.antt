-- The questions of a level (Cimatti and Tonetta, Contracts-refinement proof system for component-based embedded
-- systems, 2015: the proof obligations of a refinement): formulas with signs, claimed to have no common trace at
-- position 0.
use Rattle.std.specs.Prelude.{◌≡◌, ℕ, ◌+◌, Bool, true, false, not, cond, List, [], ◌∷◌, ◌++◌, map, filter, nat_eq}
use Rattle.oss_base.specs.declared.ids.SubId.{SubId}
use Rattle.port_types.specs.declared.sets.Set24.{Set24}
use Rattle.port_types.specs.Sets.{has_place}
use Rattle.typed_ltl.specs.Formulas.{Ltl}
use Rattle.core_ltl.specs.declared.question.SignedNode.{SignedNode}
use Rattle.core_ltl.specs.Nodes.{Members, members}
use Rattle.levels.specs.declared.level.Level.{Level}
use Rattle.levels.specs.Levels.{LevelMeaning, part_normal_form, IsNodeOf}

abbrev pub with_normal_forms : List (SubId × Ltl × Ltl) → List (Ltl × Bool)
with_normal_forms parts = map (λ (part : SubId × Ltl × Ltl). (part_normal_form part, true)) parts

-- the assumption holds and the guarantee does not
abbrev pub broken_contract : LevelMeaning → List (Ltl × Bool)
broken_contract level = (level.asks, true) ∷ (level.gives, false) ∷ []

-- The normal forms of the listed contracts and the assumption entail the guarantee.
abbrev pub entailment : LevelMeaning → List (Ltl × Bool)
entailment level = with_normal_forms level.parts ++ broken_contract level

abbrev pub is_of_other_sub : SubId → SubId × Ltl × Ltl → Bool
is_of_other_sub sub part = not (nat_eq part.0.0 sub.0)

-- The assumption of a listed contract is met where the refined contract's is, by the normal forms of the listed
-- contracts of other subcomponents. No contract of its own subcomponent is a premise.
abbrev pub met_assumption : LevelMeaning → SubId × Ltl × Ltl → List (Ltl × Bool)
met_assumption level part = (level.asks, true)
    ∷ (with_normal_forms (filter (is_of_other_sub part.0) level.parts) ++ (part.1, false) ∷ [])

-- those whose place is none of the set, where the first has place k
abbrev pub outside_set : {X : Type 0} → Set24 → ℕ → List X → List X
outside_set set k [] = []
outside_set set k (x ∷ xs) = cond (has_place set k) (outside_set set (k + 1) xs) (x ∷ outside_set set (k + 1) xs)

-- The entailment without the listed contracts whose places are in the set.
abbrev pub entailment_without : Set24 → LevelMeaning → List (Ltl × Bool)
entailment_without set level = with_normal_forms (outside_set set 0 level.parts) ++ broken_contract level

-- a node of the level with a sign stands for this formula with this sign
pub record IsSignedNodeOf (m : Members) (places : List ℕ) (s : SignedNode) (e : Ltl × Bool) : Type 0 where
  pub node : IsNodeOf m places s.node e.0
  pub sign : s.positive ≡ e.1

abbrev pub AreSignedNodes : Members → List ℕ → List SignedNode → List (Ltl × Bool) → Type 0
AreSignedNodes m places [] [] = Unit {0}
AreSignedNodes m places (s ∷ question) (e ∷ formulas) =
    IsSignedNodeOf m places s e × AreSignedNodes m places question formulas
AreSignedNodes m places _ _ = ⊥

-- the nodes of a question stand for these formulas, one after the other
abbrev pub Asks : Level → List SignedNode → List (Ltl × Bool) → Type 0
Asks level question formulas = AreSignedNodes (members level.closure) level.places question formulas
