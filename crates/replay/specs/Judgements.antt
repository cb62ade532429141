-- What a lasso says of contracts: of each contract of its component, and of each contract of the component of each
-- subcomponent, whether its assumption and its guarantee hold at the first position. A connected port has the value of
-- its connection's expression at each position (Cimatti and Tonetta, Contracts-refinement proof system for
-- component-based embedded systems, 2015).
use Rattle.std.specs.Prelude.{◌≡◌, ◌↔◌, IsTrue, ℕ, List, ◌++◌, length, map, Option, Some, None, slice_get, All}
use Rattle.std.specs.List.{flat_map, range_with_len, AllZip}
use Rattle.port_types.specs.declared.types.Value.{Value}
use Rattle.oss_base.specs.declared.ids.ComponentId.{ComponentId}
use Rattle.oss_base.specs.declared.ids.ContractId.{ContractId}
use Rattle.oss_base.specs.declared.ids.SubId.{SubId}
use Rattle.typed_ltl.specs.Formulas.{meaning, number_of}
use Rattle.typed_ltl.specs.Traces.{Assignment, Trace, assignment, word}
use Rattle.typed_ltl.specs.Truth.{Holds, IsModerateOn, IsModerateNumber}
use Rattle.spec_model.specs.declared.spec.Spec.{Spec}
use Rattle.spec_model.specs.declared.contract.Contract.{Contract}
use Rattle.spec_model.specs.declared.wire.Wire.{Wire}
use Rattle.spec_model.specs.declared.wire.Source.{Source}
use Rattle.spec_model.specs.declared.wire.Source.TheVariants as source
use Rattle.spec_model.specs.Architecture.{ports_at, subs_of, wires_of}
use Rattle.connections.specs.LevelFormulas.{contracts_at}
use Rattle.connections.specs.Substitution.{port_value}
use Rattle.replay.specs.declared.named.NamedLasso.{NamedLasso}
use Rattle.replay.specs.declared.judgement.Judgement.{Judgement}

-- the values of the ports of the component itself, or of one of its subcomponents, where the free ports have these
abbrev pub seen_values : Spec → ComponentId → Option SubId → List Value → List Value
seen_values spec c s free = map (port_value spec c (assignment free) s) (range_with_len 0 (length (ports_at spec c s)))

-- the trace of these ports that the lasso and the connections determine
abbrev pub seen_trace : Spec → NamedLasso → Option SubId → Trace
seen_trace spec named s = word (map (seen_values spec named.component s) named.lasso.states) named.lasso.loop_at

-- the places of the first contracts of the component itself, or of the component of one of its subcomponents
abbrev pub first_contracts : Option SubId → ℕ → List (Option SubId × ContractId)
first_contracts s n = map (λ k. (s, record { 0 = k })) (range_with_len 0 n)

abbrev pub all_contracts_at : Spec → ComponentId → Option SubId → List (Option SubId × ContractId)
all_contracts_at spec c s = first_contracts s (length (contracts_at spec c s))

-- the contracts that are judged: the component's own, then for each subcomponent those of its component, in text order
abbrev pub judged_contracts : Spec → ComponentId → List (Option SubId × ContractId)
judged_contracts spec c = all_contracts_at spec c None
    ++ flat_map (λ k. all_contracts_at spec c (Some (record { 0 = k }))) (range_with_len 0 (length (subs_of spec c)))

-- a judgement of this contract by this trace
pub record IsJudgementBy (w : Trace) (k : Contract) (j : Judgement) : Type 0 where
  pub assume : IsTrue j.assume ↔ Holds w (meaning k.assume) 0
  pub guarantee : IsTrue j.guarantee ↔ Holds w (meaning k.guarantee) 0

-- the judgement of the contract at this place
pub record IsJudgement (spec : Spec) (named : NamedLasso) (at : Option SubId × ContractId) (j : Judgement) : Type 0
  where
    pub component : j.component ≡ named.component
    pub sub : j.sub ≡ at.0
    pub contract : j.contract ≡ at.1
    pub truths : (k : Contract) → slice_get (contracts_at spec named.component at.0) at.1.0 ≡ Some k
        → IsJudgementBy (seen_trace spec named at.0) k j

abbrev pub AreJudgements : Spec → NamedLasso → List Judgement → Type 0
AreJudgements spec named judgements = AllZip (IsJudgement spec named) (judged_contracts spec named.component) judgements

-- each term of a connection's expression, and each part of one, has a moderate value
abbrev pub IsModerateSource : Assignment → Source → Type 0
IsModerateSource free (source.Truth f) = IsModerateOn (λ _. free) (meaning f)
IsModerateSource free (source.Number t) = IsModerateNumber free free (number_of t)
IsModerateSource free (source.Choice p) = Unit {0}

abbrev pub AreModerateWires : List Wire → List Value → Type 0
AreModerateWires wires free = All (λ (w : Wire). IsModerateSource (assignment free) w.source) wires

abbrev pub IsModerateContract : Trace → Contract → Type 0
IsModerateContract w k = IsModerateOn w (meaning k.assume) × IsModerateOn w (meaning k.guarantee)

-- All terms that are valued have moderate values. (So it is in each specification that a file describes: the numerals
-- of a file are small and not many, and a connection's value is in the type of its target.)
pub record HasModerateTerms (spec : Spec) (named : NamedLasso) : Type 0 where
  pub wires : All (AreModerateWires (wires_of spec named.component)) named.lasso.states
  pub contracts : (s : Option SubId) → All (IsModerateContract (seen_trace spec named s))
      (contracts_at spec named.component s)
