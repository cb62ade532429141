-- The text of judgements, as a counterexample's trace is told back to a designer (Biere, Cimatti, Clarke and Zhu,
-- Symbolic Model Checking without BDDs, 1999): a line for each contract. Each line ends by LF, the byte 10.
use Rattle.std.specs.Prelude.{ℕ, Bool, true, false, List, ◌++◌, Option, Some, None, codes}
use Rattle.std.specs.List.{flat_map}
use Rattle.oss_base.specs.declared.ids.ComponentId.{ComponentId}
use Rattle.oss_base.specs.declared.ids.ContractId.{ContractId}
use Rattle.oss_base.specs.declared.ids.SubId.{SubId}
use Rattle.spec_model.specs.declared.spec.Spec.{Spec}
use Rattle.obligations.specs.Names.{component_name, contract_name, part_name}
use Rattle.replay.specs.declared.judgement.Judgement.{Judgement}

-- `C.c` for a contract of the component itself, `s.d` for one of the component of a subcomponent
abbrev pub judged_name : Spec → ComponentId → Option SubId → ContractId → List ℕ
judged_name spec c None d = (component_name spec c ++ codes ".") ++ contract_name spec c d
judged_name spec c (Some s) d = part_name spec c (s, d)

abbrev pub judged_truth : Bool → List ℕ
judged_truth true = codes "true"
judged_truth false = codes "false"

-- whether the assumption and the guarantee of a contract hold
abbrev pub judgement_line : Spec → Judgement → List ℕ
judgement_line spec j = judged_name spec j.component j.sub j.contract ++ codes " assume " ++ judged_truth j.assume
    ++ codes " guarantee " ++ judged_truth j.guarantee ++ codes "\n"

-- the judgements in order
abbrev pub judgements_text : Spec → List Judgement → List ℕ
judgements_text spec judgements = flat_map (judgement_line spec) judgements
