-- The report of a check. Each line ends by LF, the byte 10.
use Rattle.std.specs.Prelude.{ℕ, List, [], ◌++◌, slice_get, codes, decimal}
use Rattle.std.specs.List.{flat_map, count_by}
use Rattle.std.specs.Option.{option_map_or}
use Rattle.oss_base.specs.declared.ids.ComponentId.{ComponentId}
use Rattle.oss_base.specs.declared.ids.ItemId.{ItemId}
use Rattle.spec_model.specs.declared.spec.Spec.{Spec}
use Rattle.spec_model.specs.declared.item.Item.{Item}
use Rattle.typed_ltl.specs.declared.lasso.Verdict.{Verdict}
use Rattle.typed_ltl.specs.declared.lasso.Verdict.TheVariants as verdict
use Rattle.obligations.specs.declared.name.ObligationName.{ObligationName}
use Rattle.obligations.specs.declared.name.ObligationName.TheVariants as obligation
use Rattle.obligations.specs.Names.{component_name, obligation_text}
use Rattle.report.specs.declared.answers.Answer.{Answer}
use Rattle.report.specs.Answers.{is_proved, is_refuted, is_undecided}
use Rattle.replay.specs.FreePortNames.{free_names}
use Rattle.replay.specs.LassoBlocks.{lasso_block}

abbrev pub obligation_item : ObligationName → ItemId
obligation_item (obligation.Entails item) = item
obligation_item (obligation.Assumes item place) = item

-- the component that an obligation speaks of; one that does not exist counts as the system's
abbrev pub obligation_component : Spec → ObligationName → ComponentId
obligation_component spec name =
    option_map_or (λ (item : Item). item.component) (slice_get spec.items (obligation_item name).0) spec.system

abbrev pub verdict_word : Verdict → List ℕ
verdict_word verdict.Proved = codes "proved"
verdict_word verdict.Undecided = codes "undecided"
verdict_word (verdict.Refuted lasso) = codes "refuted"

-- after a refuted obligation its lasso over all free ports
abbrev pub shown_lasso : Spec → ComponentId → Verdict → List ℕ
shown_lasso spec c verdict.Proved = []
shown_lasso spec c verdict.Undecided = []
shown_lasso spec c (verdict.Refuted lasso) = lasso_block (component_name spec c) (free_names spec c) lasso

abbrev pub answer_text : Spec → Answer → List ℕ
answer_text spec answer = verdict_word answer.verdict ++ codes " " ++ obligation_text spec answer.name ++ codes "\n"
    ++ shown_lasso spec (obligation_component spec answer.name) answer.verdict

-- how many obligations were proved, refuted and left undecided
abbrev pub totals_text : List Answer → List ℕ
totals_text answers = codes "proved " ++ decimal (count_by is_proved answers) ++ codes " refuted "
    ++ decimal (count_by is_refuted answers)
    ++ codes " undecided " ++ decimal (count_by is_undecided answers) ++ codes "\n"

-- the answers in order, and last the totals
abbrev pub check_text : Spec → List Answer → List ℕ
check_text spec answers = flat_map (answer_text spec) answers ++ totals_text answers
