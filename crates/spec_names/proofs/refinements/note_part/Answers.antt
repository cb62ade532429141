use Rattle.std.proofs.Common.{sym, ap, ◌∙◌}
use Rattle.oss_syntax.specs.Trees.{Refined}
use Rattle.spec_names.specs.NamesFaults.{part_faults}
use Rattle.spec_names.specs.Noting.{noted}
use Rattle.spec_names.specs.Refinements.{names_around, tests_in, faults_of_item}
use Rattle.spec_names.proofs.RefinementFacts.{contract_noted}
use Rattle.spec_names.proofs.refinements.note_part.Goals as goal

pub returns-in_ok-note_parts_again-in-Contract : goal.returns-in_ok-note_parts_again-in-Contract
returns-in_ok-note_parts_again-in-Contract c =
    contract_noted (names_around c.args.surroundings) c.in-Contract.name c.as_slice-parts.result.now c.has_contract-is_own.result c.args.first.now
    c.note_unless-in-Contract.new.first c.note_missing_subs.new.first c.note_missing_contracts.new.first c.note_parts_again.new.first
    (c.has_contract-is_own.ensures ∙ ap (λ text. (tests_in (names_around c.args.surroundings)).contract (record c.in-Contract.name { text = text }))
    c.as_str-in-Contract.ensures)
    c.note_unless-in-Contract.ensures c.note_missing_subs.ensures c.note_missing_contracts.ensures c.in_ok-note_parts_again-in-Contract.ensures
    ∙ (ap (λ ps. noted (part_faults (tests_in (names_around c.args.surroundings)) (Refined c.in-Contract.name ps)) c.args.first.now) c.as_slice-parts.ensures
    ∙ ap (λ item. noted (faults_of_item (names_around c.args.surroundings) item) c.args.first.now) (sym c.in-Contract.is))
