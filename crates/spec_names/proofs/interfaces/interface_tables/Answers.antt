use Rattle.std.proofs.Common.{map, filter_map, ap, ◌∙◌}
use Rattle.oss_base.specs.declared.fault.FaultKind.TheVariants.{F9, F13}
use Rattle.oss_syntax.specs.Trees.{item_tree}
use Rattle.spec_names.specs.Interfaces.{is_known_in}
use Rattle.spec_names.specs.NamesFaults.{lacking, use_start, clash_with}
use Rattle.spec_names.specs.Noting.{noted}
use Rattle.spec_names.specs.Uses.{use_at}
use Rattle.spec_names.specs.Words.{word_at}
use Rattle.spec_names.proofs.InterfaceFacts.{interface_is, interface_noted, port_words_are, contract_words_are, enumerators_are, enumerator_faults_are}
use Rattle.spec_names.proofs.InterfaceFacts.{inputs_are, uses_are}
use Rattle.spec_names.proofs.NotingFacts.{again_along, noted_along}
use Rattle.spec_names.proofs.TableLemmas.{table_along}
use Rattle.spec_names.proofs.interfaces.interface_tables.Goals as goal

pub returns-clause-tables : goal.returns-clause-tables
returns-clause-tables c =
    interface_is (map item_tree c.args.items.now)
    (record {
      ports = c.in_ok-ports.ports;
      inputs = c.in_ok-inputs.inputs;
      contracts = c.in_ok-contracts.contracts;
      enumerators =
          c.in_ok-enumerators.enumerators;
    })
    (table_along _ _ _ (ap (map word_at) c.deref.ensures.value ∙ (c.in_ok-port_name_words.ensures ∙ port_words_are c.args.items.now)) c.in_ok-ports.ensures)
    (table_along _ _ _ (ap (map word_at) c.deref-3.ensures.value ∙ (c.in_ok-contract_words.ensures ∙ contract_words_are c.args.items.now))
    c.in_ok-contracts.ensures)
    (table_along _ _ _ (ap (map word_at) c.deref-5.ensures.value ∙ (c.in_ok-names.ensures ∙ enumerators_are c.args.items.now)) c.in_ok-enumerators.ensures)
    (c.in_ok-inputs.ensures ∙ inputs_are c.args.items.now)

pub returns-clause-noted : goal.returns-clause-noted
returns-clause-noted c =
    interface_noted (map item_tree c.args.items.now)
    (record {
      ports = c.in_ok-ports.ports;
      inputs = c.in_ok-inputs.inputs;
      contracts = c.in_ok-contracts.contracts;
      enumerators =
          c.in_ok-enumerators.enumerators;
    })
    c.args.first.now c.note_again.new.first c.note_again-2.new.first c.note_clashes.new.first c.note_types.new.first c.note_unknown.new.first
    (returns-clause-tables c)
    (again_along F9 _ _ c.args.first.now c.note_again.new.first (ap (map word_at) c.deref-2.ensures.value ∙
    (c.in_ok-port_name_words.ensures ∙ port_words_are c.args.items.now)) c.note_again.ensures)
    (again_along F9 _ _ c.note_again.new.first c.note_again-2.new.first (ap (map word_at) c.deref-4.ensures.value ∙
    (c.in_ok-contract_words.ensures ∙ contract_words_are c.args.items.now)) c.note_again-2.ensures)
    (c.note_clashes.ensures
    ∙ (λ j. noted (filter_map (clash_with ((ap (map word_at) c.deref-6.ensures.value ∙ (c.in_ok-names.ensures ∙ enumerators_are c.args.items.now)) j))
    ((ap (map word_at) c.deref-7.ensures.value ∙ (c.in_ok-port_name_words.ensures ∙ port_words_are c.args.items.now)) j)) c.note_again-2.new.first))
    (noted_along _ _ c.note_clashes.new.first c.note_types.new.first (enumerator_faults_are c.args.items.now) c.in_ok-note_types.ensures)
    (c.note_unknown.ensures
    ∙ ap (λ us. noted (lacking F13 (is_known_in (record {
      ports = c.in_ok-ports.ports;
      inputs = c.in_ok-inputs.inputs;
      contracts =
          c.in_ok-contracts.contracts;
      enumerators = c.in_ok-enumerators.enumerators;
    })) use_start us) c.note_types.new.first)
    (ap (map use_at) c.deref-8.ensures.value ∙ (c.in_ok-uses.ensures ∙ uses_are c.args.items.now)))
