use Rattle.std.proofs.Common.{map, not, is_none, ap, ◌∙◌}
use Rattle.std.specs.List.{list_all}
use Rattle.oss_base.specs.declared.fault.FaultKind.TheVariants.{F6, F7}
use Rattle.oss_syntax.specs.declared.component.TreeComponent.{TreeComponent as Component}
use Rattle.spec_names.specs.Components.{system_faults, second_system_faults}
use Rattle.spec_names.specs.NamesFaults.{again, same_name, site, start_of}
use Rattle.spec_names.specs.Noting.{noted, none_if}
use Rattle.spec_names.specs.Words.{word_at}
use Rattle.spec_names.proofs.NotingFacts.{noted_two}
use Rattle.spec_names.proofs.components.component_table.Goals as goal

pub returns-clause-noted : goal.returns-clause-noted
returns-clause-noted c =
    noted_two (again F6 same_name start_of (map (λ (k : Component). k.name) c.args.components.now)) (system_faults c.args.end c.args.components.now)
    c.args.first.now c.note_again.new.first c.note_second_system.new.first
    (c.note_again.ensures ∙ ap (λ ws. noted (again F6 same_name start_of ws) c.args.first.now)
    (ap (map word_at) c.deref-2.ensures.value ∙ c.in_ok-words.ensures))
    (noted_two (none_if (not (list_all (λ (k : Component). is_none k.system) c.args.components.now)) (site F7 c.args.end))
    (second_system_faults c.args.components.now) c.note_again.new.first c.note_unless.new.first c.note_second_system.new.first
    (c.note_unless.ensures ∙ ap (λ b. noted (none_if (not b) (site F7 c.args.end)) c.note_again.new.first) c.lack_system.ensures)
    c.note_second_system.ensures)
