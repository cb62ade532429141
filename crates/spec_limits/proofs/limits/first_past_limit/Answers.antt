use Rattle.std.proofs.Common.{sym, ap, subst, ◌∙◌}
use Rattle.oss_base.specs.Sites.{first_of}
use Rattle.oss_syntax.specs.Trees.{component_trees}
use Rattle.spec_limits.specs.LimitFaults.{instances, limit_faults}
use Rattle.spec_limits.specs.Counting.{IsSize}
use Rattle.spec_limits.proofs.LimitLemmas.{all_noted}
use Rattle.spec_limits.proofs.Sizes.{instances_are_size}
use Rattle.spec_limits.proofs.limits.first_past_limit.Goals as goal

pub note_system-requires : goal.note_system-requires
note_system-requires c =
    subst (λ list. IsSize list (instances (component_trees c.as_slice-components.result.now))) (sym c.as_slice.ensures.value)
    (subst (λ cs. IsSize c.args.directory.now.refinements.items (instances (component_trees cs))) (sym c.as_slice-components.ensures)
    (instances_are_size (component_trees c.args.tree.now) c.args.directory.now c.requires))

pub returns : goal.returns
returns c =
    c.get.ensures
    ∙ (all_noted c.first_of_both.ensures c.as_slice-components.result.now c.new-first.result c.note_components.new.first c.note_system.new.first
    c.note_parts.new.first c.new-first.ensures c.note_components.ensures c.in_ok-note_system.ensures c.note_parts.ensures
    ∙ ap (λ cs. first_of (limit_faults (component_trees cs))) c.as_slice-components.ensures)
