use Rattle.std.proofs.Common.{◌∙◌, ap, sym}
use Rattle.oss_syntax.specs.Trees.{component_trees}
use Rattle.spec_names.specs.Noting.{noted}
use Rattle.spec_types.specs.TreeComponents as specs
use Rattle.spec_types.proofs.Walking.{noted_first}
use Rattle.spec_types.proofs.components.typed_components.Goals as goal

pub returns-in-Some : goal.returns-in-Some
returns-in-Some c =
    sym (c.in-Some.ensures ∙ (c.in_ok-typed.ensures.first
    ∙ (ap (noted (specs.types_faults (component_trees c.args.components.now))) c.new-first.ensures
    ∙ noted_first c.first_of_both.ensures (specs.types_faults (component_trees c.args.components.now)))))

pub returns-in-None : goal.returns-in-None
returns-in-None c = (
  (c.first_is_least.ensures.none (specs.types_faults (component_trees c.args.components.now))).0
      (sym (c.in-None.ensures ∙ (c.in_ok-typed.ensures.first
      ∙ (ap (noted (specs.types_faults (component_trees c.args.components.now))) c.new-first.ensures
      ∙ noted_first c.first_of_both.ensures (specs.types_faults (component_trees c.args.components.now)))))),
  c.in_ok-typed.ensures.typed,
)
