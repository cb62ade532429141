use Rattle.std.proofs.Common.{ap, ◌∙◌}
use Rattle.oss_base.specs.declared.fault.FaultKind.TheVariants.{F18}
use Rattle.spec_names.specs.Interfaces.{enumerator_faults}
use Rattle.spec_names.specs.NamesFaults.{again, same_name, start_of}
use Rattle.spec_names.specs.Noting.{noted}
use Rattle.spec_names.proofs.NotingFacts.{flat_step}
use Rattle.spec_names.proofs.interfaces.note_types.Goals as goal

pub loop-item-preserved : goal.loop-item-preserved
loop-item-preserved c =
    flat_step enumerator_faults c.args.items.now c.loop-item.item-index c.item-item.result c.loop-item.first c.note_enumerators.new.first _
    c.loop-item-test.true c.item-item.is
    (c.in_ok-note_enumerators.ensures ∙ ap (λ names. noted (again F18 same_name start_of names) c.loop-item.first) c.item_enumerators.ensures)
    c.loop-item.invariant
