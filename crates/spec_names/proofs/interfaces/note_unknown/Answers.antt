use Rattle.std.proofs.Common.{ap, ◌∙◌}
use Rattle.oss_base.specs.declared.fault.FaultKind.TheVariants.{F13}
use Rattle.spec_names.specs.Interfaces.{is_known_in}
use Rattle.spec_names.specs.NamesFaults.{site, start_of, use_start}
use Rattle.spec_names.specs.Noting.{noted, none_if}
use Rattle.spec_names.specs.Uses.{use_at}
use Rattle.spec_names.proofs.NotingFacts.{lacking_map_step}
use Rattle.spec_names.proofs.interfaces.note_unknown.Goals as goal

pub loop-name-preserved : goal.loop-name-preserved
loop-name-preserved c =
    lacking_map_step F13 (is_known_in c.args.tables.now) use_start use_at c.args.uses.now c.loop-name.name-index c.name-item.result c.is_known.result
    c.loop-name.first c.note_unless.new.first _ c.loop-name-test.true c.name-item.is c.is_known.ensures
    (c.note_unless.ensures ∙ ap (λ w. noted (none_if c.is_known.result (site F13 (start_of w))) c.loop-name.first) c.word.ensures) c.loop-name.invariant
