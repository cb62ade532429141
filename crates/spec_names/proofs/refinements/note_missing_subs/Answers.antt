use Rattle.oss_base.specs.declared.fault.FaultKind.TheVariants.{F24}
use Rattle.oss_syntax.specs.declared.words.PartWord.{PartWord}
use Rattle.spec_names.specs.NamesFaults.{start_of}
use Rattle.spec_names.specs.Refinements.{names_around, tests_in}
use Rattle.spec_names.proofs.NotingFacts.{lacking_step}
use Rattle.spec_names.proofs.refinements.note_missing_subs.Goals as goal

pub loop-part-preserved : goal.loop-part-preserved
loop-part-preserved c =
    lacking_step F24 (tests_in (names_around c.args.surroundings)).sub (λ (part : PartWord). start_of part.sub) c.args.parts.now c.loop-part.part-index
    c.part-item.result
    c.has_sub.result c.loop-part.first c.note_unless.new.first _ c.loop-part-test.true c.part-item.is c.has_sub.ensures c.note_unless.ensures
    c.loop-part.invariant
