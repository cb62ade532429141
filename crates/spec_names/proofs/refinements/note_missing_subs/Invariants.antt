use Rattle.std.proofs.Common.{◌≡◌, drop}
use Rattle.oss_base.specs.declared.fault.FaultKind.TheVariants.{F24}
use Rattle.oss_syntax.specs.declared.words.PartWord.{PartWord}
use Rattle.spec_names.specs.NamesFaults.{lacking, start_of}
use Rattle.spec_names.specs.Refinements.{names_around, tests_in}
use Rattle.spec_names.specs.Noting.{noted}
use Rattle.spec_names.proofs.refinements.note_missing_subs.Given as goal

abbrev pub invariant-loop-part : goal.invariant-loop-part
invariant-loop-part l =
    noted (lacking F24 (tests_in (names_around l.surroundings)).sub (λ (part : PartWord). start_of part.sub) (drop l.part-index l.parts)) l.first
    ≡ noted (lacking F24 (tests_in (names_around l.surroundings)).sub (λ (part : PartWord). start_of part.sub) l.parts) l.fn.first
