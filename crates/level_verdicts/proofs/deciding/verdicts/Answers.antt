use Rattle.std.proofs.Common.{◌+◌, List, [], ◌∷◌, ◌++◌, drop, sym, ap, ◌∙◌, subst, arith}
use Rattle.typed_ltl.specs.declared.lasso.Verdict.{Verdict}
use Rattle.core_ltl.specs.Nodes.{members}
use Rattle.levels.specs.Levels.{level_meaning}
use Rattle.levels.specs.LevelQuestions.{entailment, met_assumption}
use Rattle.level_verdicts.specs.Verdicts.{AreVerdicts}
use Rattle.level_verdicts.proofs.Asked.{AskingLaws, IsKnownLevel, entailment_verdict, assumption_verdict, question_over}
use Rattle.level_verdicts.proofs.StateClosures.{level_told}
use Rattle.level_verdicts.proofs.Listed.{AreVerdictsBut, verdicts_begin, verdicts_more, verdicts_end, as_many_parts, part_there}
use Rattle.level_verdicts.proofs.deciding.verdicts.Goals as goal

pub search_of-requires-clause-ports : goal.search_of-requires-clause-ports
search_of-requires-clause-ports c =
    (c.levels_can_be_coded.ensures.levels c.args.spec.now c.args.item.now c.args.level.now c.requires.decidable.types c.requires.level).0

pub search_of-requires-clause-atoms : goal.search_of-requires-clause-atoms
search_of-requires-clause-atoms c =
    (c.levels_can_be_coded.ensures.levels c.args.spec.now c.args.item.now c.args.level.now c.requires.decidable.types c.requires.level).1

pub question_verdict-requires-clause-question : goal.question_verdict-requires-clause-question
question_verdict-requires-clause-question c =
    let level = c.args.level.now in
    let spec = c.args.spec.now in
    let item = c.args.item.now in
    question_over level c.in_ok-search.search c.in_ok-entails.entails c.in_ok-search.ensures
    (c.questions_are_over_closures.ensures level c.in_ok-entails.entails (entailment (level_meaning spec item))
    (c.in_ok-entails.ensures spec item c.requires.level))

pub loop-j-init : goal.loop-j-init
loop-j-init c =
    let spec = c.args.spec.now in
    let item = c.args.item.now in
    let level = c.args.level.now in
    let laws : AskingLaws = record {
      entailments = c.questions_are_narrowed.ensures.entailments;
      assumptions = c.questions_are_narrowed.ensures.assumptions;
      known = c.narrowed_questions_are_known.ensures;
    } in
    let of : IsKnownLevel spec item level c.is_state_level-is_state.result = record {
      reads = c.requires.decidable.reads;
      some = c.levels_can_be_coded.ensures.free spec item.component c.requires.decidable.types;
      is = c.requires.level;
      state = level_told spec item level c.is_state_level-is_state.result c.requires.level c.is_state_level-is_state.ensures;
    } in (
      c.in_ok-entailed.ensures.search,
      verdicts_begin spec item c.args.depth c.push.new.self.items c.in_ok-entailed.entailed
          (c.in_ok-push.ensures.items ∙ ap (λ (vs : List Verdict). vs ++ c.in_ok-entailed.entailed ∷ []) c.new-verdicts.ensures.items)
          (entailment_verdict laws spec item level c.is_state_level-is_state.result c.args.depth c.in_ok-entailed.entailed of
          (record { question = c.in_ok-entails.entails; told = c.in_ok-entailed.ensures.verdict })
          (c.in_ok-entails.ensures spec item c.requires.level)),
    )

pub question_verdict-requires-in-loop-j-clause-question : goal.question_verdict-requires-in-loop-j-clause-question
question_verdict-requires-in-loop-j-clause-question c =
    let level = c.args.level.now in
    let spec = c.args.spec.now in
    let item = c.args.item.now in
    let at = part_there (members level.closure) level.places level.parts.items (level_meaning spec item).parts c.loop-j.j (c.requires.level).parts
    (omega (arith, c.loop-j-test.true, c.len-j-end.ensures)) in
    question_over level c.loop-j.search c.in_ok-assumes.assumes (c.loop-j.invariant).0
    (c.questions_are_over_closures.ensures level c.in_ok-assumes.assumes (met_assumption (level_meaning spec item) at.0)
    (c.in_ok-assumes.ensures spec item at.0 c.requires.level at.1))

pub loop-j-preserved : goal.loop-j-preserved
loop-j-preserved c =
    let spec = c.args.spec.now in
    let item = c.args.item.now in
    let level = c.args.level.now in
    let v = c.in_ok-assumed.assumed in
    let laws : AskingLaws = record {
      entailments = c.questions_are_narrowed.ensures.entailments;
      assumptions = c.questions_are_narrowed.ensures.assumptions;
      known = c.narrowed_questions_are_known.ensures;
    } in
    let of : IsKnownLevel spec item level c.is_state_level-is_state.result = record {
      reads = c.requires.decidable.reads;
      some = c.levels_can_be_coded.ensures.free spec item.component c.requires.decidable.types;
      is = c.requires.level;
      state = level_told spec item level c.is_state_level-is_state.result c.requires.level c.is_state_level-is_state.ensures;
    } in
    let at = part_there (members level.closure) level.places level.parts.items (level_meaning spec item).parts c.loop-j.j (c.requires.level).parts
    (omega (arith, c.loop-j-test.true, c.len-j-end.ensures)) in (
      c.in_ok-assumed.ensures.search,
      subst (AreVerdictsBut spec item c.args.depth (drop (c.loop-j.j + 1) (level_meaning spec item).parts)) (sym c.in_ok-push-2.ensures.items)
          (verdicts_more spec item c.args.depth c.loop-j.verdicts.items v c.loop-j.j at.0 at.1
          (assumption_verdict laws spec item level c.is_state_level-is_state.result c.args.depth v c.loop-j.j at.0 of
          (record { question = c.in_ok-assumes.assumes; told = c.in_ok-assumed.ensures.verdict }) at.1
          (c.in_ok-assumes.ensures spec item at.0 c.requires.level at.1))
          (c.loop-j.invariant).1),
    )

pub returns : goal.returns
returns c =
    let spec = c.args.spec.now in
    let item = c.args.item.now in
    let level = c.args.level.now in
    record {
      verdicts = subst (AreVerdicts spec item c.args.depth) (sym c.from_vec.ensures)
          (verdicts_end spec item c.args.depth c.loop-j.verdicts.items c.loop-j.j
          (omega (
            arith,
            c.loop-j-test.false,
            c.len-j-end.ensures,
            as_many_parts (members level.closure) level.places level.parts.items (level_meaning spec item).parts (c.requires.level).parts,
          ))
          (c.loop-j.invariant).1);
    }
