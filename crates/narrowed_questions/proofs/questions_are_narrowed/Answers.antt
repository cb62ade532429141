use Rattle.narrowed_questions.proofs.Questions.{entailments_are_narrowed, assumptions_are_narrowed, drops_are_narrowed}
use Rattle.narrowed_questions.proofs.questions_are_narrowed.Goals as goal

pub returns-clause-entailments : goal.returns-clause-entailments
returns-clause-entailments c = entailments_are_narrowed (record {
  cores = c.core_forms_keep_truth.ensures;
  values = c.read_ports_decide.ensures.values;
  renaming = c.read_ports_decide.ensures.renaming;
})

pub returns-clause-assumptions : goal.returns-clause-assumptions
returns-clause-assumptions c = assumptions_are_narrowed (record {
  cores = c.core_forms_keep_truth.ensures;
  values = c.read_ports_decide.ensures.values;
  renaming = c.read_ports_decide.ensures.renaming;
})

pub returns-clause-drops : goal.returns-clause-drops
returns-clause-drops c = drops_are_narrowed (record {
  cores = c.core_forms_keep_truth.ensures;
  values = c.read_ports_decide.ensures.values;
  renaming = c.read_ports_decide.ensures.renaming;
})
