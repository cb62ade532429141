use Rattle.narrowed_questions.proofs.StateQuestions.{one_state_breaks, one_state_is_found}
use Rattle.narrowed_questions.proofs.one_state_is_enough.Goals as goal

pub returns-clause-breaks : goal.returns-clause-breaks
returns-clause-breaks c = one_state_breaks

pub returns-clause-found : goal.returns-clause-found
returns-clause-found c = one_state_is_found
