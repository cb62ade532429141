use Rattle.narrowed_questions.proofs.Known as known
use Rattle.narrowed_questions.proofs.narrowed_questions_are_known.Goals as goal

pub returns : goal.returns
returns c = known.narrowed_questions_are_known c.values_by_kind.ensures
