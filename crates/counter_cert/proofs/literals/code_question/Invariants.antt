use Rattle.std.proofs.Common.{◌≡◌, take}
use Rattle.counter_cert.specs.StartClauses.{question_clauses}
use Rattle.counter_cert.proofs.literals.code_question.Given as goal

abbrev pub invariant-loop-x : goal.invariant-loop-x
invariant-loop-x l = l.clauses.items ≡ question_clauses l.layer (take l.x-index l.question)
