-- Lassos that break a question are those that lassos of tableau states show (E. M. Clarke, O. Grumberg and
-- K. Hamaguchi, Another Look at LTL Model Checking, 1994).

use Rattle.std.specs.Prelude.{◌≡◌, ℕ, ◌↔◌, List, Option}
use Rattle.typed_ltl.specs.declared.lasso.Lasso.{Lasso}
use Rattle.core_ltl.specs.declared.question.SignedNode.{SignedNode}
use Rattle.core_ltl.specs.Nodes.{members, IsClosure}
use Rattle.tableau.specs.TableauStates.{ClosureOverPorts}
use Rattle.first_lasso.specs.Lassos.{WordHas}
use Rattle.first_lasso.specs.FirstLassos.{IsWitness, IsFirstIfAny}
use Rattle.tableau.specs.Questions.{IsQuestionOver, BreaksQuestion}
use Rattle.lasso_search.specs.TableauLassos.{HasTableauLasso}

-- A lasso over the ports breaks a question exactly where as many tableau states with its valuations are joined by steps
-- in its shape, the first has the question, and each fairness condition is met in the loop.
abbrev pub BreakingLassosAreTableauLassos : Type 0
BreakingLassosAreTableauLassos = (t : ClosureOverPorts) (question : List SignedNode) (lasso : Lasso)
    → IsClosure (members t.closure) → IsQuestionOver t question
    → IsWitness t.ports (WordHas (BreaksQuestion t question)) lasso ↔ HasTableauLasso t question lasso

-- A question has one answer: two searches for it give the same.
abbrev pub AnswersAreOne : Type 0
AnswersAreOne = (t : ClosureOverPorts) (question : List SignedNode) (k : ℕ) (a b : Option Lasso)
    → IsFirstIfAny t.ports (WordHas (BreaksQuestion t question)) k a
    → IsFirstIfAny t.ports (WordHas (BreaksQuestion t question)) k b
    → a ≡ b
