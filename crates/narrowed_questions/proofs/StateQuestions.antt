-- Questions of state formulas are decided by one position.
use Rattle.std.proofs.Common.{ℕ, Bool, true, false, List, [], ◌∷◌, length}
use Rattle.std.proofs.lemmas.List.Elements.{All-head, All-tail}
use Rattle.typed_ltl.specs.Formulas.{Ltl}
use Rattle.spec_model.specs.Expressions.{IsState, ReadsBelow}
use Rattle.first_lasso.specs.Lassos.{Satisfies, IsStateProperty}
use Rattle.first_lasso.proofs.Agreement.{state_formulas_are_decided}
use Rattle.first_lasso.proofs.OnePosition as one
use Rattle.narrowed_questions.specs.NarrowedQuestions.{HasTruth, HaveTruths}
use Rattle.narrowed_questions.specs.StateQuestions.{AreStateFormulas, OneStateBreaks, OneStateIsFound}
use Rattle.narrowed_questions.proofs.StateForms.{state_form, ports_below}

sign_decided : (n : ℕ) (e : Ltl × Bool) → IsState e.0 × ReadsBelow n e.0 → IsStateProperty n (λ w. HasTruth w e.0 e.1)
sign_decided n (f, true) h = state_formulas_are_decided n f (state_form f h.0) (ports_below n f h.1)
sign_decided n (f, false) h = one.not_state n (Satisfies f) (state_formulas_are_decided n f (state_form f h.0) (ports_below n f h.1))

question_decided : (n : ℕ) (formulas : List (Ltl × Bool)) → AreStateFormulas n formulas → IsStateProperty n (HaveTruths formulas)
question_decided n [] h = λ w v same t. t
question_decided n (e ∷ formulas) h =
    let P = λ (a : Ltl × Bool). IsState a.0 × ReadsBelow n a.0 in
    one.and_state n (λ w. HasTruth w e.0 e.1) (HaveTruths formulas) (sign_decided n e (All-head P e formulas h))
    (question_decided n formulas (All-tail P e formulas h))

pub one_state_breaks : OneStateBreaks
one_state_breaks ports formulas h = one.one_position_is_enough ports (HaveTruths formulas) (question_decided (length ports) formulas h)

pub one_state_is_found : OneStateIsFound
one_state_is_found ports formulas k found some h trace first =
    one.one_position_is_found ports (HaveTruths formulas) k found some (question_decided (length ports) formulas h) trace first
