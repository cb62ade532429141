-- A specification has one list of answers.
use Rattle.std.proofs.Common.{◌≡◌, ℕ, ◌+◌, List, [], ◌∷◌, ◌++◌, sym, ap, ◌∙◌}
use Rattle.spec_model.specs.declared.spec.Spec.{Spec}
use Rattle.spec_model.specs.declared.item.Item.{Item}
use Rattle.typed_ltl.specs.declared.lasso.Verdict.{Verdict}
use Rattle.level_verdicts.specs.Laws.{VerdictsAreUnique}
use Rattle.report.specs.declared.answers.Answer.{Answer}
use Rattle.report.specs.AllAnswers.{AnswersAreUnique, AreAnswersFrom, level_answers}

same_joined : (n : ℕ) (vs ws : List Verdict) (rest others : List Answer) → vs ≡ ws → rest ≡ others
    → level_answers n vs ++ rest ≡ level_answers n ws ++ others
same_joined n vs ws rest others e f = ap (λ (us : List Verdict). level_answers n us ++ rest) e ∙ ap (λ (more : List Answer). level_answers n ws ++ more) f

answers_from_unique : VerdictsAreUnique → (spec : Spec) (depth n : ℕ) (items : List Item) (a b : List Answer)
    → AreAnswersFrom spec depth n items a → AreAnswersFrom spec depth n items b → a ≡ b
answers_from_unique one spec depth n [] a b h k = h ∙ sym k
answers_from_unique one spec depth n (item ∷ items) a b h k =
    h.3 ∙ same_joined n h.0 k.0 h.1 k.1 (one spec item depth h.0 k.0 h.2 k.2) (answers_from_unique one spec depth (n + 1) items h.1 k.1 h.4 k.4) ∙ sym k.3

pub answers_unique : VerdictsAreUnique → AnswersAreUnique
answers_unique one spec depth a b h k = answers_from_unique one spec depth 0 spec.items a b h k
