-- A question of nodes over the ports that occur is that of the formulas over all ports, which reads these ports alone.
use Rattle.std.proofs.Common.{◌≡◌, ℕ, ◌↔◌, Bool, true, false, List, [], ◌∷◌, All, Contains, refl, sym, ◌∙◌, subst}
use Rattle.std.proofs.lemmas.Bool.{false≢true}
use Rattle.std.proofs.lemmas.List.Elements.{All-nil, All-cons, All-head, All-tail}
use Rattle.typed_ltl.specs.Formulas.{Number, Choice, Proposition, Ltl}
use Rattle.typed_ltl.specs.Formulas as form
use Rattle.typed_ltl.specs.Traces.{Trace}
use Rattle.typed_ltl.specs.Truth.{Holds}
use Rattle.core_ltl.specs.declared.question.SignedNode.{SignedNode}
use Rattle.core_ltl.specs.CoreFormulas.{CoreFormsKeepTruth, core_form}
use Rattle.core_ltl.specs.Nodes.{Members, StandsFor, NodeHolds}
use Rattle.core_ltl.specs.Questions.{HasSign, Breaks}
use Rattle.core_ltl.proofs.NodeTruth.{node_truth}
use Rattle.first_lasso.specs.Lassos.{Satisfies}
use Rattle.first_lasso.specs.FormulaPorts.{formula_ports, renamed_number, renamed_choice, renamed_test, renamed}
use Rattle.first_lasso.specs.UsedPorts.{used_place, IsNarrowed}
use Rattle.first_lasso.specs.Laws.{ReadPortsDecide, RenamingKeepsTruth, over_used}
use Rattle.first_lasso.proofs.Widening.{formula_narrows, narrows_along, all_narrow, not_narrows, and_narrows}
use Rattle.connections.specs.Substitution.{substituted_number, substituted_choice, substituted_test, substituted}
use Rattle.connections.specs.Substitution as by
use Rattle.levels.specs.Levels.{over_places}
use Rattle.levels.specs.LevelQuestions.{IsSignedNodeOf, AreSignedNodes}
use Rattle.narrowed_questions.specs.NarrowedQuestions.{HasTruth, HaveTruths}

-- ---- substitution of places for ports is a renaming

place_number : (g : ℕ → ℕ) (n : Number) → substituted_number (λ k. by.Free (g k)) n ≡ renamed_number g n
place_number g (form.Literal z) = refl
place_number g (form.NumberAt p next) = refl
place_number g (form.Sum m n) = cc (place_number g m, place_number g n)
place_number g (form.Difference m n) = cc (place_number g m, place_number g n)
place_number g (form.Opposite m) = cc (place_number g m)

place_choice : (g : ℕ → ℕ) (n : Choice) → substituted_choice (λ k. by.Free (g k)) n ≡ renamed_choice g n
place_choice g (form.Named name) = refl
place_choice g (form.NameAt p next) = refl

place_test : (g : ℕ → ℕ) (t : Proposition) → substituted_test (λ k. by.Free (g k)) t ≡ form.Atomic (renamed_test g t)
place_test g (form.TruthAt p next) = refl
place_test g (form.Equals m n) = cc (place_number g m, place_number g n)
place_test g (form.AtMost m n) = cc (place_number g m, place_number g n)
place_test g (form.SameName m n) = cc (place_choice g m, place_choice g n)

pub place_formula : (g : ℕ → ℕ) (f : Ltl) → substituted (λ k. by.Free (g k)) f ≡ renamed g f
place_formula g form.True = refl
place_formula g form.False = refl
place_formula g (form.Atomic a) = place_test g a
place_formula g (form.Not f) = cc (place_formula g f)
place_formula g (form.And f h) = cc (place_formula g f, place_formula g h)
place_formula g (form.Or f h) = cc (place_formula g f, place_formula g h)
place_formula g (form.Implies f h) = cc (place_formula g f, place_formula g h)
place_formula g (form.Iff f h) = cc (place_formula g f, place_formula g h)
place_formula g (form.Then f) = cc (place_formula g f)
place_formula g (form.Until f h) = cc (place_formula g f, place_formula g h)
place_formula g (form.Releases f h) = cc (place_formula g f, place_formula g h)
place_formula g (form.Future f) = cc (place_formula g f)
place_formula g (form.Always f) = cc (place_formula g f)
place_formula g (form.Never f) = cc (place_formula g f)

-- ---- one node with its sign

-- the laws that are cited
pub record NarrowingLaws : Type 0 where
  pub cores : CoreFormsKeepTruth
  pub values : ReadPortsDecide
  pub renaming : RenamingKeepsTruth

node_is : NarrowingLaws → (m : Members) (places : List ℕ) (n : ℕ) (f : Ltl) → StandsFor m n (core_form (over_places places f))
    → (w : Trace) → NodeHolds m w n 0 ↔ Satisfies (over_used places f) w
node_is laws m places n f s w =
    let e : over_places places f ≡ over_used places f = place_formula (used_place places) f in
    let both = node_truth laws.cores m n (over_places places f) s w 0 in
    (λ h. subst (λ (g : Ltl). Holds w g 0) e (both.1 h), λ h. both.0 (subst (λ (g : Ltl). Holds w g 0) (sym e) h))

positive_sign : (m : Members) (w : Trace) (s : SignedNode) → s.positive ≡ true → HasSign m w 0 s ↔ NodeHolds m w s.node.0 0
positive_sign m w s e = (
  λ h. h.positive e,
  λ h. record { positive = λ p. h; negative = λ n t. false≢true (sym n ∙ e) },
)

negative_sign : (m : Members) (w : Trace) (s : SignedNode) → s.positive ≡ false → HasSign m w 0 s ↔ (NodeHolds m w s.node.0 0 → ⊥)
negative_sign m w s e = (
  λ h. h.negative e,
  λ h. record { positive = λ p. absurd (false≢true (sym e ∙ p)); negative = λ n. h },
)

-- one node with its sign is the formula with its sign
pub sign_narrows : NarrowingLaws → (m : Members) (places : List ℕ) (s : SignedNode) (e : Ltl × Bool) → IsSignedNodeOf m places s e
    → All (Contains places) (formula_ports e.0) → IsNarrowed places (λ w. HasTruth w e.0 e.1) (λ w. HasSign m w 0 s)
sign_narrows laws m places s (f, true) h reads =
    narrows_along places (Satisfies f) (Satisfies (over_used places f)) (λ w. HasSign m w 0 s)
    (λ w.
    let a = positive_sign m w s h.sign in
    let b = node_is laws m places s.node.0 f h.node w in
    (λ t. b.0 (a.0 t), λ t. a.1 (b.1 t))) (formula_narrows laws.values laws.renaming places f reads)
sign_narrows laws m places s (f, false) h reads =
    narrows_along places (λ w. Satisfies f w → ⊥) (λ w. Satisfies (over_used places f) w → ⊥) (λ w. HasSign m w 0 s)
    (λ w.
    let a = negative_sign m w s h.sign in
    let b = node_is laws m places s.node.0 f h.node w in
    (λ t u. a.0 t (b.1 u), λ t. a.1 (λ u. t (b.0 u))))
    (not_narrows places (Satisfies f) (Satisfies (over_used places f)) (formula_narrows laws.values laws.renaming places f reads))

-- the formulas read the ports of these places alone
abbrev pub ReadPlaces : List ℕ → List (Ltl × Bool) → Type 0
ReadPlaces places formulas = All (λ (e : Ltl × Bool). All (Contains places) (formula_ports e.0)) formulas

-- The question of nodes is that of the formulas, over the ports that occur.
pub question_narrows : NarrowingLaws → (m : Members) (places : List ℕ) (question : List SignedNode) (formulas : List (Ltl × Bool))
    → AreSignedNodes m places question formulas → ReadPlaces places formulas
    → IsNarrowed places (HaveTruths formulas) (λ w. Breaks m w question)
question_narrows laws m places [] [] h reads =
    narrows_along places (λ w. Unit {0}) (λ w. Unit {0}) (λ w. Breaks m w []) (λ w. (λ t. tt, λ t. All-nil (HasSign m w 0)))
    (all_narrow places)
question_narrows laws m places [] (e ∷ formulas) h reads = absurd h
question_narrows laws m places (s ∷ question) [] h reads = absurd h
question_narrows laws m places (s ∷ question) (e ∷ formulas) h reads =
    let P = λ (a : Ltl × Bool). All (Contains places) (formula_ports a.0) in
    narrows_along places (λ w. HasTruth w e.0 e.1 × HaveTruths formulas w) (λ w. HasSign m w 0 s × Breaks m w question)
    (λ w. Breaks m w (s ∷ question))
    (λ w. (
      λ t. (All-head (HasSign m w 0) s question t, All-tail (HasSign m w 0) s question t),
      λ t. All-cons (HasSign m w 0) s question t.0 t.1,
    ))
    (and_narrows places (λ w. HasTruth w e.0 e.1) (λ w. HasSign m w 0 s) (HaveTruths formulas) (λ w. Breaks m w question)
    (sign_narrows laws m places s e h.0 (All-head P e formulas reads))
    (question_narrows laws m places question formulas h.1 (All-tail P e formulas reads)))
