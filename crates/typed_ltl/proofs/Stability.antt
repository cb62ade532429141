use Rattle.std.proofs.Common.{◌≡◌, ◌+◌, Bool, true, false, refl}
use Rattle.typed_ltl.specs.Formulas as form
use Rattle.typed_ltl.specs.Formulas.{Ltl}
use Rattle.typed_ltl.specs.Truth.{proposition_truth}
use Rattle.typed_ltl.specs.Laws.{TruthIsStable}

-- "P equals its double negation"
abbrev pub Stable : Type 0 → Type 0
Stable P = ((P → ⊥) → ⊥) → P

pub bool_stable : (b : Bool) → Stable (b ≡ true)
bool_stable true nn = refl
bool_stable false nn = absurd (nn (λ e. cc))

pub stable : TruthIsStable
stable w form.True i nn = tt
stable w form.False i nn = nn (λ h. h)
stable w (form.Atomic a) i nn = bool_stable (proposition_truth (w i) (w (i + 1)) a) nn
stable w (form.Not f) i nn = λ h. nn (λ n. n h)
stable w (form.And f g) i nn = (stable w f i (λ n. nn (λ h. n h.0)), stable w g i (λ n. nn (λ h. n h.1)))
stable w (form.Or f g) i nn = λ n m. nn (λ h. h n m)
stable w (form.Implies f g) i nn = λ h. stable w g i (λ n. nn (λ i. n (i h)))
stable w (form.Iff f g) i nn = (λ h. stable w g i (λ n. nn (λ b. n (b.0 h))), λ h. stable w f i (λ n. nn (λ b. n (b.1 h))))
stable w (form.Then f) i nn = stable w f (i + 1) nn
stable w (form.Until f g) i nn = λ h. nn (λ r. r h)
stable w (form.Releases f g) i nn = λ j le q t. nn (λ r. r j le q t)
stable w (form.Future f) i nn = λ h. nn (λ r. r h)
stable w (form.Always f) i nn = λ j le. stable w f j (λ n. nn (λ r. n (r j le)))
stable w (form.Never f) i nn = λ j le h. nn (λ r. r j le h)
