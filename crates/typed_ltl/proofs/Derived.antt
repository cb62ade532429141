use Rattle.typed_ltl.specs.Laws.{FalseIsCore, OrIsCore, ImpliesIsCore, IffIsCore, FutureIsCore, AlwaysIsCore, NeverIsCore, ReleasesIsCore}
use Rattle.typed_ltl.proofs.Stability.{stable}

pub false_is_core : FalseIsCore
false_is_core w i = (λ h t. h, λ n. n tt)

pub or_is_core : OrIsCore
or_is_core f g w i = (λ h b. h b.0 b.1, λ n p q. n (p, q))

pub implies_is_core : ImpliesIsCore
implies_is_core f g w i = (λ h b. b.1 (h b.0), λ n p. stable w g i (λ q. n (p, q)))

pub iff_is_core : IffIsCore
iff_is_core f g w i = (
  λ h. (λ b. b.1 (h.0 b.0), λ b. b.1 (h.1 b.0)),
  λ n. (λ p. stable w g i (λ q. n.0 (p, q)), λ p. stable w f i (λ q. n.1 (p, q))),
)

pub future_is_core : FutureIsCore
future_is_core f w i = (λ s none. s (λ j le p. none j le p (λ k lo hi. tt)), λ r none. r (λ j le p t. none j le p))

pub always_is_core : AlwaysIsCore
always_is_core f w i = (
  λ a r. r (λ j le np t. np (a j le)),
  λ n j le. stable w f j (λ np. n (λ none. none j le np (λ k lo hi. tt))),
)

pub never_is_core : NeverIsCore
never_is_core f w i = (
  λ a r. r (λ j le p t. a j le p),
  λ n j le p. n (λ none. none j le p (λ k lo hi. tt)),
)

pub releases_is_core : ReleasesIsCore
releases_is_core f g w i = (λ r u. u r, λ n j le nq t. n (λ r. r j le nq t))
