-- The core form of a formula has its truth, at each position of each trace.
use Rattle.std.proofs.Common.{◌+◌}
use Rattle.typed_ltl.specs.Formulas as form
use Rattle.typed_ltl.specs.Laws.{TruthIsStable}
use Rattle.core_ltl.specs.CoreFormulas.{CoreFormsKeepTruth}

pub core_keeps : TruthIsStable → CoreFormsKeepTruth
core_keeps stable w form.True i = (λ h. h, λ h. h)
core_keeps stable w form.False i = (λ h t. h, λ n. n tt)
core_keeps stable w (form.Atomic a) i = (λ h. h, λ h. h)
core_keeps stable w (form.Not f) i = let e = core_keeps stable w f i in (λ n h. n (e.1 h), λ n h. n (e.0 h))
core_keeps stable w (form.And f g) i =
    let e = core_keeps stable w f i in
    let d = core_keeps stable w g i in
    (λ h. (e.0 h.0, d.0 h.1), λ h. (e.1 h.0, d.1 h.1))
core_keeps stable w (form.Or f g) i =
    let e = core_keeps stable w f i in
    let d = core_keeps stable w g i in
    (λ h b. h (λ p. b.0 (e.0 p)) (λ q. b.1 (d.0 q)), λ n p q. n (λ x. p (e.1 x), λ y. q (d.1 y)))
core_keeps stable w (form.Implies f g) i =
    let e = core_keeps stable w f i in
    let d = core_keeps stable w g i in
    (λ h b. b.1 (d.0 (h (e.1 b.0))), λ n p. stable w g i (λ q. n (e.0 p, λ y. q (d.1 y))))
core_keeps stable w (form.Iff f g) i =
    let e = core_keeps stable w f i in
    let d = core_keeps stable w g i in (
      λ h. (λ b. b.1 (d.0 (h.0 (e.1 b.0))), λ b. b.1 (e.0 (h.1 (d.1 b.0)))),
      λ n. (
        λ p. stable w g i (λ q. n.0 (e.0 p, λ y. q (d.1 y))),
        λ q. stable w f i (λ p. n.1 (d.0 q, λ x. p (e.1 x))),
      ),
    )
core_keeps stable w (form.Then f) i = core_keeps stable w f (i + 1)
core_keeps stable w (form.Until f g) i =
    let e = core_keeps stable w f in
    let d = core_keeps stable w g in (
      λ u none. u (λ j le q t. none j le ((d j).0 q) (λ k lo hi. (e k).0 (t k lo hi))),
      λ u none. u (λ j le q t. none j le ((d j).1 q) (λ k lo hi. (e k).1 (t k lo hi))),
    )
core_keeps stable w (form.Releases f g) i =
    let e = core_keeps stable w f in
    let d = core_keeps stable w g in (
      λ r u. u (λ j le nq t. r j le (λ q. nq ((d j).0 q)) (λ k lo hi p. t k lo hi ((e k).0 p))),
      λ n j le nq t. n (λ none. none j le (λ q. nq ((d j).1 q)) (λ k lo hi p. t k lo hi ((e k).1 p))),
    )
core_keeps stable w (form.Future f) i =
    let e = core_keeps stable w f in (
      λ s none. s (λ j le p. none j le ((e j).0 p) (λ k lo hi. tt)),
      λ u none. u (λ j le p t. none j le ((e j).1 p)),
    )
core_keeps stable w (form.Always f) i =
    let e = core_keeps stable w f in (
      λ a u. u (λ j le np t. np ((e j).0 (a j le))),
      λ n j le. stable w f j (λ np. n (λ none. none j le (λ p. np ((e j).1 p)) (λ k lo hi. tt))),
    )
core_keeps stable w (form.Never f) i =
    let e = core_keeps stable w f in (
      λ a u. u (λ j le p t. a j le ((e j).1 p)),
      λ n j le p. n (λ none. none j le ((e j).0 p) (λ k lo hi. tt)),
    )
