-- A list names no member twice where its first is not named again and the rest names none twice.
use Rattle.std.proofs.Common.{◌≡◌, ℕ, zero, suc, ◌<◌, ◌↔◌, Bool, true, false, List, [], ◌∷◌, length, get_or, Some, slice_get, refl, sym, ap, ◌∙◌, subst, arith}
use Rattle.std.specs.Prelude.{All, ◌≢◌, IsTrue}
use Rattle.std.proofs.lemmas.Bool.{true≢false}
use Rattle.std.proofs.lemmas.Option.{none-some, same_Some, slice_get-get_or, slice_get_within}
use Rattle.core_ltl.specs.declared.question.SignedNode.{SignedNode}
use Rattle.counter_cert.specs.Certificates.{NamesOnce}

pub once_nil : NamesOnce []
once_nil = λ i j x y ex ey same. absurd (none-some x ex)

not_named : (x : SignedNode) (xs : List SignedNode) → All (λ y. y.node.0 ≢ x.node.0) xs → (j : ℕ) (b : SignedNode)
    → slice_get xs j ≡ Some b → x.node.0 ≡ b.node.0 → ⊥
not_named x xs off j b e same =
    let within : j < length xs = slice_get_within xs j b e in
    let at : get_or xs j b ≡ b = same_Some (get_or xs j b) b (sym (slice_get-get_or xs j b within) ∙ e) in
    off j b within (ap (λ (y : SignedNode). y.node.0) at ∙ sym same)

pub once_cons : (x : SignedNode) (xs : List SignedNode) → All (λ y. y.node.0 ≢ x.node.0) xs → NamesOnce xs → NamesOnce (x ∷ xs)
once_cons x xs off once zero zero a b ea eb same = refl
once_cons x xs off once zero (suc j) a b ea eb same =
    absurd (not_named x xs off j b eb (ap (λ (y : SignedNode). y.node.0) (same_Some x a ea) ∙ same))
once_cons x xs off once (suc i) zero a b ea eb same =
    absurd (not_named x xs off i a ea (ap (λ (y : SignedNode). y.node.0) (same_Some x b eb) ∙ sym same))
once_cons x xs off once (suc i) (suc j) a b ea eb same = ap suc (once i j a b ea eb same)

pub once_head : (x : SignedNode) (xs : List SignedNode) → NamesOnce (x ∷ xs) → All (λ y. y.node.0 ≢ x.node.0) xs
once_head x xs once = λ k d lt same.
    let e : zero ≡ suc k = once zero (suc k) x (get_or xs k d) refl (slice_get-get_or xs k d lt) (sym same) in
    absurd (omega (arith, e))

pub once_tail : (x : SignedNode) (xs : List SignedNode) → NamesOnce (x ∷ xs) → NamesOnce xs
once_tail x xs once = λ i j a b ea eb same.
    let e : suc i ≡ suc j = once (suc i) (suc j) a b ea eb same in
    omega (arith, e)

-- the two arms of the test
pub once_when : (xs : List SignedNode) (x : SignedNode) (rest : List SignedNode) (b : Bool) → xs ≡ x ∷ rest
    → All (λ y. y.node.0 ≢ x.node.0) rest → (IsTrue b ↔ NamesOnce rest) → IsTrue b ↔ NamesOnce xs
once_when xs x rest b e off same = (
  λ on. subst NamesOnce (sym e) (once_cons x rest off (same.0 on)),
  λ once. same.1 (once_tail x rest (subst NamesOnce e once)),
)

pub once_not : (xs : List SignedNode) (x : SignedNode) (rest : List SignedNode) (b : Bool) → xs ≡ x ∷ rest
    → (IsTrue b ↔ All (λ y. y.node.0 ≢ x.node.0) rest) → b ≡ false → IsTrue b ↔ NamesOnce xs
once_not xs x rest b e same off = (
  λ on. absurd (true≢false (sym on ∙ off)),
  λ once. same.1 (once_head x rest (subst NamesOnce e once)),
)
