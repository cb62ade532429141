-- A text that means a lasso doesn't break.
use Rattle.std.proofs.Common.{◌≡◌, ℕ, ◌<◌, ◌≤◌, ◌^◌, inl, inr, List, [], ◌∷◌, length, sym, ap, ◌∙◌}
use Rattle.std.proofs.Common.{arith, subst, Some, decimal}
use Rattle.std.proofs.lemmas.Fmt.{decimal_injective}
use Rattle.port_types.specs.declared.types.PortType.{PortType}
use Rattle.port_types.specs.declared.types.Value.{Value}
use Rattle.oss_base.specs.declared.ids.ComponentId.{ComponentId}
use Rattle.spec_model.specs.declared.spec.Spec.{Spec}
use Rattle.replay.specs.declared.named.NamedLasso.{NamedLasso}
use Rattle.replay.specs.FreePortNames.{free_names}
use Rattle.spec_model.specs.FreeTypes.{free_types}
use Rattle.replay.specs.TextLines.{NumberedLine, lines_that_count, missing_line}
use Rattle.replay.specs.LassoFiles.{AreStateLines, BreaksAfterHeader, IsHeaderLine, IsBlock, LinesBreak, place_of_component}
use Rattle.replay.specs.Laws.{LassosDontBreak}

states_dont_break : (names : List (List ℕ)) (kinds : List PortType) (missing : ℕ) (states : List (List Value))
    (lines : List NumberedLine) (number : ℕ) → AreStateLines names kinds states lines
    → BreaksAfterHeader names kinds missing (length states) lines number → ⊥
states_dont_break names kinds missing [] [] number h b = h
states_dont_break names kinds missing (v ∷ vs) [] number h b = h
states_dont_break names kinds missing [] (line ∷ []) number h (inl (fails, e)) = fails h
states_dont_break names kinds missing [] (line ∷ []) number h (inr (fits, b)) = b
states_dont_break names kinds missing [] (line ∷ more ∷ rest) number h b = h
states_dont_break names kinds missing (v ∷ vs) (line ∷ rest) number (h, more) (inl (fails, e)) = fails (v, h)
states_dont_break names kinds missing (v ∷ vs) (line ∷ rest) number (h, more) (inr (fits, b)) =
    states_dont_break names kinds missing vs rest number more b

same_component : (c e : ComponentId) → c.0 ≡ e.0 → c ≡ e
same_component c e h = λ j. record { 0 = h j }

-- the words of a line tell the component, the number of states and the place of the loop
pub headers_agree : (spec : Spec) (words : List (List ℕ)) (c e : ComponentId) (n l m k : ℕ) → IsHeaderLine spec words c n l
    → IsHeaderLine spec words e m k → (c ≡ e) × (n ≡ m) × (l ≡ k)
headers_agree spec words c e n l m k h g =
    let parts = sym h.parts ∙ g.parts in
    let name : h.name ≡ g.name = cc parts in
    let count : decimal n ≡ decimal m = cc parts in
    let loop : decimal l ≡ decimal k = cc parts in
    let places : Some c.0 ≡ Some e.0 = sym h.component ∙ (ap (place_of_component spec) name ∙ g.component) in
    let place : c.0 ≡ e.0 = cc places in (
      same_component c e place,
      decimal_injective n m (small n h.most) (small m g.most) count,
      decimal_injective l k (smaller l n h.in_range h.most) (smaller k m g.in_range g.most) loop,
    )
  where
    small : (n : ℕ) → n ≤ 256 → n < 2 ^ 64
    small n h = omega arith

    smaller : (l n : ℕ) → l < n → n ≤ 256 → l < 2 ^ 64
    smaller l n a h = omega arith

blocks_dont_break : (spec : Spec) (missing : ℕ) (lines : List NumberedLine) (named : NamedLasso) (number : ℕ)
    → IsBlock spec lines named → LinesBreak spec missing lines number → ⊥
blocks_dont_break spec missing [] named number h b = h
blocks_dont_break spec missing (line ∷ rest) named number (h, states) (inl (fails, e)) =
    fails (named.component, length named.lasso.states, named.lasso.loop_at, h)
blocks_dont_break spec missing (line ∷ rest) named number (h, states) (inr (c, n, l, g, b)) =
    let same = headers_agree spec line.words named.component c (length named.lasso.states) named.lasso.loop_at n l h g in
    let Along : ComponentId → ℕ → Type 0 = λ c n. BreaksAfterHeader (free_names spec c) (free_types spec c) missing n rest number in
    let back : Along named.component (length named.lasso.states) = subst (λ (n : ℕ). Along named.component n) (sym same.1)
    (subst (λ (c : ComponentId). Along c n) (sym same.0) b) in
    states_dont_break (free_names spec named.component) (free_types spec named.component) missing named.lasso.states rest number states back

pub lassos_dont_break : LassosDontBreak
lassos_dont_break spec bytes named number lasso (inl (long, e)) = let size = lasso.size in absurd (omega arith)
lassos_dont_break spec bytes named number lasso (inr (short, b)) =
    blocks_dont_break spec (missing_line bytes) (lines_that_count bytes) named number lasso.block b
