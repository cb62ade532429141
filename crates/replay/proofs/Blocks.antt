-- How the lines of a block are read one after the other.
use Rattle.std.proofs.Common.{◌≡◌, ℕ, suc, ◌-◌, ◌<◌, inl, inr, List, [], ◌∷◌, ◌++◌, length, sym, ap, subst, ◌∙◌, arith}
use Rattle.std.proofs.lemmas.List.{append_assoc, append-nil, length-append}
use Rattle.port_types.specs.declared.types.PortType.{PortType}
use Rattle.port_types.specs.declared.types.Value.{Value}
use Rattle.replay.specs.TextLines.{NumberedLine}
use Rattle.replay.specs.LassoFiles.{AreStateLines, BreaksAfterHeader, IsStateLine}
use Rattle.replay.specs.Reading.{AreReadTo, IsBlockEnd, EndBreaks}

-- before the first state
pub read_start : (names : List (List ℕ)) (kinds : List PortType) (missing count : ℕ) (lines : List NumberedLine)
    → AreReadTo names kinds missing count lines [] lines
read_start names kinds missing count lines = record {
  most = omega arith;
  whole = λ more h. h;
  broken = λ number b. let z : count - 0 ≡ count = omega arith in subst (λ (n : ℕ). BreaksAfterHeader names kinds missing n lines number) z b;
}

-- one more state
pub read_more : (names : List (List ℕ)) (kinds : List PortType) (missing count : ℕ) (lines : List NumberedLine) (states new : List (List Value))
    (rest : List NumberedLine) (line : NumberedLine) (after : List NumberedLine) (values : List Value)
    → AreReadTo names kinds missing count lines states rest → length states < count → rest ≡ line ∷ after
    → IsStateLine names kinds line.words values → new ≡ states ++ values ∷ []
    → AreReadTo names kinds missing count lines new after
read_more names kinds missing count lines states new rest line after values h l e s put =
    subst (λ (states : List (List Value)). AreReadTo names kinds missing count lines states after) (sym put) (record {
      most = let n = length-append states (values ∷ []) in omega arith;
      whole = λ more m.
          subst (λ (all : List (List Value)). AreStateLines names kinds all lines) (sym (append_assoc states (values ∷ []) more))
          (h.whole (values ∷ more) (subst (AreStateLines names kinds (values ∷ more)) (sym e) (s, m)));
      broken = λ number b.
          let n = length-append states (values ∷ []) in
          let left : count - length states ≡ suc (count - length (states ++ values ∷ [])) = omega arith in
          h.broken number (subst (λ (ls : List NumberedLine). BreaksAfterHeader names kinds missing (count - length states) ls number) (sym e)
          (subst (λ (n : ℕ). BreaksAfterHeader names kinds missing n (line ∷ after) number) (sym left) (inr ((values, s), b))));
    })

-- a line that is no state line
pub read_breaks : (names : List (List ℕ)) (kinds : List PortType) (missing count : ℕ) (lines : List NumberedLine) (states : List (List Value))
    (rest : List NumberedLine) (line : NumberedLine) (after : List NumberedLine) (number : ℕ)
    → AreReadTo names kinds missing count lines states rest → length states < count → rest ≡ line ∷ after
    → ((values : List Value) → IsStateLine names kinds line.words values → ⊥) → number ≡ line.number
    → BreaksAfterHeader names kinds missing count lines number
read_breaks names kinds missing count lines states rest line after number h l e none at =
    let left : count - length states ≡ suc (count - length states - 1) = omega arith in
    h.broken number (subst (λ (ls : List NumberedLine). BreaksAfterHeader names kinds missing (count - length states) ls number) (sym e)
    (subst (λ (n : ℕ). BreaksAfterHeader names kinds missing n (line ∷ after) number) (sym left) (inl ((λ (v, s). none v s), at))))

-- a line that is missing
pub read_misses : (names : List (List ℕ)) (kinds : List PortType) (missing count : ℕ) (lines : List NumberedLine) (states : List (List Value))
    (rest : List NumberedLine) (number : ℕ) → AreReadTo names kinds missing count lines states rest → rest ≡ [] → number ≡ missing
    → BreaksAfterHeader names kinds missing count lines number
read_misses names kinds missing count lines states rest number h e at =
    h.broken number (subst (λ (ls : List NumberedLine). BreaksAfterHeader names kinds missing (count - length states) ls number) (sym e) at)

-- the end of a block says nothing of ports
end_of : (names : List (List ℕ)) (kinds : List PortType) (lines : List NumberedLine) → IsBlockEnd lines → AreStateLines names kinds [] lines
end_of names kinds [] h = h
end_of names kinds (line ∷ []) h = h
end_of names kinds (line ∷ more ∷ rest) h = h

break_of : (names : List (List ℕ)) (kinds : List PortType) (missing : ℕ) (lines : List NumberedLine) (number : ℕ) → EndBreaks missing lines number
    → BreaksAfterHeader names kinds missing 0 lines number
break_of names kinds missing [] number h = h
break_of names kinds missing (line ∷ rest) number h = h

-- all states are read, and the line `end`
pub read_whole_block : (names : List (List ℕ)) (kinds : List PortType) (missing count : ℕ) (lines : List NumberedLine) (states : List (List Value))
    (rest : List NumberedLine) → AreReadTo names kinds missing count lines states rest → IsBlockEnd rest → AreStateLines names kinds states lines
read_whole_block names kinds missing count lines states rest h e =
    subst (λ (all : List (List Value)). AreStateLines names kinds all lines) (append-nil states) (h.whole [] (end_of names kinds rest e))

-- all states are read, and the lines break after them
pub read_breaks_at_end : (names : List (List ℕ)) (kinds : List PortType) (missing count : ℕ) (lines : List NumberedLine) (states : List (List Value))
    (rest : List NumberedLine) (number : ℕ) → AreReadTo names kinds missing count lines states rest → length states ≡ count
    → EndBreaks missing rest number → BreaksAfterHeader names kinds missing count lines number
read_breaks_at_end names kinds missing count lines states rest number h all b =
    let z : count - length states ≡ 0 = omega arith in
    h.broken number (subst (λ (n : ℕ). BreaksAfterHeader names kinds missing n rest number) (sym z) (break_of names kinds missing rest number b))

-- the line `end`
pub end_missing : (missing : ℕ) (lines : List NumberedLine) (number : ℕ) → lines ≡ [] → number ≡ missing → EndBreaks missing lines number
end_missing missing lines number e at = subst (λ (ls : List NumberedLine). EndBreaks missing ls number) (sym e) at

pub end_breaks : (missing : ℕ) (lines : List NumberedLine) (line : NumberedLine) (after : List NumberedLine) (number : ℕ) → lines ≡ line ∷ after
    → (IsBlockEnd (line ∷ []) → ⊥) → number ≡ line.number → EndBreaks missing lines number
end_breaks missing lines line after number e no_end at =
    subst (λ (ls : List NumberedLine). EndBreaks missing ls number) (sym e) (inl (no_end, at))

pub more_breaks : (missing : ℕ) (lines : List NumberedLine) (line : NumberedLine) (after : List NumberedLine) (more : NumberedLine)
    (rest : List NumberedLine) (number : ℕ) → lines ≡ line ∷ after → IsBlockEnd (line ∷ []) → after ≡ more ∷ rest → number ≡ more.number
    → EndBreaks missing lines number
more_breaks missing lines line after more rest number e ended f at =
    subst (λ (ls : List NumberedLine). EndBreaks missing ls number) (sym (e ∙ ap (λ ls. line ∷ ls) f)) (inr (ended, at))

pub end_whole : (lines : List NumberedLine) (line : NumberedLine) (after : List NumberedLine) → lines ≡ line ∷ after → IsBlockEnd (line ∷ [])
    → after ≡ [] → IsBlockEnd lines
end_whole lines line after e ended f = subst IsBlockEnd (sym (e ∙ ap (λ ls. line ∷ ls) f)) ended
