-- What writes appended and reads took.
use Rattle.std.proofs.Common.{◌≡◌, ℕ, ◌+◌, ◌-◌, ◌<◌, ◌≤◌, min, List, [], ◌++◌, Option, length, take, drop, subst, sym, ap, ◌∙◌, arith, length-drop}
use Rattle.std.proofs.Common.{take-append-drop}
use Rattle.std.proofs.lemmas.List.{take_all, take-append-le, nil_from_length}
use Rattle.std.proofs.Math.Seq.{take-add}
use Rattle.std.proofs.KnownBytes.{Appends-trans}
use Rattle.std.specs.Io.KnownBytes.{Appends}

-- a front of the bytes, and then a front of the rest
pub Appends-front : (old mid new : Option (List ℕ)) (bytes : List ℕ) (at count : ℕ) → Appends old mid (take at bytes)
    → Appends mid new (take count (take (length bytes - at) (drop at bytes)))
    → Appends old new (take (at + count) bytes)
Appends-front old mid new bytes at count first second =
    let rest : take (length bytes - at) (drop at bytes) ≡ drop at bytes = take_all _ _ (omega (arith, length-drop at bytes)) in
    let next = subst (λ (l : List ℕ). Appends mid new (take count l)) rest second in
    subst (Appends old new) (sym (take-add at count bytes)) (Appends-trans old mid new (take at bytes) (take count (drop at bytes)) first next)

-- a part of a buffer was filled with a front of the bytes that were left
pub Consumes-part : (left part rest next : List ℕ) (n room : ℕ) → room ≡ length part → n ≡ min room (length left)
    → take n part ≡ take n left
    → next ≡ drop n left → left ≡ take n (part ++ rest) ++ next
Consumes-part left part rest next n room same count bytes is =
    let within : n ≤ length part = omega (arith, count, same) in
    sym (take-append-drop n left)
    ∙ ap (λ (l : List ℕ). l ++ drop n left) (sym bytes ∙ sym (take-append-le n part rest within))
    ∙ ap (λ (l : List ℕ). take n (part ++ rest) ++ l) (sym is)

-- where there is room and nothing was given, nothing is left
pub nothing_left : (left next : List ℕ) (n room : ℕ) → n ≡ min room (length left) → next ≡ drop n left → n ≡ 0
    → 0 < room → next ≡ []
nothing_left left next n room count is none some = nil_from_length next (omega (arith, count, none, some, ap length is, length-drop n left))
