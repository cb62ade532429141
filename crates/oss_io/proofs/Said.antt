-- What one write, or two after each other, make of a line.
use Rattle.std.proofs.Common.{◌≡◌, ℕ, ◌+◌, ◌-◌, ◌^◌, ◌≤◌, ◌∙◌, min, List, ◌++◌, Option, Result, Ok, Err, OnOk, OnErr, length, take, subst, sym, arith}
use Rattle.std.proofs.lemmas.List.{take_all, take-append-le, take_min}
use Rattle.std.proofs.Math.Seq.{take-append-add}
use Rattle.std.proofs.KnownBytes.{Appends-trans}
use Rattle.std.specs.Io.KnownBytes.{Appends}
use Rattle.oss_io.specs.Outside.{AppendsFront, HasCause, Rose, Says}

-- the whole is a front
front_from_whole : (a b : Option (List ℕ)) (line : List ℕ) → Appends a b line → AppendsFront a b line
front_from_whole a b line h = (length line, subst (Appends a b) (sym (take_all (length line) line (omega arith))) h)

-- a front of the first part is one of both
front_of_first : (a b : Option (List ℕ)) (first second : List ℕ) → AppendsFront a b first
    → AppendsFront a b (first ++ second)
front_of_first a b first second h =
    let n = min h.0 (length first) in
    (n, subst (Appends a b) (sym (fewer h.0 first second)) h.1)
  where
    fewer : (k : ℕ) (first second : List ℕ) → take (min k (length first)) (first ++ second) ≡ take k first
    fewer k first second = take-append-le (min k (length first)) first second (omega arith) ∙ take_min k first

-- the first part, and then a front of the second
front_of_both : (a b c : Option (List ℕ)) (first second : List ℕ) → Appends a b first → AppendsFront b c second
    → AppendsFront a c (first ++ second)
front_of_both a b c first second h k =
    (length first + k.0, subst (Appends a c) (sym (take-append-add first second k.0)) (Appends-trans a b c first (take k.0 second) h k.1))

pub says_one : {T E : Type 0} (r : Result T E) (a b : Option (List ℕ)) (before now : ℕ) (line : List ℕ)
    → OnOk r (Appends a b line) → OnErr r (AppendsFront a b line) → HasCause before now r → Says a b before now line
says_one (Ok x) a b before now line whole front cause =
    record { front = front_from_whole a b line whole; whole = λ quiet. whole; later = cause.later }
says_one (Err e) a b before now line whole front cause =
    record { front = front; whole = λ quiet. absurd (quiet cause.failed); later = cause.later }

-- the first write failed
pub says_first : (a b : Option (List ℕ)) (before now : ℕ) (first second : List ℕ)
    → AppendsFront a b first → Rose before now → before ≤ now → Says a b before now (first ++ second)
says_first a b before now first second front rose later =
    record { front = front_of_first a b first second front; whole = λ quiet. absurd (quiet rose); later = later }

-- the first write was whole, and this is what came of the second
pub says_two : (a b c : Option (List ℕ)) (before mid now : ℕ) (first second : List ℕ)
    → Appends a b first → before ≤ mid → Says b c mid now second → Says a c before now (first ++ second)
says_two a b c before mid now first second one before_mid two =
    let later : before ≤ now = omega (arith, two.later) in
    let up : Rose mid now → Rose before now = λ rose. rises before mid now before_mid rose in
    record {
      front = front_of_both a b c first second one two.front;
      whole = λ quiet. Appends-trans a b c first second one (two.whole (λ rose. quiet (up rose)));
      later = later;
    }
  where
    rises : (before mid now : ℕ) → before ≤ mid → Rose mid now → Rose before now
    rises before mid now h k = (omega (arith, k.0), λ same. omega (arith, k.0, k.1 (omega (arith, k.0))))
