-- The words of entries, as they are read.
use Rattle.std.proofs.Common.{◌≡◌, ℕ, ◌+◌, ◌<◌, ◌≤◌, Bool, true, false, List, ◌∷◌, sym, ap, ◌∙◌, arith, decimal}
use Rattle.std.proofs.Common.{Option, Some, None, IfSome, IfNone, if◌then◌else◌}
use Rattle.std.proofs.lemmas.Fmt.{decimal_injective, decimal_digit}
use Rattle.cnf.specs.declared.lit.Lit.{Lit}
use Rattle.dimacs.specs.declared.entries.Entry.{Entry}
use Rattle.dimacs.specs.declared.entries.Entry.TheVariants as entries
use Rattle.dimacs.specs.Dimacs.{literal_word, clause_end, most_of_kind}
use Rattle.dimacs.specs.DimacsReading.{entry_word, IsEntryBelow}
use Rattle.dimacs.proofs.PrintedNumbers.{decimal_no_minus}

zero_word : decimal 0 ≡ clause_end
zero_word = decimal_digit 0 (omega arith)

tail_of : (a b : ℕ) (xs ys : List ℕ) → a ∷ xs ≡ b ∷ ys → xs ≡ ys
tail_of a b xs ys e = cc

-- a number that is written behind a minus
pub record IsMinusNumber (digits : List ℕ) : Type 0 where
  pub number : ℕ
  pub some : 0 < number
  pub most : number ≤ most_of_kind
  pub written : digits ≡ decimal number

minus_by : (sign : Bool) (var : ℕ) (digits : List ℕ) → var < most_of_kind
    → 45 ∷ digits ≡ (if sign then decimal (var + 1) else 45 ∷ decimal (var + 1)) → IsMinusNumber digits
minus_by true var digits h e = absurd (decimal_no_minus (var + 1) digits (omega arith) e)
minus_by false var digits h e =
    record { number = var + 1; some = omega arith; most = omega arith; written = tail_of 45 45 digits (decimal (var + 1)) e }

minus_entry : (digits : List ℕ) (entry : Entry) → IsEntryBelow most_of_kind entry → 45 ∷ digits ≡ entry_word entry → IsMinusNumber digits
minus_entry digits entries.End h e = absurd (decimal_no_minus 0 digits (omega arith) (e ∙ sym zero_word))
minus_entry digits (entries.Of lit) h e = minus_by lit.positive lit.var digits h e

-- behind a minus stand no digits of a number
pub no_minus_number : (digits : List ℕ) → ((n : ℕ) → n ≤ most_of_kind → digits ≡ decimal n → ⊥)
    → (entry : Entry) → IsEntryBelow most_of_kind entry → 45 ∷ digits ≡ entry_word entry → ⊥
no_minus_number digits none entry h e = let m = minus_entry digits entry h e in none m.number m.most m.written

pub minus_some : (found : Option Lit) (digits : List ℕ) (n : ℕ) → IfSome found (λ lit. n ≡ lit.var + 1)
    → IfSome found (λ lit. lit.positive ≡ false) → digits ≡ decimal n → IfSome found (λ lit. 45 ∷ digits ≡ literal_word lit)
minus_some None digits n v s d = tt
minus_some (Some lit) digits n v s d = rw s (ap (λ (ds : List ℕ). 45 ∷ ds) (d ∙ ap decimal v))

pub literal_small : (found : Option Lit) (n : ℕ) → IfSome found (λ lit. n ≡ lit.var + 1) → n ≤ most_of_kind
    → IfSome found (λ lit. lit.var < most_of_kind)
literal_small None n v h = tt
literal_small (Some lit) n v h = let same : n ≡ lit.var + 1 = v in omega arith

-- a minus before 0
pub minus_none : (found : Option Lit) (digits : List ℕ) (n : ℕ) → IfNone found (n ≡ 0) → digits ≡ decimal n
    → IfNone found ((entry : Entry) → IsEntryBelow most_of_kind entry → 45 ∷ digits ≡ entry_word entry → ⊥)
minus_none (Some lit) digits n z d = tt
minus_none None digits n z d = λ entry h e.
    let m = minus_entry digits entry h e in
    let most : m.number ≤ most_of_kind = m.most in
    let some : 0 < m.number = m.some in
    let same : 0 ≡ m.number = decimal_injective 0 m.number (omega arith) (omega arith) (sym (ap decimal z) ∙ (sym d ∙ m.written)) in
    absurd (omega arith)

-- a word without a minus
pub plain_literal : (word : List ℕ) (lit : Lit) (n : ℕ) → word ≡ decimal n → n ≡ lit.var + 1 → lit.positive ≡ true
    → word ≡ literal_word lit
plain_literal word lit n d v s = rw s (d ∙ ap decimal v)

pub plain_end : (word : List ℕ) (n : ℕ) → word ≡ decimal n → n ≡ 0 → word ≡ clause_end
plain_end word n d z = d ∙ (ap decimal z ∙ zero_word)

plain_by : (sign : Bool) (var : ℕ) (word : List ℕ) → ((digits : List ℕ) → word ≡ 45 ∷ digits → ⊥)
    → ((n : ℕ) → n ≤ most_of_kind → word ≡ decimal n → ⊥) → var < most_of_kind
    → word ≡ (if sign then decimal (var + 1) else 45 ∷ decimal (var + 1)) → ⊥
plain_by true var word plain none h e = none (var + 1) (omega arith) e
plain_by false var word plain none h e = plain (decimal (var + 1)) e

pub plain_none : (word : List ℕ) → ((digits : List ℕ) → word ≡ 45 ∷ digits → ⊥)
    → ((n : ℕ) → n ≤ most_of_kind → word ≡ decimal n → ⊥)
    → (entry : Entry) → IsEntryBelow most_of_kind entry → word ≡ entry_word entry → ⊥
plain_none word plain none entries.End h e = none 0 (omega arith) (e ∙ sym zero_word)
plain_none word plain none (entries.Of lit) h e = plain_by lit.positive lit.var word plain none h e

pub below_more : (n m : ℕ) (entry : Entry) → n ≤ m → IsEntryBelow n entry → IsEntryBelow m entry
below_more n m entries.End h b = tt
below_more n m (entries.Of lit) h b = omega arith

pub entry_along : (found : Option Entry) (word other : List ℕ) → word ≡ other → IfSome found (λ entry. other ≡ entry_word entry)
    → IfSome found (λ entry. word ≡ entry_word entry)
entry_along None word other same h = tt
entry_along (Some entry) word other same h = same ∙ h

pub none_along : (found : Option Entry) (word other : List ℕ) → word ≡ other
    → IfNone found ((entry : Entry) → IsEntryBelow most_of_kind entry → other ≡ entry_word entry → ⊥)
    → IfNone found ((entry : Entry) → IsEntryBelow most_of_kind entry → word ≡ entry_word entry → ⊥)
none_along (Some entry) word other same h = tt
none_along None word other same h = λ entry below e. h entry below (sym same ∙ e)
