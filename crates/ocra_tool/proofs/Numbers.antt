-- The number that a word is.
use Rattle.std.specs.Prelude.{cond, find, bytes_eq, decimal}
use Rattle.std.specs.List.{range_with_len}
use Rattle.std.specs.Str.Parse.{ParsesUnsigned}
use Rattle.std.proofs.Common.{◌≡◌, ℕ, zero, suc, ◌+◌, ◌<◌, ◌≤◌, ◌^◌, Bool, true, false, true≢false, List, Option, Some, None, Result, Ok, Err}
use Rattle.std.proofs.Common.{refl, sym, ap, ◌∙◌, arith}
use Rattle.std.proofs.lemmas.Fmt.{decimal_injective, parse-decimal}
use Rattle.std.proofs.lemmas.Slice.Eq.{bytes_eq-Decides}
use Rattle.ocra_tool.specs.Words.{number_up_to}

abbrev pub among : List ℕ → ℕ → ℕ → Option ℕ
among word a k = find (λ n. bytes_eq word (decimal n)) (range_with_len a k)

here : (word : List ℕ) (a k : ℕ) (t : Bool) → bytes_eq word (decimal a) ≡ t
    → among word a (suc k) ≡ cond t (Some a) (among word (a + 1) k)
here word a k t e = ap (λ (b : Bool). cond b (Some a) (among word (a + 1) k)) e

-- the number of the word is another
is_later : (word : List ℕ) (a n : ℕ) → a ≤ n → word ≡ decimal n → bytes_eq word (decimal a) ≡ false → a + 1 ≤ n
is_later word a n low e t =
    let other : a ≡ n → ⊥ = λ same. true≢false (sym ((bytes_eq-Decides word (decimal a)).1 (e ∙ ap decimal (sym same))) ∙ t) in
    omega arith

found_by : (word : List ℕ) (k a n : ℕ) (t : Bool) → a ≤ n → n < a + suc k → a + suc k ≤ 2 ^ 64 → word ≡ decimal n
    → bytes_eq word (decimal a) ≡ t → (a + 1 ≤ n → among word (a + 1) k ≡ Some n) → among word a (suc k) ≡ Some n
found_by word k a n true low high small e t rest =
    here word a k true t
    ∙ ap Some (decimal_injective a n (omega arith) (omega arith) (sym ((bytes_eq-Decides word (decimal a)).0 t) ∙ e))
found_by word k a n false low high small e t rest = here word a k false t ∙ rest (is_later word a n low e t)

found : (word : List ℕ) (k a n : ℕ) → a ≤ n → n < a + k → a + k ≤ 2 ^ 64 → word ≡ decimal n → among word a k ≡ Some n
found word zero a n low high small e = absurd (omega arith)
found word (suc k) a n low high small e =
    found_by word k a n (bytes_eq word (decimal a)) low high small e refl
    (λ l. found word k (a + 1) n l (omega arith) (omega arith) e)

none_by : (word : List ℕ) (k a : ℕ) (t : Bool) → ((n : ℕ) → a ≤ n → n < a + suc k → word ≡ decimal n → ⊥)
    → bytes_eq word (decimal a) ≡ t → among word (a + 1) k ≡ None → among word a (suc k) ≡ None
none_by word k a true never t rest = absurd (never a (omega arith) (omega arith) ((bytes_eq-Decides word (decimal a)).0 t))
none_by word k a false never t rest = here word a k false t ∙ rest

none_found : (word : List ℕ) (k a : ℕ) → ((n : ℕ) → a ≤ n → n < a + k → word ≡ decimal n → ⊥) → among word a k ≡ None
none_found word zero a never = refl
none_found word (suc k) a never =
    none_by word k a (bytes_eq word (decimal a)) never refl
    (none_found word k (a + 1) (λ n low high e. never n (omega arith) (omega arith) e))

pub number_is : (most n : ℕ) (word : List ℕ) → most < 2 ^ 8 → 1 ≤ n → n ≤ most → word ≡ decimal n → Some n ≡ number_up_to most word
unfolding number_up_to
number_is most n word small low high e = sym (found word most 1 n low (omega arith) (omega arith) e)

-- Where a word is no number up to the most, it is parsed as none.

no_number : (most : ℕ) (word : List ℕ) → ((n : ℕ) → 1 ≤ n → n < 1 + most → word ≡ decimal n → ⊥) → None ≡ number_up_to most word
unfolding number_up_to
no_number most word never = sym (none_found word most 1 never)

parsed_as : {E : Type 0} (most n : ℕ) (word : List ℕ) (r : Result ℕ E) → most < 2 ^ 8 → n < 1 + most → word ≡ decimal n
    → ParsesUnsigned 8 10 word r → r ≡ Ok n
parsed_as most n word r small high e parsed = parse-decimal 8 n word r (omega arith) (omega arith) e parsed

pub parsed_no_number : {E : Type 0} (most : ℕ) (word : List ℕ) (r : Result ℕ E) (why : E) → most < 2 ^ 8 → r ≡ Err why
    → ParsesUnsigned 8 10 word r → None ≡ number_up_to most word
parsed_no_number most word r why small failed parsed =
    no_number most word (λ n low high e. let both = sym failed ∙ parsed_as most n word r small high e parsed in cc)

same_ok : (E : Type 0) (m n : ℕ) → ◌≡◌ {A = Result ℕ E} (Ok m) (Ok n) → m ≡ n
same_ok E m n e = cc

pub parsed_another : {E : Type 0} (most m : ℕ) (word : List ℕ) (r : Result ℕ E) → most < 2 ^ 8 → r ≡ Ok m
    → ParsesUnsigned 8 10 word r → (1 ≤ m → m ≤ most → word ≡ decimal m → ⊥) → None ≡ number_up_to most word
parsed_another most m word r small ok parsed never =
    no_number most word (λ n low high e.
    let same : m ≡ n = same_ok _ m n (sym ok ∙ parsed_as most n word r small high e parsed) in
    never (omega arith) (omega arith) (e ∙ ap decimal (sym same)))
