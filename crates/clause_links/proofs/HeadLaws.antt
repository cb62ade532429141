-- The heads of the lists, before and after a change of one.
use Rattle.std.proofs.Common.{◌≡◌, ◌≢◌, ◌<◌, ◌+◌, ◌⊎◌, ℕ, Bool, true, false, List, [], ◌∷◌, length, get_or, set, Option, Some, None, refl, sym, ◌∙◌, ap}
use Rattle.std.proofs.Common.{subst, inl, inr, arith, length-set}
use Rattle.std.proofs.lemmas.Bool.{cases_eq}
use Rattle.std.proofs.lemmas.List.{get_or-set_same, get_or-set_other}
use Rattle.cnf.specs.declared.lit.Lit.{Lit}
use Rattle.clause_links.specs.declared.records.Heads.{Heads}
use Rattle.clause_links.specs.Records.{no_heads, head_of, head_at, with_head, with_list_head}

same_sign : (h : Heads) (sign : Bool) (x : Option ℕ) → head_of (with_head h sign x) sign ≡ x
same_sign h true x = refl
same_sign h false x = refl

other_sign : (h : Heads) (sign other : Bool) (x : Option ℕ) → other ≢ sign → head_of (with_head h sign x) other
    ≡ head_of h other
other_sign h true true x n = absurd (n refl)
other_sign h true false x n = refl
other_sign h false true x n = refl
other_sign h false false x n = absurd (n refl)

pub head-with_list_head : (heads : List Heads) (lit : Lit) (x : Option ℕ) → lit.var < length heads
    → head_at (with_list_head heads lit x) lit ≡ x
head-with_list_head heads lit x within =
    ap (λ (h : Heads). head_of h lit.positive) (get_or-set_same heads lit.var (with_head (get_or heads lit.var no_heads) lit.positive x) no_heads within)
    ∙ same_sign (get_or heads lit.var no_heads) lit.positive x

pub head-with_list_head_other : (heads : List Heads) (lit : Lit) (x : Option ℕ) (other : Lit) → lit.var < length heads
    → other ≢ lit → head_at (with_list_head heads lit x) other ≡ head_at heads other
head-with_list_head_other heads lit x other within unlike =
    let new : Heads = with_head (get_or heads lit.var no_heads) lit.positive x in
    elim (cases_eq lit.var other.var) [
      | inl e ↦
          let here : get_or (set heads lit.var new) other.var no_heads ≡ new =
          subst (λ (v : ℕ). get_or (set heads lit.var new) v no_heads ≡ new) e (get_or-set_same heads lit.var new no_heads within) in
          let sign : other.positive ≢ lit.positive = λ q. unlike (λ i. record { var = sym e i; positive = q i }) in
          ap (λ (h : Heads). head_of h other.positive) here
          ∙ other_sign (get_or heads lit.var no_heads) lit.positive other.positive x sign
          ∙ ap (λ (v : ℕ). head_of (get_or heads v no_heads) other.positive) e
      | inr n ↦ ap (λ (h : Heads). head_of h other.positive) (get_or-set_other heads lit.var other.var new no_heads (λ q. n (sym q)))
    ]

pub length-with_list_head : (heads : List Heads) (lit : Lit) (x : Option ℕ)
    → length (with_list_head heads lit x) ≡ length heads
length-with_list_head heads lit x = length-set heads lit.var (with_head (get_or heads lit.var no_heads) lit.positive x)

pub no_head : (sign : Bool) → head_of no_heads sign ≡ None
no_head true = refl
no_head false = refl
