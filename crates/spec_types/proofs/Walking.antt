-- Counting and noting go on where they stopped.

use Rattle.std.proofs.Common.{◌≡◌, ℕ, Bool, true, false, not, if◌then◌else◌, List, [], ◌∷◌, ◌++◌, Option, Some, None, append_assoc, refl, sym, ap, ◌∙◌}
use Rattle.std.proofs.lemmas.Bool.{false≢true}
use Rattle.std.proofs.lemmas.List.{append-nil}
use Rattle.port_types.specs.declared.types.PortId.{PortId}
use Rattle.oss_base.specs.declared.sites.FaultSite.{FaultSite}
use Rattle.oss_base.specs.declared.fault.FaultKind.TheVariants as kinds
use Rattle.oss_base.specs.Sites.{goes_before, earlier_site, first_of}
use Rattle.spec_names.specs.Noting.{noted}
use Rattle.oss_base.specs.declared.place.Span.{Span}
use Rattle.oss_syntax.specs.declared.expression.Expr.{Expr}
use Rattle.oss_syntax.specs.declared.expression.Expr.TheOpen.{Expr-F}
use Rattle.oss_syntax.specs.declared.expression.Expr.TheVariants as variant
use Rattle.oss_syntax.specs.declared.expression.Expr.TheVariants.{rolls-Prefix, rolls-Binary}
use Rattle.oss_syntax.specs.declared.expression.Expr.TheFolds.{fold-roll-Expr}
use Rattle.oss_syntax.specs.Expressions.{Tree, Prefix, Binary, tree, node_tree}
use Rattle.oss_syntax.specs.declared.expression.PrefixWord.{PrefixWord}
use Rattle.oss_syntax.specs.declared.expression.BinaryWord.{BinaryWord}
use Rattle.spec_types.specs.Typing.{Typed}
use Rattle.spec_types.specs.TypeFaults.{mismatch_unless, admits_operand, admits_operands}
use Rattle.spec_types.specs.Uses.{count_one, count_each}

pub noted-append : (xs ys : List FaultSite) (first : Option FaultSite)
    → noted (xs ++ ys) first ≡ noted ys (noted xs first)
noted-append [] ys first = refl
noted-append (x ∷ xs) ys first = noted-append xs ys (earlier_site first (Some x))

pub count_each-append : (counts : List (PortId × ℕ)) (xs ys : List ℕ)
    → count_each counts (xs ++ ys) ≡ count_each (count_each counts xs) ys
count_each-append counts [] ys = refl
count_each-append counts (x ∷ xs) ys = count_each-append (count_one counts x) xs ys

pub counts_both : (counts middle after : List (PortId × ℕ)) (xs ys : List ℕ) → middle ≡ count_each counts xs
    → after ≡ count_each middle ys
    → after ≡ count_each counts (xs ++ ys)
counts_both counts middle after xs ys a b = b ∙ (ap (λ c. count_each c ys) a ∙ sym (count_each-append counts xs ys))

pub noted_two : (first middle after : Option FaultSite) (xs ys : List FaultSite) → middle ≡ noted xs first
    → after ≡ noted ys middle
    → after ≡ noted (xs ++ ys) first
noted_two first middle after xs ys a b = b ∙ (ap (noted ys) a ∙ sym (noted-append xs ys first))

pub noted_three : (first middle third after : Option FaultSite) (xs ys zs : List FaultSite) → middle ≡ noted xs first
    → third ≡ noted ys middle
    → after ≡ noted zs third → after ≡ noted (xs ++ (ys ++ zs)) first
noted_three first middle third after xs ys zs a b c = noted_two first middle after xs (ys ++ zs) a (noted_two middle third after ys zs b c)

-- the trees of operators

pub tree-Prefix : (word : PrefixWord) (operand : Expr) (span : Span)
    → tree (variant.Prefix word operand span) ≡ Prefix word (tree operand) span
tree-Prefix word operand span =
    ap tree (sym (rolls-Prefix word operand span)) ∙ fold-roll-Expr Tree node_tree (Expr-F.Prefix word operand span)

pub tree-Binary : (word : BinaryWord) (left right : Expr) (span : Span)
    → tree (variant.Binary word left right span) ≡ Binary word (tree left) (tree right) span
tree-Binary word left right span =
    ap tree (sym (rolls-Binary word left right span))
    ∙ fold-roll-Expr Tree node_tree (Expr-F.Binary word left right span)

-- an operator notes what its operands note, and then whether they fit

pub noted_prefix : (word : PrefixWord) (t s : Typed) (offset : ℕ) (xs : List FaultSite)
    (first middle after : Option FaultSite) → t ≡ s → middle ≡ noted xs first
    → after ≡ noted (mismatch_unless (admits_operand word t) offset) middle
    → after ≡ noted (xs ++ mismatch_unless (admits_operand word s) offset) first
noted_prefix word t s offset xs first middle after is a b =
    noted_two first middle after xs (mismatch_unless (admits_operand word s) offset) a
    (b ∙ ap (λ (u : Typed). noted (mismatch_unless (admits_operand word u) offset) middle) is)

pub record BothAre (a b c d : Typed) : Type 0 where
  pub left : a ≡ b
  pub right : c ≡ d

pub noted_binary : (word : BinaryWord) (a b c d : Typed) (offset : ℕ) (xs ys : List FaultSite)
    (first middle third after : Option FaultSite) → BothAre a b c d
    → middle ≡ noted xs first → third ≡ noted ys middle
    → after ≡ noted (mismatch_unless (admits_operands word a c) offset) third
    → after ≡ noted (xs ++ (ys ++ mismatch_unless (admits_operands word b d) offset)) first
noted_binary word a b c d offset xs ys first middle third after are m t n =
    noted_three first middle third after xs ys (mismatch_unless (admits_operands word b d) offset) m t
    (n ∙ (λ j. noted (mismatch_unless (admits_operands word (are.left j) (are.right j)) offset) third))

-- a mismatch that goes before no known fault changes nothing

abbrev mismatch_at : ℕ → FaultSite
mismatch_at offset = record { kind = kinds.F16; offset = offset }

pub settled : (first : Option FaultSite) (site : FaultSite) (offset : ℕ) → first ≡ Some site
    → not (goes_before (mismatch_at offset) site) ≡ true
    → (fits : Bool) → first ≡ noted (mismatch_unless fits offset) first
settled first site offset is late true = refl
settled first site offset is late false =
    is
    ∙ (by (goes_before (mismatch_at offset) site) late ∙ ap (λ f. earlier_site f (Some (mismatch_at offset))) (sym is)) where
      by : (b : Bool) → not b ≡ true → Some site ≡ Some (if b then mismatch_at offset else site)
      by true h = absurd (false≢true h)
      by false h = refl

-- what was noted is the first of the list

noted_after : ((a b : List FaultSite) → first_of (a ++ b) ≡ earlier_site (first_of a) (first_of b))
    → (ys xs : List FaultSite)
    → noted xs (first_of ys) ≡ first_of (ys ++ xs)
noted_after law ys [] = ap first_of (sym (append-nil ys))
noted_after law ys (x ∷ xs) =
    ap (noted xs) (sym (law ys (x ∷ []))) ∙ (noted_after law (ys ++ x ∷ []) xs ∙ ap first_of (append_assoc ys (x ∷ []) xs))

pub noted_first : ((a b : List FaultSite) → first_of (a ++ b) ≡ earlier_site (first_of a) (first_of b))
    → (xs : List FaultSite) → noted xs None ≡ first_of xs
noted_first law xs = noted_after law [] xs

pub ruleset walk_lemmas = (counts_both, noted_two, noted_three)
