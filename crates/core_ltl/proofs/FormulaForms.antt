-- What a formula means, at the forms that the walk tells apart.
use Rattle.std.proofs.Common.{◌≡◌, sym, ap, ◌∙◌}
use Rattle.typed_ltl.specs.declared.formula.Formula.{Formula}
use Rattle.typed_ltl.specs.declared.formula.Formula.TheFolds.{fold-roll-Formula}
use Rattle.typed_ltl.specs.declared.formula.Formula.TheOpen.{Formula-F}
use Rattle.typed_ltl.specs.declared.formula.Formula.TheVariants as variant
use Rattle.typed_ltl.specs.declared.formula.Formula.TheVariants.{rolls-Or, rolls-Implies, rolls-Iff, rolls-Until, rolls-Releases, rolls-Future}
use Rattle.typed_ltl.specs.declared.formula.Formula.TheVariants.{rolls-Always, rolls-Never}
use Rattle.typed_ltl.specs.Formulas as form
use Rattle.typed_ltl.specs.Formulas.{Ltl, ltl_node, meaning}

pub Or_is : (x f g a b : Formula) → x ≡ variant.Or f g → a ≡ f → b ≡ g → meaning x ≡ form.Or (meaning a) (meaning b)
Or_is x f g a b e h k =
    ap meaning (e ∙ sym (rolls-Or f g))
    ∙ (fold-roll-Formula Ltl ltl_node (Formula-F.Or f g) ∙ (λ j. form.Or (meaning (sym h j)) (meaning (sym k j))))

pub Implies_is : (x f g a b : Formula) → x ≡ variant.Implies f g → a ≡ f → b ≡ g
    → meaning x ≡ form.Implies (meaning a) (meaning b)
Implies_is x f g a b e h k =
    ap meaning (e ∙ sym (rolls-Implies f g))
    ∙ (fold-roll-Formula Ltl ltl_node (Formula-F.Implies f g) ∙ (λ j. form.Implies (meaning (sym h j)) (meaning (sym k j))))

pub Iff_is : (x f g a b : Formula) → x ≡ variant.Iff f g → a ≡ f → b ≡ g → meaning x ≡ form.Iff (meaning a) (meaning b)
Iff_is x f g a b e h k =
    ap meaning (e ∙ sym (rolls-Iff f g))
    ∙ (fold-roll-Formula Ltl ltl_node (Formula-F.Iff f g) ∙ (λ j. form.Iff (meaning (sym h j)) (meaning (sym k j))))

pub Until_is : (x f g a b : Formula) → x ≡ variant.Until f g → a ≡ f → b ≡ g
    → meaning x ≡ form.Until (meaning a) (meaning b)
Until_is x f g a b e h k =
    ap meaning (e ∙ sym (rolls-Until f g))
    ∙ (fold-roll-Formula Ltl ltl_node (Formula-F.Until f g) ∙ (λ j. form.Until (meaning (sym h j)) (meaning (sym k j))))

pub Releases_is : (x f g a b : Formula) → x ≡ variant.Releases f g → a ≡ f → b ≡ g
    → meaning x ≡ form.Releases (meaning a) (meaning b)
Releases_is x f g a b e h k =
    ap meaning (e ∙ sym (rolls-Releases f g))
    ∙ (fold-roll-Formula Ltl ltl_node (Formula-F.Releases f g) ∙ (λ j. form.Releases (meaning (sym h j)) (meaning (sym k j))))

pub Future_is : (x f a : Formula) → x ≡ variant.Future f → a ≡ f → meaning x ≡ form.Future (meaning a)
Future_is x f a e h =
    ap meaning (e ∙ sym (rolls-Future f))
    ∙ (fold-roll-Formula Ltl ltl_node (Formula-F.Future f) ∙ (λ j. form.Future (meaning (sym h j))))

pub Always_is : (x f a : Formula) → x ≡ variant.Always f → a ≡ f → meaning x ≡ form.Always (meaning a)
Always_is x f a e h =
    ap meaning (e ∙ sym (rolls-Always f))
    ∙ (fold-roll-Formula Ltl ltl_node (Formula-F.Always f) ∙ (λ j. form.Always (meaning (sym h j))))

pub Never_is : (x f a : Formula) → x ≡ variant.Never f → a ≡ f → meaning x ≡ form.Never (meaning a)
Never_is x f a e h =
    ap meaning (e ∙ sym (rolls-Never f))
    ∙ (fold-roll-Formula Ltl ltl_node (Formula-F.Never f) ∙ (λ j. form.Never (meaning (sym h j))))
