use Rattle.std.proofs.Common.{◌<◌, ◌+◌, get_or, take, length, subst, sym, refl, arith, ◌∙◌, ap, List}
use Rattle.std.proofs.lemmas.List.{take_all}
use Rattle.std.proofs.lemmas.Bool.{false≢true}
use Rattle.cnf.specs.declared.lit.Lit.{Lit}
use Rattle.sat_core.specs.Search.{IsWithout}
use Rattle.sat_core.proofs.Members.{any_lit, self_read, without-keep, without-drop}
use Rattle.sat_core.proofs.chain.without.Goals as goal
use Rattle.sat_core.proofs.chain.without.Goals.{then-not-same+in_ok-push, else-not-same}

pub loop-other-preserved : goal.loop-other-preserved
loop-other-preserved c =
    let xs = c.args.lits.now in
    let i = c.loop-other.other-index in
    let x = get_or xs i any_lit in
    let h : i < length xs = omega arith in
    elim c.if-not-same.branch [
      | then-not-same+in_ok-push w ↦
          subst (λ (l : List Lit). IsWithout (take (i + 1) xs) c.args.lit l) (sym (ap (λ v. v.items) w.rest-is ∙ w.in_ok-push.ensures.items))
          (without-keep xs i x h (self_read xs i h) c.args.lit c.loop-other.rest.items (λ q. false≢true (w.if-not-same.ensures.1 q)) c.loop-other.invariant)
      | else-not-same w ↦
          subst (λ (l : List Lit). IsWithout (take (i + 1) xs) c.args.lit l) (sym (ap (λ v. v.items) w.rest-is))
          (without-drop xs i x h (self_read xs i h) c.args.lit c.loop-other.rest.items (w.if-not-same.ensures.0 refl) c.loop-other.invariant)
    ]

pub returns : goal.returns
returns c = subst (λ l. IsWithout l c.args.lit c.loop-other.rest.items)
    (take_all c.loop-other.other-index c.args.lits.now (omega arith)) c.loop-other.invariant
