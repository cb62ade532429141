use Rattle.std.proofs.Common.{◌≡◌, ◌∙◌, true, List, get_or, sym, ap, subst}
use Rattle.std.specs.List.{Contains}
use Rattle.std.proofs.lemmas.Bool.{false≢true}
use Rattle.std.proofs.lemmas.List.{take_all}
use Rattle.cnf.specs.declared.lit.Lit.{Lit}
use Rattle.cnf.specs.Clauses.{opposite}
use Rattle.clause_log.specs.Marks.{mark_of}
use Rattle.clause_log.proofs.Lits.{no_lit}
use Rattle.clause_log.proofs.StepLaws.{pivot_more}
use Rattle.clause_log.proofs.checking.pivot_of.Goals as goal
use Rattle.clause_log.proofs.checking.pivot_of.Goals.{else-lit-var-via-then-lit-var+else-has, else-lit-var-via-else-lit-var}

pub loop-lit-preserved : goal.loop-lit-preserved
loop-lit-preserved c =
    let here : (get_or c.args.clause.now c.loop-lit.lit-index no_lit).var ≡ c.args.var → mark_of c.args.set.now
    (opposite (get_or c.args.clause.now c.loop-lit.lit-index no_lit)) ≡ true → ⊥ =
    elim c.else-lit-var.branch [
      | else-lit-var-via-then-lit-var+else-has w ↦ λ e on. false≢true
          (sym w.if-has.false ∙ w.has.ensures ∙ ap (λ (l : Lit). mark_of c.args.set.now l) c.negated-pivot.ensures ∙ on)
      | else-lit-var-via-else-lit-var w ↦ λ e on. w.if-lit-var.false e
    ] in
    pivot_more c.args.set.now c.args.clause.now c.loop-lit.lit-index c.args.var no_lit c.loop-lit-test.true here c.loop-lit.invariant

pub returns : goal.returns
returns c = λ pivot at on has.
    c.loop-lit.invariant pivot at on (subst (λ (l : List Lit). Contains l (opposite pivot))
    (sym (take_all c.loop-lit.lit-index c.args.clause.now c.loop-lit-test.false)) has)
