use Rattle.std.proofs.Common.{◌-◌, Option, arith, length, subst}
use Rattle.std.specs.Prelude.{IfSome}
use Rattle.typed_ltl.specs.declared.lasso.Lasso.{Lasso}
use Rattle.cnf.proofs.ModelLaws.{IsConservative_trans}
use Rattle.lasso_search.specs.Loops.{IsLeastLoop}
use Rattle.lasso_search.proofs.FirstPaths.{none_later, best_loop}
use Rattle.lasso_search.proofs.search.search_loops.Goals as goal

pub returns-in_err-found-clause-grows : goal.returns-in_err-found-clause-grows
returns-in_err-found-clause-grows c = IsConservative_trans _ _ _ _ _ _ c.loop-later.invariant.grows c.search_loop.ensures.grows

pub returns-in-Some-clause-grows : goal.returns-in-Some-clause-grows
returns-in-Some-clause-grows c = IsConservative_trans _ _ _ _ _ _ c.loop-later.invariant.grows c.search_loop.ensures.grows

pub returns-in-Some-clause-some : goal.returns-in-Some-clause-some
returns-in-Some-clause-some c =
    best_loop c.args.tab.now c.args.question.now (length c.args.layers.now) c.loop-later.later (length c.args.layers.now - 1 - c.loop-later.later)
    c.in-Some.lasso
    (omega (arith, c.loop-later-test.true))
    (subst (λ (found : Option Lasso). IfSome found (IsLeastLoop c.args.tab.now c.args.question.now (length c.args.layers.now)
    (length c.args.layers.now - 1 - c.loop-later.later))) c.in-Some.is c.in_ok-found.ensures.some) c.loop-later.invariant.none

pub loop-later-preserved : goal.loop-later-preserved
loop-later-preserved c = record {
  path = c.in_ok-found.ensures.path;
  grows = IsConservative_trans _ _ _ _ _ _ c.loop-later.invariant.grows c.search_loop.ensures.grows;
  none = none_later c.args.tab.now c.args.question.now (length c.args.layers.now) c.loop-later.later (length c.args.layers.now - 1 - c.loop-later.later)
      (omega (arith, c.loop-later-test.true)) c.loop-later.invariant.none (c.in_ok-found.ensures.none c.in_default.is);
}

pub returns-clause-none : goal.returns-clause-none
returns-clause-none c = λ e at lt. c.loop-later.invariant.none at (omega (arith, c.loop-later-test.false)) lt
