use Rattle.std.proofs.Common.{◌≡◌, ℕ, ◌+◌, ◌∙◌, List, Option, length, arith, ap, sym, subst}
use Rattle.std.specs.Prelude.{IfSome}
use Rattle.typed_ltl.specs.declared.lasso.Lasso.{Lasso}
use Rattle.lasso_search.specs.Paths.{IsCodedPath}
use Rattle.lasso_search.specs.Loops.{HasNoLoopOf, IsBestLoop}
use Rattle.lasso_search.proofs.Growing.{path_of_none, off_none, off_then, off_kept}
use Rattle.lasso_search.proofs.FirstPaths.{first_of_best, none_up_to, none_longer}
use Rattle.lasso_search.proofs.search.search_paths.Goals as goal

pub returns-in_err-add_layer-clause-grows : goal.returns-in_err-add_layer-clause-grows
returns-in_err-add_layer-clause-grows c =
    off_then c.args.under _ _ _ _ _ _ c.requires.under c.loop-done.invariant.grows c.add_layer.ensures.grows

pub returns-in_err-found-clause-grows : goal.returns-in_err-found-clause-grows
returns-in_err-found-clause-grows c =
    off_then c.args.under _ _ _ _ _ _ c.requires.under
    (off_then c.args.under _ _ _ _ _ _ c.requires.under c.loop-done.invariant.grows c.add_layer.ensures.grows)
    (off_kept _ _ _ _ _ c.search_loops.ensures.grows)

pub returns-in-Some-clause-grows : goal.returns-in-Some-clause-grows
returns-in-Some-clause-grows c =
    off_then c.args.under _ _ _ _ _ _ c.requires.under
    (off_then c.args.under _ _ _ _ _ _ c.requires.under c.loop-done.invariant.grows c.add_layer.ensures.grows)
    (off_kept _ _ _ _ _ c.search_loops.ensures.grows)

pub loop-done-init : goal.loop-done-init
loop-done-init c = record {
  size = ap length c.new-layers.ensures.items;
  path = subst (IsCodedPath c.args.solver.now.vars c.args.solver.now.clauses c.args.tab.now c.args.question.now c.args.under)
      (sym c.new-layers.ensures.items)
      (path_of_none c.args.solver.now.vars c.args.solver.now.clauses c.args.tab.now c.args.question.now c.args.under c.requires.under c.requires.model);
  grows = off_none c.args.under c.args.solver.now.vars c.args.solver.now.clauses;
  none = λ count le at lt. absurd (omega (arith, le, lt));
}

pub loop-done-preserved : goal.loop-done-preserved
loop-done-preserved c =
    let size : length c.add_layer.new.layers.items ≡ c.loop-done.done + 1 =
    c.in_ok-add_layer.ensures.count ∙ ap (λ n. n + 1) c.loop-done.invariant.size in
    record {
      size = size;
      path = subst (IsCodedPath c.search_loops.new.solver.vars c.search_loops.new.solver.clauses c.args.tab.now c.args.question.now c.args.under)
          c.as_slice.ensures.value c.in_ok-found.ensures.path;
      grows = off_then c.args.under _ _ _ _ _ _ c.requires.under
          (off_then c.args.under _ _ _ _ _ _ c.requires.under c.loop-done.invariant.grows c.add_layer.ensures.grows)
          (off_kept _ _ _ _ _ c.search_loops.ensures.grows);
      none = none_longer c.args.tab.now c.args.question.now c.loop-done.done c.loop-done.invariant.none
          (subst (λ (n : ℕ). HasNoLoopOf c.args.tab.now c.args.question.now n) (ap length c.as_slice.ensures.value ∙ size)
          (c.in_ok-found.ensures.none c.in_default.is));
    }

pub returns-in-Some-clause-first : goal.returns-in-Some-clause-first
returns-in-Some-clause-first c =
    let size : length c.as_slice.result.now ≡ c.loop-done.done + 1 =
    ap length c.as_slice.ensures.value ∙ (c.in_ok-add_layer.ensures.count ∙ ap (λ n. n + 1) c.loop-done.invariant.size) in
    let best = subst (λ (found : Option Lasso). IfSome found (IsBestLoop c.args.tab.now c.args.question.now (length c.as_slice.result.now)))
    c.in-Some.is c.in_ok-found.ensures.some in
    first_of_best c.breaking_lassos.ensures c.args.tab.now c.members.ensures.coded.closed c.args.question.now c.requires.question
    (length c.as_slice.result.now) c.args.k (omega (arith, size, c.loop-done-test.true))
    (λ count lt. c.loop-done.invariant.none count (omega (arith, size, lt))) c.in-Some.lasso best

pub returns-clause-first : goal.returns-clause-first
returns-clause-first c =
    none_up_to c.breaking_lassos.ensures c.args.tab.now c.members.ensures.coded.closed c.args.question.now c.requires.question c.args.k
    (λ count le. c.loop-done.invariant.none count (omega (arith, le, c.loop-done-test.false)))
