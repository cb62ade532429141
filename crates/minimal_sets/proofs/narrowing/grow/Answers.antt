use Rattle.std.proofs.Common.{◌≡◌, ◌≤◌, ◌+◌, ℕ, arith, subst, sym}
use Rattle.std.proofs.lemmas.Bool.{iff_false}
use Rattle.port_types.specs.declared.sets.Set24.{Set24}
use Rattle.minimal_sets.specs.Searches.{IsGrown}
use Rattle.minimal_sets.proofs.PlaceByPlace.{grown_start, grown_with, grown_more, grown_kept, grown_whole}
use Rattle.minimal_sets.proofs.Cursors.{same_then}
use Rattle.minimal_sets.proofs.narrowing.grow.Goals as goal
use Rattle.minimal_sets.proofs.narrowing.grow.Goals.{then-not-has+in_ok-holds+then-not-branch, then-not-has+in_ok-holds+else-not-branch, else-not-has}

pub loop-place-init : goal.loop-place-init
loop-place-init g c = record {
  grown = grown_start c.args.n (g.T.Test.family c.args.test.now) c.args.set c.requires.below c.requires.outside;
  same = λ s. (λ member. member, λ member. member);
  steps = omega arith;
}

pub loop-place-preserved : goal.loop-place-preserved
loop-place-preserved g c =
    let F : Set24 → Type 0 = g.T.Test.family c.args.test.now in
    record {
      grown = elim c.if-not-has.branch [
        | then-not-has+in_ok-holds+then-not-branch w ↦ rw w.outside-is (
            grown_more c.args.n F c.args.set c.loop-place.outside w.with-larger.result c.loop-place.place c.loop-place-test.true
            w.with-larger.ensures
            (λ member. iff_false w.in_ok-holds.ensures.answer w.if-not-branch.true
            ((c.loop-place.invariant.same w.with-larger.result).1 member))
            c.loop-place.invariant.grown
            )
        | then-not-has+in_ok-holds+else-not-branch w ↦ rw w.outside-is (
            grown_kept c.args.n F (g.met.T.Test.upward c.args.test.now) c.args.set c.loop-place.outside w.with-larger.result
            c.loop-place.place w.with-larger.ensures
            ((c.loop-place.invariant.same w.with-larger.result).0 (w.in_ok-holds.ensures.answer.0 w.if-not-branch.false))
            c.loop-place.invariant.grown
            )
        | else-not-has w ↦ rw w.outside-is (
            grown_with c.args.n F c.args.set c.loop-place.outside c.loop-place.place (c.has.ensures.0 w.if-not-has.false)
            c.loop-place.invariant.grown
            )
      ];
      same = elim c.if-not-has.branch [
        | then-not-has+in_ok-holds+then-not-branch w ↦ rw w.test-is (
            same_then (g.T.Test.family w.holds.new.self) (g.T.Test.family c.loop-place.test) F w.holds.ensures.same c.loop-place.invariant.same
            )
        | then-not-has+in_ok-holds+else-not-branch w ↦ rw w.test-is (
            same_then (g.T.Test.family w.holds.new.self) (g.T.Test.family c.loop-place.test) F w.holds.ensures.same c.loop-place.invariant.same
            )
        | else-not-has w ↦ rw w.test-is c.loop-place.invariant.same
      ];
      steps = elim c.if-not-has.branch [
        | then-not-has+in_ok-holds+then-not-branch w ↦ omega (arith, w.holds.ensures.step, c.loop-place.invariant.steps, w.steps-is)
        | then-not-has+in_ok-holds+else-not-branch w ↦ omega (arith, w.holds.ensures.step, c.loop-place.invariant.steps, w.steps-is)
        | else-not-has w ↦ omega (arith, c.loop-place.invariant.steps, w.steps-is)
      ];
    }

pub returns-in_err-holds-clause-same : goal.returns-in_err-holds-clause-same
returns-in_err-holds-clause-same g c = λ s. (
  λ member. (c.loop-place.invariant.same s).0 ((c.holds.ensures.same s).0 member),
  λ member. (c.holds.ensures.same s).1 ((c.loop-place.invariant.same s).1 member),
)

pub returns-in_err-holds-clause-steps : goal.returns-in_err-holds-clause-steps
returns-in_err-holds-clause-steps g c = omega (arith, c.holds.ensures.step, c.loop-place.invariant.steps)

pub returns-clause-maximal : goal.returns-clause-maximal
returns-clause-maximal g c =
    let e : c.loop-place.place ≡ c.args.n = omega arith in
    grown_whole c.args.n (g.T.Test.family c.args.test.now) c.sets_by_members.ensures c.args.set c.loop-place.outside
    (subst (IsGrown c.args.n (g.T.Test.family c.args.test.now) c.args.set c.loop-place.outside) e c.loop-place.invariant.grown)

pub returns-clause-superset : goal.returns-clause-superset
returns-clause-superset g c = c.loop-place.invariant.grown.superset

pub returns-clause-same : goal.returns-clause-same
returns-clause-same g c = c.loop-place.invariant.same

pub returns-clause-steps : goal.returns-clause-steps
returns-clause-steps g c = omega (arith, c.loop-place.invariant.steps)
