use Rattle.std.proofs.Common.{◌≡◌, ◌≤◌, ◌+◌, ℕ, arith, subst, sym}
use Rattle.std.proofs.lemmas.Bool.{iff_false}
use Rattle.port_types.specs.declared.sets.Set24.{Set24}
use Rattle.minimal_sets.specs.Searches.{IsShrunk}
use Rattle.minimal_sets.proofs.PlaceByPlace.{shrunk_start, shrunk_without, shrunk_less, shrunk_kept, shrunk_whole}
use Rattle.minimal_sets.proofs.Cursors.{same_then}
use Rattle.minimal_sets.proofs.narrowing.shrink.Goals as goal
use Rattle.minimal_sets.proofs.narrowing.shrink.Goals.{then-has+in_ok-holds+then-branch, then-has+in_ok-holds+else-branch, else-has}

pub loop-place-init : goal.loop-place-init
loop-place-init g c = record {
  shrunk = shrunk_start (g.T.Test.family c.args.test.now) c.args.set c.requires.belongs;
  same = λ s. (λ member. member, λ member. member);
  steps = omega arith;
}

pub loop-place-preserved : goal.loop-place-preserved
loop-place-preserved g c =
    let F : Set24 → Type 0 = g.T.Test.family c.args.test.now in
    record {
      shrunk = elim c.if-has.branch [
        | then-has+in_ok-holds+then-branch w ↦ rw w.member-is (
            shrunk_less F c.args.set c.loop-place.member w.without-smaller.result c.loop-place.place w.without-smaller.ensures
            ((c.loop-place.invariant.same w.without-smaller.result).0 (w.in_ok-holds.ensures.answer.0 w.if-branch.true))
            c.loop-place.invariant.shrunk
            )
        | then-has+in_ok-holds+else-branch w ↦ rw w.member-is (
            shrunk_kept F (g.met.T.Test.upward c.args.test.now) c.args.set c.loop-place.member w.without-smaller.result
            c.loop-place.place w.without-smaller.ensures
            (λ member. iff_false w.in_ok-holds.ensures.answer w.if-branch.false
            ((c.loop-place.invariant.same w.without-smaller.result).1 member))
            c.loop-place.invariant.shrunk
            )
        | else-has w ↦ rw w.member-is (
            shrunk_without F c.args.set c.loop-place.member c.loop-place.place (iff_false c.has.ensures w.if-has.false)
            c.loop-place.invariant.shrunk
            )
      ];
      same = elim c.if-has.branch [
        | then-has+in_ok-holds+then-branch w ↦ rw w.test-is (
            same_then (g.T.Test.family w.holds.new.self) (g.T.Test.family c.loop-place.test) F w.holds.ensures.same c.loop-place.invariant.same
            )
        | then-has+in_ok-holds+else-branch w ↦ rw w.test-is (
            same_then (g.T.Test.family w.holds.new.self) (g.T.Test.family c.loop-place.test) F w.holds.ensures.same c.loop-place.invariant.same
            )
        | else-has w ↦ rw w.test-is c.loop-place.invariant.same
      ];
      steps = elim c.if-has.branch [
        | then-has+in_ok-holds+then-branch w ↦ omega (arith, w.holds.ensures.step, c.loop-place.invariant.steps, w.steps-is)
        | then-has+in_ok-holds+else-branch w ↦ omega (arith, w.holds.ensures.step, c.loop-place.invariant.steps, w.steps-is)
        | else-has w ↦ omega (arith, c.loop-place.invariant.steps, w.steps-is)
      ];
    }

pub returns-in_err-holds-clause-same : goal.returns-in_err-holds-clause-same
returns-in_err-holds-clause-same g c = λ s. (
  λ member. (c.loop-place.invariant.same s).0 ((c.holds.ensures.same s).0 member),
  λ member. (c.holds.ensures.same s).1 ((c.loop-place.invariant.same s).1 member),
)

pub returns-in_err-holds-clause-steps : goal.returns-in_err-holds-clause-steps
returns-in_err-holds-clause-steps g c = omega (arith, c.holds.ensures.step, c.loop-place.invariant.steps)

pub returns-clause-minimal : goal.returns-clause-minimal
returns-clause-minimal g c =
    let e : c.loop-place.place ≡ c.args.n = omega arith in
    shrunk_whole c.args.n (g.T.Test.family c.args.test.now) c.sets_by_members.ensures c.args.set c.loop-place.member c.requires.below
    (subst (IsShrunk (g.T.Test.family c.args.test.now) c.args.set c.loop-place.member) e c.loop-place.invariant.shrunk)

pub returns-clause-subset : goal.returns-clause-subset
returns-clause-subset g c = c.loop-place.invariant.shrunk.subset

pub returns-clause-same : goal.returns-clause-same
returns-clause-same g c = c.loop-place.invariant.same

pub returns-clause-steps : goal.returns-clause-steps
returns-clause-steps g c = omega (arith, c.loop-place.invariant.steps)
