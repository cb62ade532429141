use Rattle.std.proofs.Common.{◌∙◌, ◌<◌, ℕ, length, get_or, slice_get, Some, ◌≡◌, refl, subst}
use Rattle.std.proofs.lemmas.Bool.{false≢true}
use Rattle.std.proofs.lemmas.Option.{slice_get_read}
use Rattle.std.specs.List.{All}
use Rattle.clause_log.specs.declared.chain.Chain.{Chain}
use Rattle.clause_log.specs.Derivations.{Follows, clauses_before}
use Rattle.clause_log.proofs.Soundness.{known_more}
use Rattle.clause_log.proofs.StepLaws.{each_more, each_whole}
use Rattle.clause_log.proofs.checking.all_follow.Goals as goal

pub loop-i-preserved : goal.loop-i-preserved
loop-i-preserved c =
    let known : All (λ lit. lit.var < length c.args.set.now) (get_or c.args.log.now c.loop-i.i c.index-log-i.result).clause =
    subst (λ (x : Chain). All (λ lit. lit.var < length c.args.set.now) x.clause) c.index-log-i.is
    (subst (λ (n : ℕ). All (λ lit. lit.var < n) c.index-log-i.result.clause) c.loop-i.invariant.vars (c.if-not-follows.ensures.known refl)) in
    let here : Follows (clauses_before c.args.cnf.now c.args.log.now c.loop-i.i) (get_or c.args.log.now c.loop-i.i c.index-log-i.result) =
    subst (λ (x : Chain). Follows (clauses_before c.args.cnf.now c.args.log.now c.loop-i.i) x) c.index-log-i.is (c.if-not-follows.ensures.result.0 refl) in
    record {
      vars = c.follows.ensures.vars ∙ c.loop-i.invariant.vars;
      empty = c.if-not-follows.ensures.empty refl;
      known = known_more (length c.args.set.now) c.args.cnf.now c.args.log.now c.loop-i.i c.index-log-i.result c.loop-i-test.true c.loop-i.invariant.known
          known;
      each = each_more c.args.cnf.now c.args.log.now c.loop-i.i c.index-log-i.result c.loop-i-test.true c.loop-i.invariant.each here;
    }

pub returns-clause-result : goal.returns-clause-result
returns-clause-result c = (
  λ _. each_whole c.args.cnf.now c.args.log.now c.loop-i.i c.loop-i-test.false c.loop-i.invariant.each,
  λ _. refl,
)

pub returns-then-not-follows-clause-result : goal.returns-then-not-follows-clause-result
returns-then-not-follows-clause-result c = (
  λ e. absurd (false≢true e),
  λ each.
      let at : slice_get c.args.log.now c.loop-i.i ≡ Some c.index-log-i.result =
      slice_get_read c.args.log.now (length c.args.log.now) c.loop-i.i c.index-log-i.result refl c.loop-i-test.true c.index-log-i.is in
      c.if-not-follows.ensures.result.1 (each c.loop-i.i c.index-log-i.result at),
)
