use Rattle.std.proofs.Common.{◌∙◌, false, arith}
use Rattle.cnf.specs.Bounds.{limit_down}
use Rattle.cnf.proofs.GateSteps.{All_later, no_lit}
use Rattle.cnf.proofs.BoundLaws.{limit_go_on, limit_compares, reverse_lit, reverse_place, reverse_place_in}
use Rattle.cnf.proofs.bounds.add_limit.Goals as goal

pub limit_place-requires-clause-lit : goal.limit_place-requires-clause-lit
limit_place-requires-clause-lit g c = All_later _ _ c.args.row.now (omega (arith, c.loop-i.invariant.vars)) c.requires.known _ no_lit
    (omega (arith, c.loop-i-test.true))

pub loop-i-preserved : goal.loop-i-preserved
loop-i-preserved g c = record {
  vars = c.limit_place.ensures.vars ∙ c.loop-i.invariant.vars;
  less = All_later _ _ _ (omega (arith, c.loop-i.invariant.vars)) c.in_ok-limit_place.ensures.less;
  added = limit_go_on c.loop-i.i _ (g.B.ClauseBase.clauses c.loop-i.base) _ _ c.loop-i.less.items _ _ _ _ _ c.loop-i.invariant.added.0
      c.in_ok-limit_place.ensures.ok.0
      (reverse_place c.args.row.now no_lit c.loop-i.i c.loop-i-test.true)
      (reverse_place_in c.args.bound.now false c.loop-i.i _ c.requires.same c.loop-i-test.true)
      c.loop-i.invariant.added.1 c.loop-i.invariant.added.2 c.in_ok-limit_place.ensures.ok.1 c.in_ok-limit_place.ensures.ok.2;
}

pub returns-clause-value : goal.returns-clause-value
returns-clause-value g c = λ model known. limit_compares model c.args.row.now c.args.bound.now c.requires.same known
