use Rattle.std.proofs.Common.{arith}
use Rattle.cnf.proofs.ModelLaws.{IsConservative_trans}
use Rattle.state_coding.proofs.CodeSteps.{listed, element_codable, element_at, width_goes_on, bits_go_on, clauses_go_on, state_added, added_is_state}
use Rattle.state_coding.proofs.CodeSteps.{added_typed}
use Rattle.state_coding.proofs.CodeSteps.{added_every}
use Rattle.state_coding.proofs.states.code_state.Goals as goal

pub code_port-requires : goal.code_port-requires
code_port-requires g c =
    let at = listed _ _ _ _ c.as_slice.ensures c.index-as_slice-i.is in
    element_codable c.args.ports.now c.loop-i.i c.index-as_slice-i.result at
    (omega (arith, c.loop-i-test.true)) c.requires

pub returns-in_err-row-clause-grows : goal.returns-in_err-row-clause-grows
returns-in_err-row-clause-grows g c = IsConservative_trans _ _ _ _ _ _ c.loop-i.invariant.grows c.code_port.ensures.grows

pub returns-in_err-push-clause-grows : goal.returns-in_err-push-clause-grows
returns-in_err-push-clause-grows g c = IsConservative_trans _ _ _ _ _ _ c.loop-i.invariant.grows c.code_port.ensures.grows

pub loop-i-preserved : goal.loop-i-preserved
loop-i-preserved g c =
    let here = listed _ _ _ _ c.as_slice.ensures c.index-as_slice-i.is in
    let at = element_at c.args.ports.now c.loop-i.i c.index-as_slice-i.result here (omega (arith, c.loop-i-test.true)) in
    record {
      vars = width_goes_on _ _ _ _ _ c.index-as_slice-i.result at c.in_ok-row.ensures.vars c.loop-i.invariant.vars;
      bits = bits_go_on _ _ c.loop-i.bits _ _ _ _ c.index-as_slice-i.result c.in_ok-row.row at c.in_ok-row.ensures.vars c.in_ok-row.ensures.answer
          c.in_ok-push.ensures.ok c.loop-i.invariant.bits;
      clauses = clauses_go_on _ _ (g.B.ClauseBase.clauses c.loop-i.base) _ _ _ _ c.index-as_slice-i.result c.in_ok-row.row at
          c.in_ok-row.ensures.vars c.in_ok-row.ensures.answer c.in_ok-row.ensures.clauses c.loop-i.invariant.clauses;
      grows = IsConservative_trans _ _ _ _ _ _ c.loop-i.invariant.grows c.code_port.ensures.grows;
    }

pub returns-clause-state : goal.returns-clause-state
returns-clause-state g c =
    added_is_state _ _ _ _ _ _ (state_added _ _ c.loop-i.i _ _ c.args.ports.now c.loop-i.bits
    (omega (arith, c.loop-i-test.false)) c.loop-i.invariant.vars c.loop-i.invariant.bits c.loop-i.invariant.clauses)

pub returns-clause-valuation : goal.returns-clause-valuation
returns-clause-valuation g c =
    added_typed c.gates_are_right.ensures _ _ _ _ _ _
    (state_added _ _ c.loop-i.i _ _ c.args.ports.now c.loop-i.bits
    (omega (arith, c.loop-i-test.false)) c.loop-i.invariant.vars c.loop-i.invariant.bits c.loop-i.invariant.clauses) c.requires

pub returns-clause-every : goal.returns-clause-every
returns-clause-every g c =
    added_every c.gates_are_right.ensures _ _ _ _ _ _
    (state_added _ _ c.loop-i.i _ _ c.args.ports.now c.loop-i.bits
    (omega (arith, c.loop-i-test.false)) c.loop-i.invariant.vars c.loop-i.invariant.bits c.loop-i.invariant.clauses) c.requires

pub returns-clause-answer : goal.returns-clause-answer
returns-clause-answer g c =
    (state_added _ _ c.loop-i.i (g.B.ClauseBase.clauses c.args.base.now) (g.B.ClauseBase.clauses c.loop-i.base) c.args.ports.now c.loop-i.bits
    (omega (arith, c.loop-i-test.false)) c.loop-i.invariant.vars c.loop-i.invariant.bits c.loop-i.invariant.clauses).rows

pub returns-clause-vars : goal.returns-clause-vars
returns-clause-vars g c =
    (state_added _ _ c.loop-i.i (g.B.ClauseBase.clauses c.args.base.now) (g.B.ClauseBase.clauses c.loop-i.base) c.args.ports.now c.loop-i.bits
    (omega (arith, c.loop-i-test.false)) c.loop-i.invariant.vars c.loop-i.invariant.bits c.loop-i.invariant.clauses).vars

pub returns-clause-clauses : goal.returns-clause-clauses
returns-clause-clauses g c =
    (state_added _ _ c.loop-i.i (g.B.ClauseBase.clauses c.args.base.now) (g.B.ClauseBase.clauses c.loop-i.base) c.args.ports.now c.loop-i.bits
    (omega (arith, c.loop-i-test.false)) c.loop-i.invariant.vars c.loop-i.invariant.bits c.loop-i.invariant.clauses).clauses
