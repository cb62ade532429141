use Rattle.std.proofs.Common.{List, subst}
use Rattle.port_types.specs.declared.types.PortType.{PortType}
use Rattle.cnf.proofs.ModelLaws.{IsConservative_trans}
use Rattle.state_coding.specs.States.{IsCodedState}
use Rattle.tableau.proofs.LayerSteps.{copy_added, copy_every, copy_count, stays}
use Rattle.tableau.proofs.WholeLayers.{coded_layer}
use Rattle.tableau.proofs.members.code_layer.Goals as goal

pub code_state-requires : goal.code_state-requires
code_state-requires g c = rw c.ports-ports.ensures.ports c.ports-ports.ensures.coded.ports

pub code_state-requires-2 : goal.code_state-requires-2
code_state-requires-2 g c = rw c.ports-ports.ensures.ports c.ports-ports.ensures.coded.ports

pub code_members-requires-clause-now : goal.code_members-requires-clause-now
code_members-requires-clause-now g c =
    subst (λ (p : List PortType). IsCodedState (g.B.ClauseBase.vars c.code_state-2.new.base) (g.B.ClauseBase.clauses c.code_state-2.new.base) p c.in_ok-now.now)
    c.ports-ports.ensures.ports
    (stays _ _ _ _ c.ports-ports.result.now c.in_ok-now.now c.states_stay.ensures c.code_state-2.ensures.grows c.in_ok-now.ensures.state)

pub returns-in_err-layer-clause-grows : goal.returns-in_err-layer-clause-grows
returns-in_err-layer-clause-grows g c =
    IsConservative_trans _ _ _ _ _ _ (IsConservative_trans _ _ _ _ _ _ c.code_state.ensures.grows c.code_state-2.ensures.grows) c.code_members.ensures.grows

pub returns-clause-grows : goal.returns-clause-grows
returns-clause-grows g c =
    IsConservative_trans _ _ _ _ _ _ (IsConservative_trans _ _ _ _ _ _ c.code_state.ensures.grows c.code_state-2.ensures.grows) c.code_members.ensures.grows

pub returns-clause-coded : goal.returns-clause-coded
returns-clause-coded g c =
    copy_added c.args.tableau.now c.ports-ports.result.now (g.B.ClauseBase.vars c.args.base.now) _ _ _ _ _ _ _ c.in_ok-now.now c.in_ok-next.next _ (record {
      ports_are = c.ports-ports.ensures.ports;
      now_bits = c.in_ok-now.ensures.answer;
      vars = c.in_ok-now.ensures.vars;
      clauses = c.in_ok-now.ensures.clauses;
      next_bits = c.in_ok-next.ensures.answer;
      more_vars = c.in_ok-next.ensures.vars;
      more_clauses = c.in_ok-next.ensures.clauses;
      members = c.in_ok-layer.ensures.coded;
    })

pub returns-clause-layer : goal.returns-clause-layer
returns-clause-layer g c =
    coded_layer c.args.tableau.now (g.B.ClauseBase.vars c.args.base.now) _ _ _ _ c.gates_are_right.ensures c.atoms_are_right.ensures
    c.ports-ports.ensures.coded (returns-clause-coded g c)

pub returns-clause-every : goal.returns-clause-every
returns-clause-every g c =
    copy_every c.args.tableau.now c.ports-ports.result.now _ _ _ _ _ _ _ _ c.in_ok-now.now c.in_ok-next.next _ (record {
      ports_are = c.ports-ports.ensures.ports;
      first = c.in_ok-now.ensures.every;
      second = c.in_ok-next.ensures.every;
      members = c.in_ok-layer.ensures.every;
      has = c.in_ok-now.ensures.state.shape;
      count = copy_count c.args.tableau.now (g.B.ClauseBase.vars c.args.base.now) _ _ _ _ c.ports-ports.ensures.coded (returns-clause-coded g c);
    })
