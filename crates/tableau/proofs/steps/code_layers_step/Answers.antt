use Rattle.std.proofs.Common.{◌∙◌, length, sym, ap}
use Rattle.tableau.proofs.StepFronts.{operands_within, states_front, nexts_front, whole_step}
use Rattle.tableau.proofs.steps.code_layers_step.Goals as goal

pub add_same_states-requires-clause-left : goal.add_same_states-requires-clause-left
add_same_states-requires-clause-left g c = rw c.next.ensures c.requires.from.next.shape

pub add_same_states-requires-clause-right : goal.add_same_states-requires-clause-right
add_same_states-requires-clause-right g c = rw c.now.ensures c.requires.to.now.shape

pub add_nexts-requires-clause-from : goal.add_nexts-requires-clause-from
add_nexts-requires-clause-from g c = rw c.add_same_states.ensures.vars c.requires.from.members

pub add_nexts-requires-clause-to : goal.add_nexts-requires-clause-to
add_nexts-requires-clause-to g c = rw c.add_same_states.ensures.vars c.requires.to.members

pub add_nexts-requires-clause-count : goal.add_nexts-requires-clause-count
add_nexts-requires-clause-count g c = ap length c.nodes-nodes.ensures.nodes ∙ sym c.requires.from.count

pub add_nexts-requires-clause-few : goal.add_nexts-requires-clause-few
add_nexts-requires-clause-few g c = rw c.nodes-nodes.ensures.nodes c.nodes-nodes.ensures.coded.few

pub add_nexts-requires-clause-operands : goal.add_nexts-requires-clause-operands
add_nexts-requires-clause-operands g c =
    operands_within c.args.tableau.now _ c.args.to.now c.nodes-nodes.ensures.nodes c.nodes-nodes.ensures.coded c.requires.to.count

pub returns-in_err-add_same_states-clause-front : goal.returns-in_err-add_same_states-clause-front
returns-in_err-add_same_states-clause-front g c =
    states_front _ _ c.args.tableau.now c.args.from.now c.args.to.now c.args.under _ _ c.next.ensures c.now.ensures c.add_same_states.ensures.front

pub returns-in_err-add_nexts-clause-front : goal.returns-in_err-add_nexts-clause-front
returns-in_err-add_nexts-clause-front g c =
    nexts_front _ _ _ c.args.tableau.now c.args.from.now c.args.to.now c.args.under _ _ _ (record {
      next_are = c.next.ensures;
      now_are = c.now.ensures;
      nodes_are = c.nodes-nodes.ensures.nodes;
      states = c.in_ok-add_same_states.ensures.ok;
    }) c.add_nexts.ensures.front

pub returns-clause-front : goal.returns-clause-front
returns-clause-front g c =
    nexts_front _ _ _ c.args.tableau.now c.args.from.now c.args.to.now c.args.under _ _ _ (record {
      next_are = c.next.ensures;
      now_are = c.now.ensures;
      nodes_are = c.nodes-nodes.ensures.nodes;
      states = c.in_ok-add_same_states.ensures.ok;
    }) c.add_nexts.ensures.front

pub returns-clause-ok : goal.returns-clause-ok
returns-clause-ok g c =
    whole_step _ _ _ c.args.tableau.now c.args.from.now c.args.to.now c.args.under _ _ _ (record {
      next_are = c.next.ensures;
      now_are = c.now.ensures;
      nodes_are = c.nodes-nodes.ensures.nodes;
      states = c.in_ok-add_same_states.ensures.ok;
    }) c.in_ok-add_nexts.ensures.ok
