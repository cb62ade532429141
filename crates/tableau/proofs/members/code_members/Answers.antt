use Rattle.std.proofs.Common.{arith}
use Rattle.cnf.proofs.ModelLaws.{IsConservative_trans}
use Rattle.tableau.proofs.LayerSteps.{left_goes_on, count_goes_on, node_at, left_at, part_goes_on, every_goes_on, stays_with}
use Rattle.tableau.proofs.members.code_members.Goals as goal

pub returns-in_err-lit-clause-grows : goal.returns-in_err-lit-clause-grows
returns-in_err-lit-clause-grows g c = IsConservative_trans _ _ _ _ _ _ c.loop-i.invariant.grows c.code_member.ensures.grows

pub returns-in_err-push-clause-grows : goal.returns-in_err-push-clause-grows
returns-in_err-push-clause-grows g c = IsConservative_trans _ _ _ _ _ _ c.loop-i.invariant.grows c.code_member.ensures.grows

pub loop-i-preserved : goal.loop-i-preserved
loop-i-preserved g c =
    let is = node_at c.args.tableau.now c.nodes-nodes.result.now c.loop-i.i _ _ c.nodes-nodes.ensures.nodes c.loop-i.invariant.count
    (omega (arith, c.loop-i-test.true)) in
    record {
      count = count_goes_on c.loop-i.layer _ _ _ c.in_ok-push.ensures.ok c.loop-i.invariant.count;
      left = left_goes_on c.args.tableau.now c.loop-i.layer _ _ _ _ _ _ _ _ _ _
          (left_at c.nodes-nodes.result.now c.loop-i.i _ (omega (arith, c.loop-i-test.true))) c.in_ok-lit.ensures.coded c.in_ok-push.ensures.ok
          c.loop-i.invariant.left;
      part = part_goes_on c.args.tableau.now c.loop-i.layer _ _ _ _ _ _ _ c.nodes-nodes.ensures.coded c.loop-i.invariant.part is c.in_ok-lit.ensures.coded
          c.in_ok-push.ensures.ok;
      now = stays_with _ _ _ _ _ _ _ c.states_stay.ensures c.code_member.ensures.grows c.loop-i.invariant.now
          (λ j. (c.in_ok-push.ensures.ok j).bits);
      next = stays_with _ _ _ _ _ _ _ c.states_stay.ensures c.code_member.ensures.grows c.loop-i.invariant.next
          (λ j. (c.in_ok-push.ensures.ok j).next_bits);
      grows = IsConservative_trans _ _ _ _ _ _ c.loop-i.invariant.grows c.code_member.ensures.grows;
      every = every_goes_on _ _ _ _ _ _ c.args.tableau.now _ c.loop-i.layer _ _ _ c.loop-i.invariant.every
          (record {
            gates = c.gates_are_right.ensures;
            atoms = c.atoms_are_right.ensures;
            coded = c.nodes-nodes.ensures.coded;
            part = c.loop-i.invariant.part;
            now = c.loop-i.invariant.now;
            next = c.loop-i.invariant.next;
            is_node = is;
            grows = c.code_member.ensures.grows;
            added = c.in_ok-lit.ensures.coded;
          }) c.in_ok-push.ensures.ok;
    }
