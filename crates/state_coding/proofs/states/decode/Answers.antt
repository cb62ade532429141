use Rattle.std.proofs.Common.{[], ◌∙◌, ap, get_or, sym, subst, arith}
use Rattle.cnf.specs.Clauses.{lit_values}
use Rattle.state_coding.specs.Codes.{value_at}
use Rattle.state_coding.specs.States.{IsValuation}
use Rattle.state_coding.proofs.CodeSteps.{listed, element_row, element_codable, values_go_on, values_end}
use Rattle.state_coding.proofs.StateLaws.{state_typed}
use Rattle.state_coding.proofs.states.decode.Goals as goal

pub returns-clause-values : goal.returns-clause-values
returns-clause-values c = values_end c.args.model.now c.args.ports.now c.args.bits.now c.loop-i.i _ _
    (omega (arith, c.loop-i-test.false)) c.loop-i.invariant

pub returns-clause-typed : goal.returns-clause-typed
returns-clause-typed c =
    subst (IsValuation c.args.ports.now) (sym (returns-clause-values c))
    (state_typed c.gates_are_right.ensures c.args.model.now c.args.ports.now c.args.bits.now c.requires.ports c.requires.bits c.requires.holds)

pub value_of-requires-clause-kind : goal.value_of-requires-clause-kind
value_of-requires-clause-kind c =
    let at = listed _ _ _ _ c.as_slice.ensures c.index-as_slice-i.is in
    element_codable c.args.ports.now c.loop-i.i c.index-as_slice-i.result at
    (omega (arith, c.loop-i-test.true)) c.requires.ports

pub value_of-requires-clause-bits : goal.value_of-requires-clause-bits
value_of-requires-clause-bits c =
    let at = listed _ _ _ _ c.as_slice.ensures c.index-as_slice-i.is in
    rw c.row.ensures (element_row c.args.model.now c.args.ports.now c.args.bits.now c.loop-i.i c.index-as_slice-i.result at
    (omega (arith, c.loop-i-test.true)) c.requires.ports c.requires.bits c.requires.holds).width

pub value_of-requires-clause-known : goal.value_of-requires-clause-known
value_of-requires-clause-known c =
    let at = listed _ _ _ _ c.as_slice.ensures c.index-as_slice-i.is in
    rw c.row.ensures (element_row c.args.model.now c.args.ports.now c.args.bits.now c.loop-i.i c.index-as_slice-i.result at
    (omega (arith, c.loop-i-test.true)) c.requires.ports c.requires.bits c.requires.holds).known

pub value_of-requires-clause-holds : goal.value_of-requires-clause-holds
value_of-requires-clause-holds c =
    let at = listed _ _ _ _ c.as_slice.ensures c.index-as_slice-i.is in
    rw c.row.ensures (element_row c.args.model.now c.args.ports.now c.args.bits.now c.loop-i.i c.index-as_slice-i.result at
    (omega (arith, c.loop-i-test.true)) c.requires.ports c.requires.bits c.requires.holds).holds

pub loop-i-preserved : goal.loop-i-preserved
loop-i-preserved c =
    let at = listed _ _ _ _ c.as_slice.ensures c.index-as_slice-i.is in
    values_go_on c.args.model.now c.args.ports.now c.args.bits.now c.loop-i.i c.loop-i.valuation _ _ c.in_ok-value.value c.index-as_slice-i.result
    c.requires.bits (omega (arith, c.loop-i-test.true))
    (c.in_ok-value.ensures.value ∙ ap (λ r. value_at c.index-as_slice-i.result (lit_values c.args.model.now r)) c.row.ensures
    ∙ ap (λ k. value_at k (lit_values c.args.model.now (get_or c.args.bits.now c.loop-i.i []))) at) c.in_ok-push.ensures.ok c.loop-i.invariant
