use Rattle.std.proofs.Common.{◌∙◌, ap, refl, sym, subst}
use Rattle.std.specs.Prelude.{slice_get}
use Rattle.std.specs.List.{Contains}
use Rattle.port_types.specs.Types.{values}
use Rattle.state_coding.proofs.CodeSteps.{unwrapped, value_found, found_typed}
use Rattle.state_coding.proofs.codes.value_of.Goals as goal

pub unwrap-requires : goal.unwrap-requires
unwrap-requires c =
    rw (c.in_ok-value.ensures.value ∙ ap (slice_get (values c.args.kind.now)) c.number_of.ensures
    ∙ value_found c.gates_are_right.ensures c.args.model.now c.args.kind.now c.args.row.now c.requires.kind c.requires.bits c.requires.known
    c.requires.holds) refl

pub returns-clause-value : goal.returns-clause-value
returns-clause-value c =
    unwrapped c.in_ok-value.value c.unwrap.result _ c.unwrap.ensures
    (c.in_ok-value.ensures.value ∙ ap (slice_get (values c.args.kind.now)) c.number_of.ensures
    ∙ value_found c.gates_are_right.ensures c.args.model.now c.args.kind.now c.args.row.now c.requires.kind c.requires.bits c.requires.known
    c.requires.holds)

pub returns-clause-typed : goal.returns-clause-typed
returns-clause-typed c =
    subst (Contains (values c.args.kind.now)) (sym (returns-clause-value c))
    (found_typed c.gates_are_right.ensures c.args.model.now c.args.kind.now c.args.row.now c.requires.kind c.requires.bits c.requires.known
    c.requires.holds)
