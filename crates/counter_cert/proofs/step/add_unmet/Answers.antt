use Rattle.std.proofs.Common.{◌≡◌, ◌∙◌, sym, subst, arith}
use Rattle.cnf.proofs.GateSteps.{Within}
use Rattle.counter_cert.proofs.Known.{bounds_room, unmet_known}
use Rattle.counter_cert.proofs.step.add_unmet.Goals as goal

pub code_unmet_cases-requires-clause-bounds : goal.code_unmet_cases-requires-clause-bounds
code_unmet_cases-requires-clause-bounds c =
    bounds_room c.args.firsts.most c.args.firsts.over_next c.args.entries.now c.requires.bounds
    (omega (arith, c.requires.known, c.requires.room))

pub add_some_case-requires : goal.add_some_case-requires
add_some_case-requires c =
    subst (Within c.args.cnf.now.vars) (sym (c.as_slice.ensures.value ∙ c.in_ok-unmet.ensures))
    (unmet_known c.args.cnf.now.vars c.args.layer.now c.requires.members c.args.firsts.over_next c.args.firsts.most c.args.entries.now
    (omega (arith, c.requires.known)) c.requires.guards c.requires.bounds)
