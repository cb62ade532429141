use Rattle.std.proofs.Common.{◌≡◌, ◌∙◌, sym, subst, arith, length}
use Rattle.cnf.proofs.GateSteps.{Within}
use Rattle.tableau.specs.TableauStates.{fairness}
use Rattle.counter_cert.specs.StepClauses.{no_case_clauses}
use Rattle.counter_cert.proofs.Known.{bounds_room, unmet_known, no_case_known, counting_known, guards_known}
use Rattle.counter_cert.proofs.step.add_met.Goals as goal

pub code_counting-requires-clause-over : goal.code_counting-requires-clause-over
code_counting-requires-clause-over c =
    omega (arith, c.requires.known, c.requires.room, c.requires.met, c.requires.next)

pub code_counting-requires-clause-met : goal.code_counting-requires-clause-met
code_counting-requires-clause-met c = omega (arith, c.requires.known, c.requires.room, c.requires.next)

pub code_counting-requires-clause-next : goal.code_counting-requires-clause-next
code_counting-requires-clause-next c = omega (arith, c.requires.known, c.requires.room)

pub add_clauses-requires : goal.add_clauses-requires
add_clauses-requires c =
    let fair = c.requires.conditions in
    subst (Within c.args.cnf.now.vars) (sym (c.as_slice.ensures.value ∙ c.in_ok-counting.ensures))
    (counting_known c.args.cnf.now.vars c.args.tab.now c.args.firsts.most c.args.layer.now c.args.firsts.over c.args.firsts.met
    c.args.firsts.over_next (record { count = c.requires.count; known = c.requires.members }) c.members.ensures.coded.closed
    (omega (arith, c.conditions.ensures.conditions, c.conditions.ensures.some))
    (omega (arith, c.requires.known, c.requires.met, c.requires.next))
    (omega (arith, c.requires.known, c.requires.next, fair)) (omega (arith, c.requires.known)))

pub code_unmet_cases-requires-clause-bounds : goal.code_unmet_cases-requires-clause-bounds
code_unmet_cases-requires-clause-bounds c =
    bounds_room c.args.firsts.most c.args.firsts.over c.args.entries.now c.requires.bounds
    (omega (arith, c.requires.known, c.requires.room, c.requires.met, c.requires.next))

pub add_clauses-requires-2 : goal.add_clauses-requires-2
add_clauses-requires-2 c =
    subst (λ n. Within n c.as_slice-3.result.now) (sym c.add_clauses.ensures.vars)
    (subst (Within c.args.cnf.now.vars)
    (sym (c.as_slice-3.ensures.value ∙ (c.in_ok-met.ensures ∙ (λ j. no_case_clauses ((c.as_slice-2.ensures.value ∙ c.in_ok-unmet.ensures) j)))))
    (no_case_known c.args.cnf.now.vars _ (unmet_known c.args.cnf.now.vars c.args.layer.now c.requires.members c.args.firsts.over
    c.args.firsts.most c.args.entries.now (omega (arith, c.requires.known, c.requires.met, c.requires.next))
    (guards_known c.args.tab.now c.args.layer.now c.requires.count c.args.entries.now c.requires.guards) c.requires.bounds)))
