use Rattle.std.proofs.Common.{◌≡◌, ◌∙◌, sym, ap, subst}
use Rattle.cnf.proofs.GateSteps.{Within}
use Rattle.counter_cert.specs.StartClauses.{question_clauses, start_cases}
use Rattle.counter_cert.proofs.Known.{question_known, start_cases_known, guards_known, guard_known_in}
use Rattle.counter_cert.proofs.PairModels.{alone_coded}
use Rattle.counter_cert.proofs.StartLaws.{built_models}
use Rattle.counter_cert.proofs.start.start_cnf.Goals as goal

pub add_clauses-requires : goal.add_clauses-requires
add_clauses-requires c =
    subst (Within c.code_copy.new.base.vars)
    (sym (c.as_slice-2.ensures.value ∙ (c.in_ok-asked.ensures ∙ ap (question_clauses c.in_ok-layer.layer) c.as_slice.ensures)))
    (question_known c.code_copy.new.base.vars c.in_ok-layer.layer c.in_ok-layer.ensures.layer.members c.args.question.now
    (guard_known_in c.args.tab.now c.in_ok-layer.layer c.in_ok-layer.ensures.layer.count c.args.question.now c.requires.question))

pub add_some_case-requires : goal.add_some_case-requires
add_some_case-requires c =
    subst (λ n. Within n c.as_slice-4.result.now) (sym c.add_clauses.ensures.vars)
    (subst (Within c.code_copy.new.base.vars)
    (sym (c.as_slice-4.ensures.value ∙ (c.in_ok-cases.ensures ∙ ap (start_cases c.in_ok-layer.layer) c.as_slice-3.ensures)))
    (start_cases_known c.code_copy.new.base.vars c.in_ok-layer.layer c.in_ok-layer.ensures.layer.members c.args.cert.now
    (guards_known c.args.tab.now c.in_ok-layer.layer c.in_ok-layer.ensures.layer.count c.args.cert.now c.requires.guards)))

pub returns-clause-models : goal.returns-clause-models
returns-clause-models c =
    built_models c.args.tab.now c.args.question.now c.args.cert.now c.code_copy.new.base.vars c.code_copy.new.base.clauses c.in_ok-layer.layer
    (alone_coded c.new-cnf.result.vars c.code_copy.new.base.vars c.new-cnf.result.clauses c.code_copy.new.base.clauses c.args.tab.now
    c.in_ok-layer.layer c.new-cnf.ensures.vars c.new-cnf.ensures.clauses c.in_ok-layer.ensures.layer c.in_ok-layer.ensures.every)
    c.requires.question c.requires.guards c.add_some_case.new.cnf c.add_clauses.new.cnf.vars c.as_slice-2.result.now c.as_slice-4.result.now
    c.add_clauses.new.cnf.clauses
    (c.as_slice-2.ensures.value ∙ (c.in_ok-asked.ensures ∙ ap (question_clauses c.in_ok-layer.layer) c.as_slice.ensures))
    (c.as_slice-4.ensures.value ∙ (c.in_ok-cases.ensures ∙ ap (start_cases c.in_ok-layer.layer) c.as_slice-3.ensures))
    c.add_clauses.ensures.vars c.in_ok-add_some_case.ensures.vars c.in_ok-add_clauses.ensures.clauses c.in_ok-add_some_case.ensures.clauses
