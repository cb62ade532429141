use Rattle.std.proofs.Common.{◌++◌, ◌∷◌, [], ◌<◌, ◌∙◌, List, map, sym, ap, subst}
use Rattle.std.specs.Prelude.{All}
use Rattle.std.proofs.lemmas.List.Elements.{All-push, All-take}
use Rattle.cnf.specs.declared.lit.Lit.{Lit}
use Rattle.cnf.specs.Clauses.{opposite, HasNoModel}
use Rattle.sat_core.specs.declared.outcome.Outcome.{Outcome}
use Rattle.sat_core.specs.Search.{unit_clause}
use Rattle.sat_core.specs.Outcomes.{IfUnsat}
use Rattle.lasso_search.proofs.LeastSteps.{forced_bit}
use Rattle.lasso_search.proofs.least.fix_bit.Goals as goal

pub returns-in_ok-push-in-Unsat-clause-known : goal.returns-in_ok-push-in-Unsat-clause-known
returns-in_ok-push-in-Unsat-clause-known c =
    let P = λ (lit : Lit). lit.var < c.args.solver.now.vars in
    let turned = subst P (sym c.negated.ensures) c.requires.bit in
    let pushed = subst (All P) (sym c.in_ok-push.ensures.items) (All-push P c.args.known.now.items c.negated.result c.requires.known turned) in
    let popped = subst (All P) (sym c.pop.ensures.rest) (All-take P _ c.push.new.self.items pushed) in
    subst (All P) (sym c.in_ok-push-in-Unsat.ensures.items) (All-push P c.pop.new.self.items c.args.bit popped c.requires.bit)

pub returns-in_ok-push-in-Unsat-clause-least : goal.returns-in_ok-push-in-Unsat-clause-least
returns-in_ok-push-in-Unsat-clause-least c = λ other h on.
    let none = subst (λ (o : Outcome). IfUnsat o (λ log. HasNoModel c.args.solver.now.vars
    (c.args.solver.now.clauses ++ map unit_clause c.as_slice.result.now))) c.in-Unsat.is c.in_ok-other.ensures.unsat in
    let assumed = c.as_slice.ensures.value ∙ (c.in_ok-push.ensures.items ∙ ap (λ l. c.args.known.now.items ++ l ∷ []) c.negated.ensures) in
    forced_bit c.args.solver.now.vars c.args.solver.now.clauses c.args.known.now.items c.args.bit other c.requires.bit
    (subst (λ (ls : List Lit). HasNoModel c.args.solver.now.vars (c.args.solver.now.clauses ++ map unit_clause ls)) assumed none) h
