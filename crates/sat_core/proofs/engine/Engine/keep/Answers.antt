use Rattle.std.proofs.Common.{◌≡◌, ◌∙◌, length, ap, refl, arith}
use Rattle.std.proofs.lemmas.Option.{slice_get_within}
use Rattle.sat_core.specs.declared.clause_ref.ClauseRef.TheVariants.{Learnt}
use Rattle.sat_core.specs.declared.engine.Engine.{Engine}
use Rattle.sat_core.proofs.EngineLaws.{can_watch}
use Rattle.sat_core.proofs.LearntKept.{only_one, learnt_alone, learnt_unit, learnt_kept}
use Rattle.sat_core.proofs.engine.Engine.keep.Goals as goal

pub returns-in_err-push-2-clause-keeps : goal.returns-in_err-push-2-clause-keeps
returns-in_err-push-2-clause-keeps c = λ added keeps derived.
    let e = c.args.self.now in
    let m : Engine = record { propagator = e.propagator; units = c.push-then-lits-eq1.new.self; learnt = c.push.new.self; phases = e.phases } in
    let l = c.in_ok-push.ensures in
    let u = c.in_err-push-2.ensures in
    learnt_alone added e m c.args.lits.now c.args.derivation (record { vars = refl; learnt = l.clauses; derivations = l.derivations }) keeps derived
    c.requires.known (refl, refl) (u.err_lits, u.err_reasons)

pub add_clause-requires-clause-watch : goal.add_clause-requires-clause-watch
add_clause-requires-clause-watch c =
    let t = c.args.self.now.propagator.trail in
    let one = slice_get_within c.args.lits.now 0 c.args.forced c.requires.order.first in
    can_watch t.steps.items t.places.items c.args.forced c.args.lits.now c.requires.state.trail c.requires.free c.requires.order
    (omega (arith, one, c.if-lits-eq1.false))

pub returns-in_err-add_clause-clause-keeps : goal.returns-in_err-add_clause-clause-keeps
returns-in_err-add_clause-clause-keeps c = λ added keeps derived.
    let e = c.args.self.now in
    let m : Engine = record { propagator = c.add_clause.new.self; units = e.units; learnt = c.push.new.self; phases = e.phases } in
    let l = c.in_ok-push.ensures in
    let a = c.in_err-add_clause.ensures in
    learnt_alone added e m c.args.lits.now c.args.derivation (record { vars = a.vars; learnt = l.clauses; derivations = l.derivations }) keeps derived
    c.requires.known (a.err_clauses, a.err_references) (refl, refl)

pub returns-in_ok-push-2-clause-keeps : goal.returns-in_ok-push-2-clause-keeps
returns-in_ok-push-2-clause-keeps c = λ added keeps derived.
    let e = c.args.self.now in
    let m : Engine = record { propagator = e.propagator; units = c.push-then-lits-eq1.new.self; learnt = c.push.new.self; phases = e.phases } in
    let l = c.in_ok-push.ensures in
    let u = c.in_ok-push-2.ensures in
    let number : c.len-number.result ≡ length e.learnt.clauses.items = c.len-number.ensures ∙ e.learnt.clauses.ok.0 in
    learnt_unit added e m c.args.lits.now c.args.derivation (record { vars = refl; learnt = l.clauses; derivations = l.derivations }) keeps derived
    c.requires.known c.args.forced (Learnt c.len-number.result)
    (only_one e.propagator.trail.steps.items c.args.forced c.args.lits.now c.requires.order c.if-lits-eq1.true) (ap Learnt number) (refl, refl)
    (u.lits, u.reasons)

pub returns-in_ok-add_clause-clause-keeps : goal.returns-in_ok-add_clause-clause-keeps
returns-in_ok-add_clause-clause-keeps c = λ added keeps derived.
    let e = c.args.self.now in
    let m : Engine = record { propagator = c.add_clause.new.self; units = e.units; learnt = c.push.new.self; phases = e.phases } in
    let l = c.in_ok-push.ensures in
    let a = c.in_ok-add_clause.ensures in
    let number : c.len-number.result ≡ length e.learnt.clauses.items = c.len-number.ensures ∙ e.learnt.clauses.ok.0 in
    learnt_kept added e m c.args.lits.now c.args.derivation (record { vars = a.vars; learnt = l.clauses; derivations = l.derivations }) keeps derived
    c.requires.known (Learnt c.len-number.result) c.requires.state.referred (ap Learnt number) (a.clauses, a.references) (refl, refl)
