use Rattle.std.proofs.Common.{◌≡◌, ◌<◌, ◌∙◌, ◌∷◌, [], List, length, get_or, subst, ap, refl, arith}
use Rattle.cnf.specs.declared.lit.Lit.{Lit}
use Rattle.clause_log.specs.Derivations.{SameLits}
use Rattle.sat_core.specs.declared.trail.Trail.{Trail}
use Rattle.sat_core.specs.Engines.{Propagated}
use Rattle.sat_core.proofs.Members.{any_lit}
use Rattle.sat_core.proofs.SearchLaws.{with_propagator}
use Rattle.sat_core.proofs.Placing.{placed_empty, placed_unit, placed_kept}
use Rattle.sat_core.proofs.engine.Engine.place.Goals as goal

no_more : (xs : List Lit) → length xs < 1 → xs ≡ []
no_more [] h = refl
no_more (x ∷ xs) h = absurd (omega arith)

one_item : (xs : List Lit) → 1 ≡ length xs → xs ≡ get_or xs 0 any_lit ∷ []
one_item [] h = absurd (omega (arith, h))
one_item (x ∷ []) h = refl
one_item (x ∷ y ∷ xs) h = absurd (omega (arith, h))

pub returns-in-empty-clause-placed : goal.returns-in-empty-clause-placed
returns-in-empty-clause-placed c = λ added clause s is same.
    placed_empty added clause c.args.self.now c.requires.rest c.requires.state
    (subst (λ (l : List Lit). SameLits l clause) (no_more c.args.lits.now c.in-empty.len_below) same) s

pub returns-in_ok-push-in-len1-clause-placed : goal.returns-in_ok-push-in-len1-clause-placed
returns-in_ok-push-in-len1-clause-placed c = λ added clause s is same.
    let lits = c.args.lits.now in
    let one : 1 ≡ length lits = omega (arith, c.in-len1.len_at_least, c.in-len1.len_below) in
    let x = get_or lits 0 any_lit in
    let e = c.in_ok-push-in-len1.ensures in
    placed_unit added clause c.args.self.now _ x c.args.reference (c.requires.rest, c.requires.state)
    (record { links = refl; units = e.lits; reasons = e.reasons; learnt = refl; phases = refl }) is
    (subst (λ (l : List Lit). SameLits l clause) (one_item lits one) same) (c.requires.known 0 any_lit (omega (arith, one))) s

pub returns-in_ok-add_clause-in_default-clause-placed : goal.returns-in_ok-add_clause-in_default-clause-placed
returns-in_ok-add_clause-in_default-clause-placed c = λ added clause s is same.
    let new = c.add_clause.new.self in
    let e = c.in_ok-add_clause-in_default.ensures in
    let steps = ap (λ (t : Trail). t.steps.items) c.add_clause.ensures.trail ∙ c.requires.rest.0 in
    let waiting = ap (λ (t : Trail). t.steps.items) c.add_clause.ensures.waiting ∙ c.requires.rest.1 in
    placed_kept added clause c.args.lits.now c.args.self.now (with_propagator c.args.self.now new) c.args.reference
    ((steps, waiting), subst (λ n. Propagated (with_propagator c.args.self.now new) n) (ap length steps) c.add_clause.ensures.state)
    (record { vars = c.add_clause.ensures.vars; clauses = e.clauses; references = e.references; units = refl; learnt = refl; phases = refl }) is same
    c.requires.known s
