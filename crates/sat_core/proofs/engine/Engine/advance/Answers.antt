use Rattle.std.proofs.Common.{◌≡◌, ℕ, List, refl, sym, ap, subst}
use Rattle.clause_links.specs.WatchLists.{WatchLists}
use Rattle.cnf.specs.declared.lit.Lit.{Lit}
use Rattle.sat_core.specs.declared.trail.Trail.{Trail}
use Rattle.sat_core.specs.Decisions.{AreTrueTo}
use Rattle.sat_core.proofs.Choosing.{seen_none}
use Rattle.sat_core.proofs.SearchLaws.{goes_on, follow_weight, longer_same, weight_positive}
use Rattle.sat_core.proofs.engine.Engine.advance.Goals as goal

pub returns-in-Next-clause-found : goal.returns-in-Next-clause-found
returns-in-Next-clause-found c =
    goes_on c.args.added.now c.args.assumed.now c.args.self.now c.in-Next.step c.requires.search c.requires.quiet c.in-Next.ensures.choice

pub returns-in-Next-clause-longer : goal.returns-in-Next-clause-longer
returns-in-Next-clause-longer c = longer_same c.args.self.now c.args.self.now refl refl

pub returns-in-Next-clause-weight : goal.returns-in-Next-clause-weight
returns-in-Next-clause-weight c =
    follow_weight c.args.added.now c.args.assumed.now c.args.self.now c.in-Next.step c.requires.search c.in-Next.ensures.choice

pub returns-in-Falsified-clause-seen : goal.returns-in-Falsified-clause-seen
returns-in-Falsified-clause-seen c =
    seen_none c.learn.new.self.propagator.trail.steps.items c.args.assumed.now c.back.new.self.assumed c.back.ensures

-- what is true on a trail is true on one that equals it
seen_along : (old new : Trail) (assumed : List Lit) (n : ℕ) → new ≡ old → AreTrueTo old.steps.items assumed n
    → AreTrueTo new.steps.items assumed n
seen_along old new assumed n same seen = subst (λ (t : Trail). AreTrueTo t.steps.items assumed n) (sym same) seen

pub returns-in_err-derivation-in-Refuted-clause-seen : goal.returns-in_err-derivation-in-Refuted-clause-seen
returns-in_err-derivation-in-Refuted-clause-seen c =
    seen_along c.args.self.now.propagator.trail c.refuted.new.self.propagator.trail c.args.assumed.now c.choose_of.new.cursors.assumed
    c.refuted.ensures.trail c.choose_of.ensures.seen

pub returns-in_ok-derivation-in-Refuted-clause-seen : goal.returns-in_ok-derivation-in-Refuted-clause-seen
returns-in_ok-derivation-in-Refuted-clause-seen c =
    seen_along c.args.self.now.propagator.trail c.refuted.new.self.propagator.trail c.args.assumed.now c.choose_of.new.cursors.assumed
    c.refuted.ensures.trail c.choose_of.ensures.seen

pub returns-in_err-derivation-in-Refuted-clause-longer : goal.returns-in_err-derivation-in-Refuted-clause-longer
returns-in_err-derivation-in-Refuted-clause-longer c =
    longer_same c.args.self.now c.refuted.new.self (ap (λ (l : WatchLists). l.vars) c.refuted.ensures.links)
    (ap (λ (l : WatchLists). l.clauses) c.refuted.ensures.links)

pub returns-in_ok-derivation-in-Refuted-clause-longer : goal.returns-in_ok-derivation-in-Refuted-clause-longer
returns-in_ok-derivation-in-Refuted-clause-longer c =
    longer_same c.args.self.now c.refuted.new.self (ap (λ (l : WatchLists). l.vars) c.refuted.ensures.links)
    (ap (λ (l : WatchLists). l.clauses) c.refuted.ensures.links)

pub returns-in_ok-derivation-in-Refuted-clause-weight : goal.returns-in_ok-derivation-in-Refuted-clause-weight
returns-in_ok-derivation-in-Refuted-clause-weight c =
    let t = c.args.self.now.propagator.trail in
    weight_positive t.steps.items t.places.items c.requires.search.engine.propagator.trail

pub returns-in_err-model-in-Done-clause-longer : goal.returns-in_err-model-in-Done-clause-longer
returns-in_err-model-in-Done-clause-longer c = longer_same c.args.self.now c.args.self.now refl refl

pub returns-in_ok-model-in-Done-clause-longer : goal.returns-in_ok-model-in-Done-clause-longer
returns-in_ok-model-in-Done-clause-longer c = longer_same c.args.self.now c.args.self.now refl refl

pub returns-in_ok-model-in-Done-clause-weight : goal.returns-in_ok-model-in-Done-clause-weight
returns-in_ok-model-in-Done-clause-weight c =
    let t = c.args.self.now.propagator.trail in
    weight_positive t.steps.items t.places.items c.requires.search.engine.propagator.trail
