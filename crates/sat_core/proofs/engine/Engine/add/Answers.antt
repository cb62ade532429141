use Rattle.std.proofs.Common.{◌≡◌, ◌<◌, ◌≤◌, ◌∙◌, ◌++◌, ◌∷◌, [], Bool, List, length, get_or, subst, sym, refl, Ok, Err, Some, None, Option}
use Rattle.std.proofs.Common.{Contains}
use Rattle.std.proofs.Common.{Vec, Global}
use Rattle.std.specs.Prelude.{Result, IfOk, OnOk, MatchOption, IfSome, IsTrue, ◌↔◌}
use Rattle.std.proofs.lemmas.List.Elements.{All-contains, Contains-get_or}
use Rattle.port_types.specs.declared.memory.NoMemory.{NoMemory}
use Rattle.cnf.specs.declared.lit.Lit.{Lit}
use Rattle.clause_log.specs.Derivations.{SameLits}
use Rattle.sat_core.specs.Outcomes.{HasOpposites}
use Rattle.sat_core.specs.Solving.{AreOnce, IsKeptWith}
use Rattle.sat_core.specs.Engines.{IsEngine}
use Rattle.sat_core.specs.Engines.IsCovered.{Tautology}
use Rattle.sat_core.proofs.Chains.{Contains-head}
use Rattle.sat_core.proofs.Members.{no_lits}
use Rattle.sat_core.proofs.EngineLaws.{propagator_at_rest}
use Rattle.sat_core.proofs.Placing.{placed_apart, unplaced, kept_grows}
use Rattle.sat_core.proofs.engine.Engine.add.Goals as goal

-- what is known of the distinct literals
own_same : (o : Option (Vec Lit Global)) (own : Vec Lit Global) (lits : List Lit) → o ≡ Some own
    → MatchOption o (HasOpposites lits) (λ own. SameLits own.items lits) → SameLits own.items lits
own_same o own lits e m = subst (λ (x : Option (Vec Lit Global)). MatchOption x (HasOpposites lits) (λ own. SameLits own.items lits)) e m

own_once : (o : Option (Vec Lit Global)) (own : Vec Lit Global) → o ≡ Some own → IfSome o (λ own. AreOnce own.items)
    → AreOnce own.items
own_once o own e m = subst (λ (x : Option (Vec Lit Global)). IfSome x (λ own. AreOnce own.items)) e m

own_apart : (o : Option (Vec Lit Global)) (own : Vec Lit Global) (lits : List Lit) → o ≡ Some own
    → IfSome o (λ own. HasOpposites lits → ⊥) → HasOpposites lits → ⊥
own_apart o own lits e m = subst (λ (x : Option (Vec Lit Global)). IfSome x (λ own. HasOpposites lits → ⊥)) e m

clash_of : (o : Option (Vec Lit Global)) (lits : List Lit) → o ≡ None
    → MatchOption o (HasOpposites lits) (λ own. SameLits own.items lits) → HasOpposites lits
clash_of o lits e m = subst (λ (x : Option (Vec Lit Global)). MatchOption x (HasOpposites lits) (λ own. SameLits own.items lits)) e m

same_of : (c : goal.After-as_slice) → SameLits c.as_slice.result.now c.args.lits.now
same_of c =
    subst (λ (l : List Lit). SameLits l c.args.lits.now) (sym c.as_slice.ensures.value)
    (own_same c.in_ok-distinct.field-0 c.in-Some.own c.args.lits.now c.in-Some.is c.in_ok-distinct.ensures.same)

same_end : (c : goal.After-drop-own) → SameLits c.as_slice.result.now c.args.lits.now
same_end c =
    subst (λ (l : List Lit). SameLits l c.args.lits.now) (sym c.as_slice.ensures.value)
    (own_same c.in_ok-distinct.field-0 c.in-Some.own c.args.lits.now c.in-Some.is c.in_ok-distinct.ensures.same)

pub place-requires-clause-known : goal.place-requires-clause-known
place-requires-clause-known c = λ k d low.
    let own = c.as_slice.result.now in
    All-contains (λ (lit : Lit). lit.var < c.args.self.now.propagator.links.vars) c.args.lits.now (get_or own k d) c.requires.known
    ((same_of c (get_or own k d)).0 (Contains-get_or own k d low))

pub returns-in-None-clause-added : goal.returns-in-None-clause-added
returns-in-None-clause-added c = λ added s is.
    let e = c.args.self.now in
    let d = c.distinct.ensures in
    let p = e.propagator in
    let has = clash_of c.in_ok-distinct.field-0 c.args.lits.now c.in-None.is c.in_ok-distinct.ensures.same in
    placed_apart added c.args.lits.now e _ (c.requires.rest.0, d.empty)
    (propagator_at_rest p.links p.references.items p.trail.steps.items p.trail.places.items c.distinct.new.set.steps.items
    c.distinct.new.set.places.items 0 refl d.empty (c.requires.state.trail, d.set) (c.requires.state.vars, d.vars ∙ c.requires.state.queue_vars)
    c.requires.state.referred)
    (record { vars = refl; clauses = refl; references = refl; units = refl; reasons = refl; learnt = refl; derivations = refl }, refl)
    (λ lit h. All-contains (λ (l : Lit). l.var < p.links.vars) c.args.lits.now lit c.requires.known h) (Tautology has.0 has.1 has.2) s

-- the engine whose set was used is the same but for that
emptied : (c : goal.After-drop-own) (added : List (List Lit)) → IsEngine added c.args.self.now → IsEngine added
    (record {
      propagator = record {
        links = c.args.self.now.propagator.links;
        references = c.args.self.now.propagator.references;
        trail = c.args.self.now.propagator.trail;
        waiting = c.distinct.new.set;
      };
      units = c.args.self.now.units;
      learnt = c.args.self.now.learnt;
      phases = c.args.self.now.phases;
    })
emptied c added s =
    let e = c.args.self.now in
    let d = c.distinct.ensures in
    let p = e.propagator in
    unplaced added e _ (c.requires.rest.0, d.empty)
    (propagator_at_rest p.links p.references.items p.trail.steps.items p.trail.places.items c.distinct.new.set.steps.items
    c.distinct.new.set.places.items 0 refl d.empty (c.requires.state.trail, d.set) (c.requires.state.vars, d.vars ∙ c.requires.state.queue_vars)
    c.requires.state.referred)
    (record { vars = refl; clauses = refl; references = refl; units = refl; reasons = refl; learnt = refl; derivations = refl }, refl) s

pub returns-in-Some-clause-added : goal.returns-in-Some-clause-added
returns-in-Some-clause-added c = λ added s is. c.place.ensures.placed added c.args.lits.now (emptied c added s) is (same_end c)

empty_iff : (r : Result Bool NoMemory) (own lits : List Lit) → SameLits own lits → IfOk r
    (λ empty. IsTrue empty ↔ (own ≡ []))
    → IfOk r (λ empty. IsTrue empty ↔ (lits ≡ []))
empty_iff (Ok b) own lits same e = (λ t. none_from own lits same (e.0 t), λ n. e.1 (none_from lits own (λ m. ((same m).1, (same m).0)) n))
  where
    none_from : (xs ys : List Lit) → SameLits xs ys → xs ≡ [] → ys ≡ []
    none_from xs [] same none = refl
    none_from xs (y ∷ ys) same none =
        absurd (no_lits y (subst (λ (l : List Lit). Contains l y) none ((same y).1 (Contains-head y ys))))
empty_iff (Err e) own lits same h = tt

pub returns-in-Some-clause-empty : goal.returns-in-Some-clause-empty
returns-in-Some-clause-empty c = empty_iff c.place.result c.as_slice.result.now c.args.lits.now (same_end c) c.place.ensures.empty

kept_if : (r : Result Bool NoMemory) (old new : List (List Lit)) (clause own : List Lit) → SameLits own clause
    → AreOnce own
    → (HasOpposites clause → ⊥) → (2 ≤ length own → OnOk r (new ≡ old ++ own ∷ [])) → (length own < 2 → new ≡ old)
    → OnOk r (IsKeptWith old new clause)
kept_if (Ok b) old new clause own same once none more stays = kept_grows old new clause own same once none more stays
kept_if (Err e) old new clause own same once none more stays = tt

pub returns-in-Some-clause-kept : goal.returns-in-Some-clause-kept
returns-in-Some-clause-kept c =
    let own = c.in-Some.own in
    let d = c.in_ok-distinct.ensures in
    let once = subst (λ (l : List Lit). AreOnce l) (sym c.as_slice.ensures.value) (own_once c.in_ok-distinct.field-0 own c.in-Some.is d.once) in
    kept_if c.place.result c.args.self.now.propagator.links.clauses c.place.new.self.propagator.links.clauses c.args.lits.now c.as_slice.result.now
    (same_end c) once (own_apart c.in_ok-distinct.field-0 own c.args.lits.now c.in-Some.is d.none_opposite) c.place.ensures.kept
    c.place.ensures.not_kept
