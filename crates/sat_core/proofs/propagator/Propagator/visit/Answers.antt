use Rattle.std.proofs.Common.{◌∙◌, ◌≡◌, ◌+◌, ◌-◌, length, ap, sym, subst, inl, inr, arith, List, Option, Some, ℕ}
use Rattle.clause_links.specs.WatchLists.{WatchLists}
use Rattle.sat_core.specs.declared.trail.Trail.{Trail}
use Rattle.sat_core.specs.declared.trail.Step.{Step}
use Rattle.sat_core.specs.declared.clause_ref.ClauseRef.{ClauseRef}
use Rattle.sat_core.specs.Watching.{IsPropagator, IsVisiting, left_from}
use Rattle.sat_core.proofs.WatchLaws.{IsMoved, visiting_past, visiting_moved}
use Rattle.sat_core.proofs.Propagating.{at_watches, at_precedes, watched_within, moved_from, propagator_moved, propagator_waits, forcing_forces}
use Rattle.sat_core.proofs.Propagating.{own_within, satisfied_passed, forcing_passed, left_past}
use Rattle.sat_core.proofs.WatchLaws.{both_back}
use Rattle.sat_core.proofs.propagator.Propagator.visit.Given.{Over}
use Rattle.sat_core.proofs.propagator.Propagator.visit.Goals as goal

pub next-at-requires : goal.next-at-requires
next-at-requires g c =
    let s = c.args.self.now in
    at_watches s.links s.trail.steps.items c.args.watch c.args.before c.args.clause c.lists_are_exact.ensures c.requires.visiting

pub examine-requires-clause-watched : goal.examine-requires-clause-watched
examine-requires-clause-watched g c =
    let s = c.args.self.now in
    at_watches s.links s.trail.steps.items c.args.watch c.args.before c.args.clause c.lists_are_exact.ensures c.requires.visiting

pub move_watch-requires-clause-before : goal.move_watch-requires-clause-before
move_watch-requires-clause-before g c =
    let s = c.args.self.now in
    at_precedes s.links s.trail.steps.items c.args.watch c.args.before c.args.clause c.requires.visiting

pub wait-requires-clause-var : goal.wait-requires-clause-var
wait-requires-clause-var g c =
    let s = c.args.self.now in
    let lit = c.in-Forcing.lit in
    omega (
      arith,
      own_within s.links c.args.clause lit c.args.watch c.lists_are_exact.ensures
          (both_back s.links c.args.clause c.args.watch lit c.in-Forcing.ensures.examined.0),
      c.requires.state.queue_vars,
    )

pub wait-requires-clause-clause : goal.wait-requires-clause-clause
wait-requires-clause-clause g c =
    let s = c.args.self.now in
    let exact = c.lists_are_exact.ensures in
    omega (
      arith,
      c.requires.state.referred,
      watched_within s.links c.args.clause c.args.watch exact
          (at_watches s.links s.trail.steps.items c.args.watch c.args.before c.args.clause exact c.requires.visiting),
    )

past_satisfied : (g : Over) (c : goal.In-Satisfied g)
    → IsVisiting c.args.self.now.links c.args.self.now.trail.steps.items c.args.watch
    (Some c.args.clause) c.next-at.result
past_satisfied g c =
    let s = c.args.self.now in
    visiting_past s.links s.trail.steps.items c.args.watch c.args.before c.next-at.result c.args.clause c.requires.visiting c.next-at.ensures.behind
    (satisfied_passed s.links s.trail.steps.items s.trail.places.items c.args.clause c.args.watch c.lists_are_exact.ensures
    c.requires.state.trail c.requires.wrong c.in-Satisfied.ensures.examined)

pub returns-in-Satisfied-clause-visiting : goal.returns-in-Satisfied-clause-visiting
returns-in-Satisfied-clause-visiting g c = past_satisfied g c

pub returns-in-Satisfied-clause-shorter : goal.returns-in-Satisfied-clause-shorter
returns-in-Satisfied-clause-shorter g c =
    let s = c.args.self.now in
    let exact = c.lists_are_exact.ensures in
    left_past s.links s.links s.trail.steps.items c.args.watch c.args.before (Some c.args.clause) c.next-at.result c.args.clause exact exact
    c.requires.visiting (past_satisfied g c) c.next-at.ensures.behind (λ front back e. inl e)

moved : (g : Over) (c : goal.After-lists_are_exact-in-Movable g)
    → IsMoved c.args.self.now.links c.move_watch.new.self c.args.self.now.trail.steps.items c.args.clause c.args.watch
    c.in-Movable.lit
moved g c =
    let s = c.args.self.now in
    moved_from s.links c.move_watch.new.self s.trail.steps.items s.trail.places.items c.args.clause c.args.watch c.in-Movable.lit
    c.lists_are_exact.ensures c.in-Movable.ensures.examined c.move_watch.ensures.pair c.move_watch.ensures.clauses

past_moved : (g : Over) (c : goal.After-lists_are_exact-in-Movable g)
    → IsVisiting c.move_watch.new.self c.args.self.now.trail.steps.items c.args.watch c.args.before c.next-at.result
past_moved g c =
    let s = c.args.self.now in
    visiting_moved s.links c.move_watch.new.self s.trail.steps.items c.args.clause c.args.watch c.in-Movable.lit (moved g c) s.trail.places.items
    c.args.before c.next-at.result c.requires.state.trail c.requires.wrong (c.requires.state.settled, c.requires.visiting)
    c.next-at.ensures.behind c.move_watch.ensures.from

pub returns-in-Movable-clause-state : goal.returns-in-Movable-clause-state
returns-in-Movable-clause-state g c =
    let s = c.args.self.now in
    propagator_moved s.links c.move_watch.new.self s.references.items s.trail.steps.items s.trail.places.items s.waiting.steps.items
    s.waiting.places.items (length s.trail.steps.items - 1) c.args.clause c.args.watch c.in-Movable.lit c.requires.wrong (moved g c)
    c.move_watch.ensures.vars (omega (arith, c.requires.wrong.long)) c.requires.state

pub returns-in-Movable-clause-visiting : goal.returns-in-Movable-clause-visiting
returns-in-Movable-clause-visiting g c = past_moved g c

pub returns-in-Movable-clause-shorter : goal.returns-in-Movable-clause-shorter
returns-in-Movable-clause-shorter g c =
    let s = c.args.self.now in
    left_past s.links c.move_watch.new.self s.trail.steps.items c.args.watch c.args.before c.args.before c.next-at.result c.args.clause
    c.lists_are_exact.ensures c.lists_are_exact-in-Movable.ensures c.requires.visiting (past_moved g c) c.next-at.ensures.behind
    (λ front back e. inr (c.move_watch.ensures.from front back e))

past_forcing : (g : Over) (c : goal.After-wait g)
    → IsVisiting c.args.self.now.links c.args.self.now.trail.steps.items c.args.watch
    (Some c.args.clause) c.next-at.result
past_forcing g c =
    let s = c.args.self.now in
    visiting_past s.links s.trail.steps.items c.args.watch c.args.before c.next-at.result c.args.clause c.requires.visiting c.next-at.ensures.behind
    (forcing_passed s.links s.trail.steps.items s.trail.places.items c.args.clause c.args.watch c.in-Forcing.lit c.lists_are_exact.ensures
    c.requires.state.trail c.requires.wrong c.in-Forcing.ensures.examined)

pub returns-in-Forcing-clause-state : goal.returns-in-Forcing-clause-state
returns-in-Forcing-clause-state g c =
    let s = c.args.self.now in
    let new = c.wait.new.self in
    let exact = c.lists_are_exact.ensures in
    let within = watched_within s.links c.args.clause c.args.watch exact
    (at_watches s.links s.trail.steps.items c.args.watch c.args.before c.args.clause exact c.requires.visiting) in
    waits_same s.links new.links s.references.items new.references.items s.trail new.trail new.waiting.steps.items new.waiting.places.items
    c.wait.ensures.links c.wait.ensures.references c.wait.ensures.trail
    (propagator_waits s.links s.references.items s.trail.steps.items s.trail.places.items s.waiting.steps.items new.waiting.steps.items
    s.waiting.places.items new.waiting.places.items (length s.trail.steps.items - 1) c.args.clause c.in-Forcing.lit c.requires.state within
    (forcing_forces s.links s.trail.steps.items s.trail.places.items c.args.clause c.args.watch c.in-Forcing.lit exact c.in-Forcing.ensures.examined)
    (c.wait.ensures.queue, c.wait.ensures.vars) c.wait.ensures.waits)
  where
    waits_same : (lists lists' : WatchLists) (references references' : List ClauseRef) (trail trail' : Trail)
        (waiting : List Step)
        (places : List (Option ℕ)) → lists' ≡ lists → references' ≡ references → trail' ≡ trail
        → IsPropagator lists references trail.steps.items trail.places.items waiting places
        (length trail.steps.items - 1)
        → IsPropagator lists' references' trail'.steps.items trail'.places.items waiting places
        (length trail'.steps.items - 1)
    waits_same lists lists' references references' trail trail' waiting places a b c p =
        subst (λ (l : WatchLists). IsPropagator l references' trail'.steps.items trail'.places.items waiting places (length trail'.steps.items - 1)) (sym a)
        (subst (λ (r : List ClauseRef). IsPropagator lists r trail'.steps.items trail'.places.items waiting places (length trail'.steps.items - 1)) (sym b)
        (subst (λ (t : Trail). IsPropagator lists references t.steps.items t.places.items waiting places (length t.steps.items - 1)) (sym c) p))

pub returns-in-Forcing-clause-visiting : goal.returns-in-Forcing-clause-visiting
returns-in-Forcing-clause-visiting g c =
    let s = c.args.self.now in
    subst (λ (l : WatchLists). IsVisiting l s.trail.steps.items c.args.watch (Some c.args.clause) c.next-at.result) (sym c.wait.ensures.links)
    (past_forcing g c)

pub returns-in-Forcing-clause-shorter : goal.returns-in-Forcing-clause-shorter
returns-in-Forcing-clause-shorter g c =
    let s = c.args.self.now in
    let exact = c.lists_are_exact.ensures in
    ap (λ (l : WatchLists). left_from l c.args.watch c.next-at.result + 1) c.wait.ensures.links
    ∙ left_past s.links s.links s.trail.steps.items c.args.watch c.args.before (Some c.args.clause) c.next-at.result c.args.clause exact exact
    c.requires.visiting (past_forcing g c) c.next-at.ensures.behind (λ front back e. inl e)

pub returns-in-Falsified-clause-conflict : goal.returns-in-Falsified-clause-conflict
returns-in-Falsified-clause-conflict g c = λ none.
    let s = c.args.self.now in
    let exact = c.lists_are_exact.ensures in (
      watched_within s.links c.args.clause c.args.watch exact
          (at_watches s.links s.trail.steps.items c.args.watch c.args.before c.args.clause exact c.requires.visiting),
      c.in-Falsified.ensures.examined,
    )
