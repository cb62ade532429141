use Rattle.std.proofs.Common.{◌<◌, ◌+◌, get_or, take, length, subst, sym, refl, arith, ◌∙◌, ap, List, Some, None, Bool}
use Rattle.std.proofs.lemmas.List.{take_all}
use Rattle.cnf.specs.declared.lit.Lit.{Lit}
use Rattle.clause_log.specs.Derivations.{SameLits}
use Rattle.sat_core.specs.declared.trail.Trail.{Trail}
use Rattle.sat_core.specs.Search.{ValueIs, IsTrail}
use Rattle.sat_core.proofs.Members.{any_lit}
use Rattle.sat_core.proofs.LitSets.{lits_of, gathered_more, gathered_again, clash_found}
use Rattle.sat_core.proofs.distinct.gather.Goals as goal
use Rattle.sat_core.proofs.distinct.gather.Goals.{in-Some-true, in-None}

pub returns-in-Some-false-clause-opposite : goal.returns-in-Some-false-clause-opposite
returns-in-Some-false-clause-opposite c =
    let steps = c.loop-lit.set.steps.items in
    let places = c.loop-lit.set.places.items in
    let x = get_or c.args.lits.now c.loop-lit.lit-index any_lit in
    clash_found steps c.args.lits.now c.loop-lit.lit-index (omega arith) c.loop-lit.invariant.all
    (subst (λ (b : Bool). ValueIs steps places x (Some b)) c.in-Some-false.field-0-test c.in-Some-false.ensures)

pub loop-lit-preserved : goal.loop-lit-preserved
loop-lit-preserved c =
    let old = c.loop-lit.set in
    let new = c.match-value.set in
    let lits = c.args.lits.now in
    let i = c.loop-lit.lit-index in
    let x = get_or lits i any_lit in
    let inv = c.loop-lit.invariant in
    let low : i < length lits = omega arith in
    elim c.match-value.branch [
      | in-Some-true w ↦
          let t = subst (λ (b : Bool). ValueIs old.steps.items old.places.items x (Some b)) w.in-Some-true.field-0-test w.in-Some-true.ensures in
          record {
            set = subst (λ (s : Trail). IsTrail s.steps.items s.places.items) (sym w.set-is) inv.set;
            vars = ap (λ (s : Trail). length s.places.items) w.set-is ∙ inv.vars;
            all = subst (λ (s : Trail). SameLits (lits_of s.steps.items) (take (i + 1) lits)) (sym w.set-is)
                (gathered_again old.steps.items lits i low t inv.all);
          }
      | in-None w ↦
          record {
            set = subst (λ (s : Trail). IsTrail s.steps.items s.places.items) (sym w.set-is) w.push.ensures.trail;
            vars = ap (λ (s : Trail). length s.places.items) w.set-is ∙ w.push.ensures.vars ∙ inv.vars;
            all = subst (λ (s : Trail). SameLits (lits_of s.steps.items) (take (i + 1) lits)) (sym w.set-is)
                (gathered_more old.steps.items w.push.new.self.steps.items (record { lit = x; reason = None }) lits i low w.push.ensures.steps refl
                inv.all);
          }
    ]

pub returns-clause-all : goal.returns-clause-all
returns-clause-all c = λ none.
    subst (λ (l : List Lit). SameLits (lits_of c.loop-lit.set.steps.items) l) (take_all c.loop-lit.lit-index c.args.lits.now (omega arith))
    c.loop-lit.invariant.all
