use Rattle.std.proofs.Common.{◌<◌, ◌+◌, get_or, take, length, subst, sym, arith, List, Option, Some, None, ℕ}
use Rattle.std.proofs.lemmas.List.{take_all}
use Rattle.std.proofs.lemmas.List.Elements.{Contains-get_or}
use Rattle.cnf.specs.declared.lit.Lit.{Lit}
use Rattle.sat_core.specs.Learning.{OthersFalse, IsLatest}
use Rattle.std.specs.Prelude.{IfSome}
use Rattle.sat_core.specs.declared.trail.Step.{Step}
use Rattle.sat_core.proofs.Members.{any_lit}
use Rattle.sat_core.proofs.Orders.{LastSoFar, latest_next, latest_here, latest_some, latest_none}
use Rattle.sat_core.proofs.order.latest.Goals as goal
use Rattle.sat_core.proofs.order.latest.Goals.{then-end-place, else-end-place}

pub place_after-place-requires-clause-false_ : goal.place_after-place-requires-clause-false_
place_after-place-requires-clause-false_ c =
    c.requires.forces.others (get_or c.args.lits.now c.loop-lit.lit-index any_lit) (Contains-get_or c.args.lits.now c.loop-lit.lit-index any_lit (omega arith))

pub loop-lit-preserved : goal.loop-lit-preserved
loop-lit-preserved c =
    let steps = c.args.trail.now.steps.items in
    let lits = c.args.lits.now in
    let forced = c.args.forced in
    let i = c.loop-lit.lit-index in
    let x = get_or lits i any_lit in
    let after = c.place_after-place.result in
    let inv = c.loop-lit.invariant in
    let low : i < length lits = omega arith in
    elim c.if-end-place.branch [
      | then-end-place w ↦
          let less : c.loop-lit.end < after = w.if-end-place.true in
          record {
            others = subst (λ n. OthersFalse steps n (take (i + 1) lits) forced) (sym w.end-is)
                (latest_next steps lits forced i after c.loop-lit.end after any_lit low c.place_after-place.ensures (omega (arith, less)) (omega arith)
                inv.others);
            last = subst (λ n. LastSoFar steps lits forced n c.if-end-place.last) (sym w.end-is)
                (subst (λ (o : Option Lit). LastSoFar steps lits forced after o) (sym w.last-is)
                (latest_here steps lits forced after c.loop-lit.end x less (Contains-get_or lits i any_lit low) c.place_after-place.ensures));
          }
      | else-end-place w ↦
          record {
            others = subst (λ n. OthersFalse steps n (take (i + 1) lits) forced) (sym w.end-is)
                (latest_next steps lits forced i after c.loop-lit.end c.loop-lit.end any_lit low c.place_after-place.ensures (omega arith)
                (omega (arith, w.if-end-place.false)) inv.others);
            last = subst (λ n. LastSoFar steps lits forced n c.if-end-place.last) (sym w.end-is)
                (subst (λ (o : Option Lit). LastSoFar steps lits forced c.loop-lit.end o) (sym w.last-is) inv.last);
          }
    ]

some_of : (steps : List Step) (lits : List Lit) (forced : Lit) (end : ℕ) (o : Option Lit)
    → OthersFalse steps end lits forced
    → LastSoFar steps lits forced end o → IfSome o (λ lit. IsLatest steps lits forced lit)
some_of steps lits forced end None others last = tt
some_of steps lits forced end (Some lit) others last = latest_some steps lits forced lit end others last

pub returns-clause-some : goal.returns-clause-some
returns-clause-some c =
    let steps = c.args.trail.now.steps.items in
    some_of steps c.args.lits.now c.args.forced c.loop-lit.end c.loop-lit.last
    (subst (λ (l : List Lit). OthersFalse steps c.loop-lit.end l c.args.forced) (take_all c.loop-lit.lit-index c.args.lits.now (omega arith))
    c.loop-lit.invariant.others)
    c.loop-lit.invariant.last

pub returns-clause-none : goal.returns-clause-none
returns-clause-none c = λ none.
    let steps = c.args.trail.now.steps.items in
    latest_none steps c.args.lits.now c.args.forced c.loop-lit.end
    (subst (λ (l : List Lit). OthersFalse steps c.loop-lit.end l c.args.forced) (take_all c.loop-lit.lit-index c.args.lits.now (omega arith))
    c.loop-lit.invariant.others)
    (subst (λ (o : Option Lit). LastSoFar steps c.args.lits.now c.args.forced c.loop-lit.end o) none c.loop-lit.invariant.last)
