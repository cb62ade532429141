use Rattle.std.proofs.Common.{subst, sym, refl, List}
use Rattle.cnf.specs.declared.lit.Lit.{Lit}
use Rattle.clause_log.specs.Derivations.{SameLits}
use Rattle.sat_core.proofs.LitSets.{once_each, first_apart, none_opposite}
use Rattle.sat_core.proofs.distinct.distinct.Goals as goal

pub returns-in_ok-own-in-None-clause-same : goal.returns-in_ok-own-in-None-clause-same
returns-in_ok-own-in-None-clause-same c =
    subst (λ (l : List Lit). SameLits l c.args.lits.now) (sym c.in_ok-own-in-None.ensures) (c.in-None.ensures.all refl)

pub returns-in_ok-own-in-None-clause-once : goal.returns-in_ok-own-in-None-clause-once
returns-in_ok-own-in-None-clause-once c =
    once_each c.gather-clash.new.set.steps.items c.gather-clash.new.set.places.items c.in_ok-own-in-None.field-0.items c.gather-clash.ensures.set
    c.in_ok-own-in-None.ensures

pub returns-in_ok-own-in-None-clause-apart : goal.returns-in_ok-own-in-None-clause-apart
returns-in_ok-own-in-None-clause-apart c = λ two e.
    first_apart c.in_ok-own-in-None.field-0.items (returns-in_ok-own-in-None-clause-once c) two e

pub returns-in_ok-own-in-None-clause-none_opposite : goal.returns-in_ok-own-in-None-clause-none_opposite
returns-in_ok-own-in-None-clause-none_opposite c = λ has.
    none_opposite c.gather-clash.new.set.steps.items c.gather-clash.new.set.places.items c.args.lits.now c.gather-clash.ensures.set
    (c.in-None.ensures.all refl) has
