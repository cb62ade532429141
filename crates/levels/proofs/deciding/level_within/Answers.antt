use Rattle.std.proofs.Common.{◌≡◌, ◌∙◌, true, refl, sym, ap}
use Rattle.oss_base.specs.declared.fault.Fault.{Fault}
use Rattle.oss_base.specs.declared.fault.FaultKind.TheVariants as fault
use Rattle.core_ltl.specs.declared.stop.ClosureStop.{ClosureStop}
use Rattle.levels.specs.declared.level.Level.{Level}
use Rattle.levels.specs.LevelFaults.{is_large_level}
use Rattle.levels.proofs.Adding.{err_of}
use Rattle.levels.proofs.Faults.{large_by_size, large_by_closure, not_large, told}
use Rattle.levels.proofs.deciding.level_within.Goals as goal

pub returns-then-has_large_size-clause-large : goal.returns-then-has_large_size-clause-large
returns-then-has_large_size-clause-large c =
    let spec = c.args.spec.now in
    let item = c.args.item.now in
    told Level (λ (f : Fault). is_large_level spec item ≡ true) c.fault.result (record { kind = fault.F28; place = item.place }) c.fault.ensures
    (large_by_size spec item (sym c.has_large_size.ensures ∙ c.if-has_large_size.true))

pub returns-then-has_large_size-clause-fault : goal.returns-then-has_large_size-clause-fault
returns-then-has_large_size-clause-fault c =
    let made : Fault = record { kind = fault.F28; place = c.args.item.now.place } in
    told Level (λ (f : Fault). f ≡ made) c.fault.result made c.fault.ensures refl

pub returns-in-Ok-clause-within : goal.returns-in-Ok-clause-within
returns-in-Ok-clause-within c =
    not_large c.args.spec.now c.args.item.now (sym c.has_large_size.ensures ∙ c.if-has_large_size.false) c.in-Ok.ensures.within

pub returns-in-Err-TooLarge-clause-large : goal.returns-in-Err-TooLarge-clause-large
returns-in-Err-TooLarge-clause-large c =
    let spec = c.args.spec.now in
    let item = c.args.item.now in
    told Level (λ (f : Fault). is_large_level spec item ≡ true) c.fault-in-Err-TooLarge.result (record { kind = fault.F28; place = item.place })
    c.fault-in-Err-TooLarge.ensures
    (large_by_closure spec item (c.in-Err-TooLarge.ensures.too_large (ap (λ (e : ClosureStop). err_of Level e) c.in-Err-TooLarge.field-0-is)))

pub returns-in-Err-TooLarge-clause-fault : goal.returns-in-Err-TooLarge-clause-fault
returns-in-Err-TooLarge-clause-fault c =
    let made : Fault = record { kind = fault.F28; place = c.args.item.now.place } in
    told Level (λ (f : Fault). f ≡ made) c.fault-in-Err-TooLarge.result made c.fault-in-Err-TooLarge.ensures refl
