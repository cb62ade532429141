use Rattle.spec_limits.proofs.LimitLemmas.{system_none, system_noted}
use Rattle.spec_limits.proofs.limits.note_system.Goals as goal

pub returns-in-None : goal.returns-in-None
returns-in-None c = system_none c.args.components.now c.system_of.result c.args.first.now c.system_of.ensures c.in-None.is

pub returns-in-Some : goal.returns-in-Some
returns-in-Some c =
    system_noted c.args.components.now c.system_of.result c.in-Some.place c.args.first.now c.note_instances.new.first c.note_instances.result
    c.system_of.ensures c.in-Some.is c.note_instances.ensures
