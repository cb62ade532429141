use Rattle.sat_core.proofs.UnitsLog.{units_done}
use Rattle.sat_core.proofs.opposites.units_log.Goals as goal

pub returns-clause-derives : goal.returns-clause-derives
returns-clause-derives c =
    let e = c.in_ok-end.ensures in
    units_done c.args.added.now c.args.assumed.now c.args.place c.args.other c.new-rest.result.items c.push.new.self.items c.in_ok-end.end
    c.new-log.result c.push-2.new.self c.requires c.new-rest.ensures.items c.in_ok-push.ensures.items
    (record { clause_is = e.clause; first_is = e.first; rest_is = e.rest }) c.new-log.ensures
    c.in_ok-push-2.ensures.ok
