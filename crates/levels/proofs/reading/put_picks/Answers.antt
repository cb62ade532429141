use Rattle.typed_ltl.specs.Formulas.{choice_of}
use Rattle.first_lasso.specs.FormulaPorts.{choice_ports}
use Rattle.levels.proofs.Stepwise.{put_two}
use Rattle.levels.proofs.reading.put_picks.Goals as goal

pub returns : goal.returns
returns c =
    put_two c.args.ports.now.items c.put_pick.new.ports.items c.put_pick-2.new.ports.items
    (choice_ports (choice_of c.args.a.now)) (choice_ports (choice_of c.args.b.now)) c.in_ok-put_pick.ensures c.in_ok-put_pick-2.ensures
