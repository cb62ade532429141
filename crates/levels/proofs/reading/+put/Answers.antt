use Rattle.typed_ltl.specs.Formulas.{meaning}
use Rattle.first_lasso.specs.FormulaPorts.{formula_ports}
use Rattle.levels.proofs.Stepwise.{put_two}
use Rattle.levels.proofs.reading.+put.Goals as goal

pub put_both-returns : goal.put_both-returns
put_both-returns t c =
    put_two c.args.ports.now.items c.put_formula.new.ports.items c.put_formula-2.new.ports.items
    (formula_ports (meaning c.args.f.now)) (formula_ports (meaning c.args.g.now)) c.in_ok-put_formula.ensures c.in_ok-put_formula-2.ensures
