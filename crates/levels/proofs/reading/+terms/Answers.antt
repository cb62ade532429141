use Rattle.typed_ltl.specs.Formulas.{number_of}
use Rattle.first_lasso.specs.FormulaPorts.{number_ports}
use Rattle.levels.proofs.Stepwise.{put_two}
use Rattle.levels.proofs.reading.+terms.Goals as goal

pub put_terms-returns : goal.put_terms-returns
put_terms-returns t c =
    put_two c.args.ports.now.items c.put_term.new.ports.items c.put_term-2.new.ports.items
    (number_ports (number_of c.args.a.now)) (number_ports (number_of c.args.b.now)) c.in_ok-put_term.ensures c.in_ok-put_term-2.ensures
