use Rattle.std.proofs.Common.{refl, subst}
use Rattle.typed_ltl.specs.Formulas.{proposition_of}
use Rattle.core_ltl.specs.Order.{after_atom}
use Rattle.core_ltl.specs.Tables.{table_members, Adds}
use Rattle.core_ltl.proofs.AtomTables.{as_atom}
use Rattle.core_ltl.proofs.table.Table.put_atom.Goals as goal

pub returns : goal.returns
returns c =
    let old = c.args.self.now in
    subst (λ a. Adds c.args.limit old c.put.new.self (after_atom (table_members old) (proposition_of a)) c.put.result)
    c.in_ok-copy.ensures
    (as_atom c.args.limit old (record old { atoms = c.insert_full.new.self }) c.put.new.self c.in_ok-copy.copy c.in_ok-place.place
    c.put.result refl c.in_ok-place.ensures.keys c.in_ok-place.ensures.index c.put.ensures)
