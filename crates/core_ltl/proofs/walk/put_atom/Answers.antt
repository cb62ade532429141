use Rattle.std.proofs.Common.{length, ◌≤◌, subst}
use Rattle.core_ltl.proofs.AtomTables.{length_map}
use Rattle.core_ltl.proofs.walk.put_atom.Goals as goal

pub put_atom-requires-clause-few : goal.put_atom-requires-clause-few
put_atom-requires-clause-few c =
    subst (λ n. n ≤ length c.args.table.now.nodes.keys) (length_map c.args.table.now.atoms.keys) c.requires.closed.atom_count
