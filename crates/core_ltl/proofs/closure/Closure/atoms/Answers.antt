use Rattle.std.proofs.Common.{length, ◌≤◌, subst}
use Rattle.core_ltl.proofs.AtomTables.{length_map}
use Rattle.core_ltl.proofs.closure.Closure.atoms.Goals as goal

pub returns-clause-few : goal.returns-clause-few
returns-clause-few c =
    rw (← c.self.view_is)
    (subst (λ n. n ≤ length c.self.inside.table.nodes.keys) (length_map c.self.inside.table.atoms.keys) c.self.invariant.closed.atom_count)
