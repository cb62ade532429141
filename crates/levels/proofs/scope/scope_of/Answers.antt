use Rattle.levels.proofs.Scopes.{shown_types}
use Rattle.levels.proofs.scope.scope_of.Goals as goal

pub returns-clause-tables : goal.returns-clause-tables
returns-clause-tables c = record {
  rows = c.in_ok-drivers.ensures.rows;
  free = c.in_ok-drivers.ensures.free;
  types = shown_types c.args.spec.now c.args.component c.in_ok-free.free c.in_ok-free.ensures;
}
