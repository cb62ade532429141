use Rattle.std.proofs.Common.{◌<◌, ◌≡◌, length, get_or, false}
use Rattle.cnf.specs.declared.lit.Lit.{Lit}
use Rattle.sat_core.specs.Search.{MadeTrue}
use Rattle.sat_core.proofs.search.model.Given as goal

abbrev pub invariant-loop-var : goal.invariant-loop-var
invariant-loop-var l = record {
  count : length l.values.items ≡ l.var;
  reflects : (lit : Lit) → MadeTrue l.trail.steps.items
      (length l.trail.steps.items) lit → lit.var < l.var → get_or l.values.items lit.var false ≡ lit.positive;
}
