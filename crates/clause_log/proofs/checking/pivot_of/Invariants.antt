use Rattle.std.proofs.Common.{◌≡◌, true, take}
use Rattle.std.specs.List.{Contains}
use Rattle.cnf.specs.declared.lit.Lit.{Lit}
use Rattle.cnf.specs.Clauses.{opposite}
use Rattle.clause_log.specs.Marks.{mark_of}
use Rattle.clause_log.proofs.checking.pivot_of.Given as goal

-- no pivot has its opposite among the literals so far
abbrev pub invariant-loop-lit : goal.invariant-loop-lit
invariant-loop-lit l =
    (pivot : Lit) → pivot.var ≡ l.var → mark_of l.set pivot ≡ true
    → Contains (take l.lit-index l.clause) (opposite pivot) → ⊥
