use Rattle.std.proofs.Common.{◌<◌, take}
use Rattle.std.specs.Prelude.{All}
use Rattle.set_vectors.proofs.expansions.are_below.Given as goal

abbrev pub invariant-loop-cut : goal.invariant-loop-cut
invariant-loop-cut l = All (All (λ member. member < l.end)) (take l.cut-index l.cuts)
