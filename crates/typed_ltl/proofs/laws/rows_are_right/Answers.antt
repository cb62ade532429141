use Rattle.typed_ltl.proofs.laws.rows_are_right.Goals as goal
use Rattle.typed_ltl.proofs.RowTruth.{rows_are_right}

pub returns : goal.returns
returns c = rows_are_right
