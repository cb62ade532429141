use Rattle.std.proofs.Common.{arith}
use Rattle.typed_ltl.specs.Formulas.{meaning}
use Rattle.typed_ltl.proofs.Rooms.{cell_count_grows}
use Rattle.typed_ltl.proofs.truth.Bench.new.Goals as goal

pub returns : goal.returns
returns c n le =
    omega
    (arith, cell_count_grows (meaning c.args.f.now) n c.args.positions le, c.in-Some.ensures, c.in_ok-vec.ensures.len, c.in_ok-vec.field-0.ok.0)
