use Rattle.std.proofs.Common.{◌∙◌, not, false, arith, length, ap, add-one}
use Rattle.cnf.specs.Bounds.{sign_first}
use Rattle.cnf.proofs.BoundLaws.{first_place_at, lower_place_at}
use Rattle.cnf.proofs.bounds.bit_down.Goals as goal

pub returns-then-i-eq0 : goal.returns-then-i-eq0
returns-then-i-eq0 c = first_place_at not c.args.bound.now false c.args.i c.if-i-eq0.true c.requires

pub returns-else-i-eq0 : goal.returns-else-i-eq0
returns-else-i-eq0 c = lower_place_at not c.args.bound.now false c.args.i c.if-i-eq0.false c.requires
