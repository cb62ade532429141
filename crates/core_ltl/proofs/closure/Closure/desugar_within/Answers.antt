use Rattle.std.proofs.Common.{arith}
use Rattle.typed_ltl.specs.Formulas.{meaning}
use Rattle.core_ltl.specs.CoreFormulas.{core_form}
use Rattle.core_ltl.specs.Tables.{table_members}
use Rattle.core_ltl.proofs.Arms.{closed_after}
use Rattle.core_ltl.proofs.NodeTruth.{node_truth, stands_after}
use Rattle.core_ltl.proofs.closure.Closure.desugar_within.Goals as goal

pub invariant_of-self : goal.invariant_of-self
invariant_of-self c =
    let limit = c.ranges.limit in
    let within = c.in-Ok.ensures.within in
    record {
      closed = closed_after c.args.limit c.self.inside.table c.walk.new.table (core_form (meaning c.args.f.now)) c.in-Ok.node
          c.self.invariant.closed c.in-Ok.ensures;
      few = omega arith;
    }

pub returns-in-Ok-clause-stands : goal.returns-in-Ok-clause-stands
returns-in-Ok-clause-stands c =
    stands_after c.args.limit c.self.inside.table c.walk.new.table (core_form (meaning c.args.f.now)) c.in-Ok.node
    c.self.invariant.closed c.in-Ok.ensures

pub returns-in-Ok-clause-truth : goal.returns-in-Ok-clause-truth
returns-in-Ok-clause-truth c =
    let stands = stands_after c.args.limit c.self.inside.table c.walk.new.table (core_form (meaning c.args.f.now)) c.in-Ok.node
    c.self.invariant.closed c.in-Ok.ensures in
    node_truth c.core_forms_keep_truth.ensures (table_members c.walk.new.table) c.in-Ok.node.0 (meaning c.args.f.now) stands

pub returns-in-Ok-clause-closed : goal.returns-in-Ok-clause-closed
returns-in-Ok-clause-closed c =
    closed_after c.args.limit c.self.inside.table c.walk.new.table (core_form (meaning c.args.f.now)) c.in-Ok.node
    c.self.invariant.closed c.in-Ok.ensures
