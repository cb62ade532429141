use Rattle.std.proofs.Common.{map}
use Rattle.spec_model.specs.Meanings as meanings
use Rattle.spec_types.proofs.Making.{built_more, built_all, noted_more, noted_all}
use Rattle.spec_types.proofs.connections.wires_of.Goals as goal

pub loop-item-preserved : goal.loop-item-preserved
loop-item-preserved c = record {
  built = built_more _ c.args.items.now (map meanings.wire_meaning c.loop-item.wires) (map meanings.wire_meaning c.put_wire.new.wires) c.loop-item.item-index _
      c.loop-item-test.true c.item-item.is c.in_ok-put_wire.ensures.wires c.loop-item.invariant.built;
  noted = noted_more _ c.args.items.now c.args.first.now c.loop-item.first c.put_wire.new.first c.loop-item.item-index _
      c.loop-item-test.true c.item-item.is c.in_ok-put_wire.ensures.first c.loop-item.invariant.noted;
  known = c.in_ok-put_wire.ensures.known;
}

pub returns-clause-wires : goal.returns-clause-wires
returns-clause-wires c =
    built_all _ c.args.items.now (map meanings.wire_meaning c.loop-item.wires) c.loop-item.item-index c.loop-item-test.false c.loop-item.invariant.built

pub returns-clause-first : goal.returns-clause-first
returns-clause-first c =
    noted_all _ c.args.items.now c.args.first.now c.loop-item.first c.loop-item.item-index c.loop-item-test.false c.loop-item.invariant.noted
