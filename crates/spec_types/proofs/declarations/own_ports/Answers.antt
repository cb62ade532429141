use Rattle.std.proofs.Common.{◌∙◌, ap}
use Rattle.spec_names.specs.Noting.{noted}
use Rattle.spec_types.specs.Making as making
use Rattle.spec_types.proofs.Making.{built_more, built_all, noted_more, noted_all, own_ports_are, ranges_are}
use Rattle.spec_types.proofs.declarations.own_ports.Goals as goal

pub loop-item-preserved : goal.loop-item-preserved
loop-item-preserved c = record {
  built = built_more making.port_in c.args.items.now c.loop-item.ports c.put_port.new.ports c.loop-item.item-index _ c.loop-item-test.true c.item-item.is
      c.in_ok-put_port.ensures.ports c.loop-item.invariant.built;
  noted = noted_more making.range_faults_at c.args.items.now c.args.first.now c.loop-item.first c.put_port.new.first c.loop-item.item-index _
      c.loop-item-test.true c.item-item.is c.in_ok-put_port.ensures.first c.loop-item.invariant.noted;
}

pub returns-clause-ports : goal.returns-clause-ports
returns-clause-ports c =
    built_all making.port_in c.args.items.now c.loop-item.ports c.loop-item.item-index c.loop-item-test.false c.loop-item.invariant.built
    ∙ own_ports_are c.args.items.now

pub returns-clause-first : goal.returns-clause-first
returns-clause-first c =
    noted_all making.range_faults_at c.args.items.now c.args.first.now c.loop-item.first c.loop-item.item-index c.loop-item-test.false
    c.loop-item.invariant.noted
    ∙ ap (λ list. noted list c.args.first.now) (ranges_are c.args.items.now)
