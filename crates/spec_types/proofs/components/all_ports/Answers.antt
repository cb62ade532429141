use Rattle.std.proofs.Common.{◌∙◌, ap, map}
use Rattle.std.proofs.lemmas.List.{take_all}
use Rattle.spec_types.specs.Tables as tables
use Rattle.spec_types.proofs.Making.{mapped_more, noted_more, noted_all}
use Rattle.spec_types.proofs.components.all_ports.Goals as goal

pub loop-component-preserved : goal.loop-component-preserved
loop-component-preserved c = record {
  made = mapped_more tables.ports_in c.args.components.now c.loop-component.ports.items c.push.new.self.items c.loop-component.component-index _
      c.in_ok-made.made
      c.loop-component-test.true c.component-item.is c.in_ok-made.ensures.ports c.in_ok-push.ensures.items c.loop-component.invariant.made;
  noted = noted_more tables.range_faults_of c.args.components.now c.args.first.now c.loop-component.first c.component_ports.new.first
      c.loop-component.component-index _ c.loop-component-test.true c.component-item.is c.in_ok-made.ensures.first c.loop-component.invariant.noted;
}

pub returns-clause-ports : goal.returns-clause-ports
returns-clause-ports c =
    c.loop-component.invariant.made ∙ ap (map tables.ports_in) (take_all c.loop-component.component-index c.args.components.now c.loop-component-test.false)

pub returns-clause-first : goal.returns-clause-first
returns-clause-first c =
    noted_all tables.range_faults_of c.args.components.now c.args.first.now c.loop-component.first c.loop-component.component-index
    c.loop-component-test.false c.loop-component.invariant.noted
