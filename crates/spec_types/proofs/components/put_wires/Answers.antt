use Rattle.std.proofs.Common.{◌∙◌, ap, sym, map, [], Some, option_map}
use Rattle.std.specs.Option.{option_copied, option_map_or}
use Rattle.spec_names.specs.Noting.{noted}
use Rattle.spec_types.specs.Walks as walks
use Rattle.spec_types.specs.Tables as facts
use Rattle.spec_types.proofs.Making.{put_meaning}
use Rattle.spec_types.proofs.components.put_wires.Goals as goal

pub returns-in_ok-push-in-Some-tables-clause-wires : goal.returns-in_ok-push-in-Some-tables-clause-wires
returns-in_ok-push-in-Some-tables-clause-wires c =
    let scopes = map walks.interface c.args.scopes.now in
    put_meaning facts.wire_meanings c.args.wires.now.items c.push.new.self.items c.in_ok-made-in-Some-tables.made _
    c.in_ok-push-in-Some-tables.ensures.items
    (ap Some c.in_ok-made-in-Some-tables.ensures.wires
    ∙ ((λ j. Some (facts.wires_in c.in-Some.component.now (record {
      own = walks.interface c.in-Some-own.own.now;
      subs = c.in-Some-tables.tables.now.subs;
      components = c.as_slice.ensures.value j;
      scopes = scopes;
    })))
    ∙ (λ j. option_map (facts.wires_of_pair scopes) (facts.both (facts.both (option_copied (sym c.in-Some.is j))
    (option_map walks.interface (option_copied (sym c.in-Some-own.is j)))) (option_copied (sym c.in-Some-tables.is j))))))

pub returns-in_ok-push-in-Some-tables-clause-first : goal.returns-in_ok-push-in-Some-tables-clause-first
returns-in_ok-push-in-Some-tables-clause-first c =
    let scopes = map walks.interface c.args.scopes.now in
    c.in_ok-made-in-Some-tables.ensures.first
    ∙ ((λ j. noted (facts.wire_faults_of c.in-Some.component.now (record {
      own = walks.interface c.in-Some-own.own.now;
      subs = c.in-Some-tables.tables.now.subs;
      components = c.as_slice.ensures.value j;
      scopes = scopes;
    })) c.args.first.now)
    ∙ (λ j. noted (option_map_or (facts.wire_faults_of_pair scopes) (facts.both (facts.both (option_copied (sym c.in-Some.is j))
    (option_map walks.interface (option_copied (sym c.in-Some-own.is j)))) (option_copied (sym c.in-Some-tables.is j))) []) c.args.first.now))

pub component_wires-requires : goal.component_wires-requires
component_wires-requires c = record {
  own_is = sym c.requires.own ∙ ap (λ o. option_map walks.interface (option_copied o)) c.in-Some-own.is;
  fit = c.requires.known;
}

pub returns-in_ok-push-in-Some-tables-clause-known : goal.returns-in_ok-push-in-Some-tables-clause-known
returns-in_ok-push-in-Some-tables-clause-known c = c.in_ok-made-in-Some-tables.ensures.known.fit
