use Rattle.std.proofs.Common.{◌∙◌, ap, sym, map, option_map, arith}
use Rattle.std.proofs.lemmas.Option.{slice_get-map}
use Rattle.std.specs.List.{zip}
use Rattle.spec_types.specs.Walks as walks
use Rattle.spec_types.specs.Tables as facts
use Rattle.spec_types.proofs.Zips.{zipped_more, zipped_all, both_are, noted_both_more, noted_zip_all, zip_at, zip_short}
use Rattle.spec_types.proofs.components.all_wires.Goals as goal

pub put_wires-requires-clause-own : goal.put_wires-requires-clause-own
put_wires-requires-clause-own c =
    ap (option_map walks.interface) c.at-own.ensures ∙ sym (slice_get-map walks.interface c.args.scopes.now c.loop-place.place)

pub loop-place-preserved : goal.loop-place-preserved
loop-place-preserved c =
    let scopes = map walks.interface c.args.scopes.now in
    let own = ap (option_map walks.interface) c.at-own.ensures ∙ sym (slice_get-map walks.interface c.args.scopes.now c.loop-place.place) in
    let pair = (λ j. facts.both (c.at-component.ensures j) (own j)) ∙ sym (zip_at c.args.components.now scopes c.loop-place.place) in
    record {
      made = zipped_more (facts.wires_of_pair scopes) (zip c.args.components.now scopes) c.args.refinements.now
          (map facts.wire_meanings c.loop-place.wires.items)
          (map facts.wire_meanings c.put_wires.new.wires.items) c.loop-place.place
          (both_are (facts.wires_of_pair scopes) _ _ _ _ _ c.in_ok-put_wires.ensures.wires pair c.at-tables.ensures) c.loop-place.invariant.made;
      noted = noted_both_more (facts.wire_faults_of_pair scopes) (zip (zip c.args.components.now scopes) c.args.refinements.now) c.args.first.now
          c.loop-place.first
          c.put_wires.new.first c.loop-place.place _
          (zip_at (zip c.args.components.now scopes) c.args.refinements.now c.loop-place.place ∙ (λ j. facts.both (sym pair j) (sym c.at-tables.ensures j)))
          c.in_ok-put_wires.ensures.first c.loop-place.invariant.noted;
      known = c.in_ok-put_wires.ensures.known;
    }

pub returns-clause-wires : goal.returns-clause-wires
returns-clause-wires c =
    let scopes = map walks.interface c.args.scopes.now in
    let short = zip_short c.args.components.now scopes in
    let past = c.loop-place-test.false in
    zipped_all (facts.wires_of_pair scopes) (zip c.args.components.now scopes) c.args.refinements.now (map facts.wire_meanings c.loop-place.wires.items)
    c.loop-place.place (omega (arith, short, past)) c.loop-place.invariant.made

pub returns-clause-first : goal.returns-clause-first
returns-clause-first c =
    let scopes = map walks.interface c.args.scopes.now in
    let short = zip_short c.args.components.now scopes in
    let past = c.loop-place-test.false in
    noted_zip_all (facts.wire_faults_of_pair scopes) (zip c.args.components.now scopes) c.args.refinements.now c.args.first.now c.loop-place.first
    c.loop-place.place
    (omega (arith, short, past)) c.loop-place.invariant.noted
