use Rattle.std.proofs.Common.{◌∙◌, ap, sym, map, option_map}
use Rattle.std.proofs.lemmas.Option.{slice_get-map}
use Rattle.std.specs.List.{zip}
use Rattle.spec_types.specs.Walks as walks
use Rattle.spec_types.specs.Tables as tables
use Rattle.spec_types.proofs.Zips.{zipped_more, zipped_all, both_are, noted_both_more, noted_zip_all, zip_at}
use Rattle.spec_types.proofs.components.all_contracts.Goals as goal

pub loop-place-preserved : goal.loop-place-preserved
loop-place-preserved c =
    let ports = ap (option_map walks.interface) c.at-own.ensures ∙ sym (slice_get-map walks.interface c.args.scopes.now c.loop-place.place) in
    record {
      made = zipped_more tables.contracts_by c.args.components.now (map walks.interface c.args.scopes.now)
          (map tables.contract_meanings c.loop-place.contracts.items)
          (map tables.contract_meanings c.put_contracts.new.contracts.items) c.loop-place.place
          (both_are tables.contracts_by _ _ _ _ _ c.in_ok-put_contracts.ensures.contracts c.at-component.ensures ports) c.loop-place.invariant.made;
      noted = noted_both_more tables.contract_faults_by (zip c.args.components.now (map walks.interface c.args.scopes.now)) c.args.first.now c.loop-place.first
          c.put_contracts.new.first c.loop-place.place _
          (zip_at c.args.components.now (map walks.interface c.args.scopes.now) c.loop-place.place
          ∙ (λ j. tables.both (sym c.at-component.ensures j) (sym ports j)))
          c.in_ok-put_contracts.ensures.first c.loop-place.invariant.noted;
    }

pub returns-clause-contracts : goal.returns-clause-contracts
returns-clause-contracts c =
    zipped_all tables.contracts_by c.args.components.now (map walks.interface c.args.scopes.now) (map tables.contract_meanings c.loop-place.contracts.items)
    c.loop-place.place c.loop-place-test.false c.loop-place.invariant.made

pub returns-clause-first : goal.returns-clause-first
returns-clause-first c =
    noted_zip_all tables.contract_faults_by c.args.components.now (map walks.interface c.args.scopes.now) c.args.first.now c.loop-place.first c.loop-place.place
    c.loop-place-test.false c.loop-place.invariant.noted
