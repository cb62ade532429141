use Rattle.std.proofs.Common.{◌≡◌, ◌∙◌, ℕ, List, map, filter, nat_eq, ap}
use Rattle.std.specs.List.{list_any, range_with_len}
use Rattle.first_lasso.specs.UsedPorts.{types_at}
use Rattle.levels.specs.Levels.{occurring}
use Rattle.levels.specs.Steps.{formulas_meaning, shown_type}
use Rattle.levels.proofs.Built.{built_at, exceeds_at}
use Rattle.levels.proofs.building.over_ports.Goals as goal

pub returns-in-Ok-clause-level : goal.returns-in-Ok-clause-level
returns-in-Ok-clause-level c =
    let scope = c.args.scope.now in
    let meant = formulas_meaning c.args.formulas.now in
    let at : c.occurring_places-places.result.items ≡ occurring scope.drivers.free meant = c.occurring_places-places.ensures.places
    ∙ ap (λ (rs : List ℕ). filter (λ k. list_any (nat_eq k) rs) (range_with_len 0 scope.drivers.free)) c.in_ok-ports.ensures in
    let types : c.in_ok-ports-2.ports ≡ types_at (map shown_type scope.free) (occurring scope.drivers.free meant) = c.in_ok-ports-2.ensures
    ∙ (λ j. types_at (map shown_type (c.as_slice.ensures j)) ((c.as_slice-2.ensures.value ∙ at) j)) in
    built_at scope.component c.occurring_places-places.result.items (occurring scope.drivers.free meant) c.in_ok-ports-2.ports
    (types_at (map shown_type scope.free) (occurring scope.drivers.free meant)) meant c.in-Ok.level at types c.in-Ok.ensures.level

pub returns-in-Err-clause-too_large : goal.returns-in-Err-clause-too_large
returns-in-Err-clause-too_large c = λ is.
    let scope = c.args.scope.now in
    let meant = formulas_meaning c.args.formulas.now in
    let at : c.occurring_places-places.result.items ≡ occurring scope.drivers.free meant = c.occurring_places-places.ensures.places
    ∙ ap (λ (rs : List ℕ). filter (λ k. list_any (nat_eq k) rs) (range_with_len 0 scope.drivers.free)) c.in_ok-ports.ensures in
    exceeds_at c.occurring_places-places.result.items (occurring scope.drivers.free meant) meant at (c.in-Err.ensures.too_large is)
