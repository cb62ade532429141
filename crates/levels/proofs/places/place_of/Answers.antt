use Rattle.std.proofs.Common.{◌≡◌, ◌∙◌, ℕ, Option, Some, None, true, false, slice_get, length, sym, ap, ltb, nat_eq}
use Rattle.std.proofs.lemmas.Bool.{eq-eqb, ne_eqb}
use Rattle.std.specs.Option.{option_map_or}
use Rattle.spec_model.specs.FreePlaces.{count_before}
use Rattle.levels.proofs.PlaceLaws.{placed, listed_by}
use Rattle.levels.proofs.places.place_of.Goals as goal

pub returns-then-found-port-clause-place : goal.returns-then-found-port-clause-place
returns-then-found-port-clause-place c =
    let ds = c.args.places.now in
    let k = c.args.port in
    let found : slice_get ds (count_before ds k) ≡ Some c.in-Some.found.now = ap (slice_get ds) (sym c.count_before-before.ensures) ∙ sym c.in-Some.ensures in
    let here = ap (λ (o : Option ℕ). option_map_or (nat_eq k) o false) found ∙ eq-eqb k c.in-Some.found.now (sym c.if-found-port.true) in
    c.count_before-before.ensures ∙ sym (placed 0 k ds c.requires true here)

pub returns-then-found-port-clause-listed : goal.returns-then-found-port-clause-listed
returns-then-found-port-clause-listed c =
    let ds = c.args.places.now in
    let k = c.args.port in
    let found : slice_get ds (count_before ds k) ≡ Some c.in-Some.found.now = ap (slice_get ds) (sym c.count_before-before.ensures) ∙ sym c.in-Some.ensures in
    let here = ap (λ (o : Option ℕ). option_map_or (nat_eq k) o false) found ∙ eq-eqb k c.in-Some.found.now (sym c.if-found-port.true) in
    listed_by k ds c.requires true here ∙ ap (λ n. ltb n (length ds)) (sym c.count_before-before.ensures)

pub returns-else-found-port-clause-place : goal.returns-else-found-port-clause-place
returns-else-found-port-clause-place c =
    let ds = c.args.places.now in
    let k = c.args.port in
    let found : slice_get ds (count_before ds k) ≡ Some c.in-Some.found.now = ap (slice_get ds) (sym c.count_before-before.ensures) ∙ sym c.in-Some.ensures in
    let here = ap (λ (o : Option ℕ). option_map_or (nat_eq k) o false) found ∙ ne_eqb k c.in-Some.found.now (λ e. c.if-found-port.false (sym e)) in
    sym (placed 0 k ds c.requires false here)

pub returns-else-found-port-clause-listed : goal.returns-else-found-port-clause-listed
returns-else-found-port-clause-listed c =
    let ds = c.args.places.now in
    let k = c.args.port in
    let found : slice_get ds (count_before ds k) ≡ Some c.in-Some.found.now = ap (slice_get ds) (sym c.count_before-before.ensures) ∙ sym c.in-Some.ensures in
    let here = ap (λ (o : Option ℕ). option_map_or (nat_eq k) o false) found ∙ ne_eqb k c.in-Some.found.now (λ e. c.if-found-port.false (sym e)) in
    listed_by k ds c.requires false here

pub returns-in-None-clause-place : goal.returns-in-None-clause-place
returns-in-None-clause-place c =
    let ds = c.args.places.now in
    let k = c.args.port in
    let found : slice_get ds (count_before ds k) ≡ None = ap (slice_get ds) (sym c.count_before-before.ensures) ∙ sym c.in-None.ensures in
    sym (placed 0 k ds c.requires false (ap (λ (o : Option ℕ). option_map_or (nat_eq k) o false) found))

pub returns-in-None-clause-listed : goal.returns-in-None-clause-listed
returns-in-None-clause-listed c =
    let ds = c.args.places.now in
    let k = c.args.port in
    let found : slice_get ds (count_before ds k) ≡ None = ap (slice_get ds) (sym c.count_before-before.ensures) ∙ sym c.in-None.ensures in
    listed_by k ds c.requires false (ap (λ (o : Option ℕ). option_map_or (nat_eq k) o false) found)
