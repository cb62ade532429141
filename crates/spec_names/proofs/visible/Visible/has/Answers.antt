use Rattle.std.proofs.Common.{◌||◌, nat_eq, ap, ◌∙◌}
use Rattle.std.specs.List.{list_any}
use Rattle.spec_names.specs.Refinements.{names_around, interface_in, has_enumerator_in}
use Rattle.spec_names.proofs.EnumeratorFacts.{seen_by_index}
use Rattle.spec_names.proofs.visible.Visible.has.Goals as goal

pub returns-else-has_enumerator : goal.returns-else-has_enumerator
returns-else-has_enumerator c =
    let a = names_around c.args.self.surroundings in
    let name = c.args.name.now in
    c.has_place_among.ensures
    ∙ (ap (list_any (λ place. list_any (nat_eq place) c.args.self.places.now)) c.declarers-declarers.ensures
    ∙ (seen_by_index a c.args.self.index.now c.args.self.places.now name c.requires
    ∙ ap (λ b. b || list_any (λ component. has_enumerator_in name (interface_in a component)) a.subs.components.items) c.if-has_enumerator.ensures))
