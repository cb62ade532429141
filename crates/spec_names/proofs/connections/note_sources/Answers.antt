use Rattle.std.proofs.Common.{subst}
use Rattle.spec_names.specs.Enumerators.{HasPlacesOf}
use Rattle.spec_names.proofs.connections.note_sources.Goals as goal

pub note_unread-requires : goal.note_unread-requires
note_unread-requires c = record {
  index = c.requires;
  places = subst (λ cs. HasPlacesOf cs c.in_ok-places.places) c.as_slice.ensures.value c.in_ok-places.ensures;
}
