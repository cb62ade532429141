use Rattle.std.proofs.Common.{ℕ, [], ◌∷◌, ◌++◌, ◌∙◌, map, ap, refl}
use Rattle.std.specs.Prelude.{slice_index_or}
use Rattle.port_types.specs.declared.types.PortType.{PortType}
use Rattle.port_types.specs.declared.types.PortType.TheVariants as kind
use Rattle.levels.specs.Steps.{shown_type}
use Rattle.levels.proofs.Stepwise.{mapped_on}
use Rattle.levels.proofs.scope.types_at.Goals as goal

pub loop-place-preserved : goal.loop-place-preserved
loop-place-preserved c =
    mapped_on (λ (p : ℕ). slice_index_or (map shown_type c.args.free.now) p kind.Bool) [] c.loop-place.types c.push.new.self c.args.places.now
    c.loop-place.place-index _ _ c.loop-place-test.true refl c.loop-place.invariant
    (c.in_ok-push.ensures.ok ∙ ap (λ (t : PortType). c.loop-place.types ++ t ∷ []) c.in_ok-made.ensures)
