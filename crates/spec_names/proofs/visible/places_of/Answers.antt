use Rattle.std.proofs.Common.{subst}
use Rattle.std.proofs.lemmas.List.{take_all}
use Rattle.spec_names.specs.Enumerators.{HasPlacesOf}
use Rattle.spec_names.proofs.EnumeratorFacts.{places_more}
use Rattle.spec_names.proofs.visible.places_of.Goals as goal

pub loop-component-preserved : goal.loop-component-preserved
loop-component-preserved c =
    places_more c.args.components.now c.loop-component.component-index _ c.loop-component.places c.add.new.self c.loop-component-test.true
    c.loop-component.invariant c.in_ok-add.ensures

pub returns : goal.returns
returns c =
    subst (λ cs. HasPlacesOf cs c.loop-component.places) (take_all c.loop-component.component-index c.args.components.now c.loop-component-test.false)
    c.loop-component.invariant
