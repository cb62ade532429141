use Rattle.spec_names.proofs.EnumeratorFacts.{place_none}
use Rattle.spec_names.proofs.visible.PlaceSet.add.Goals as goal

pub returns-in-None : goal.returns-in-None
returns-in-None c = place_none c.args.self.now c.args.component c.in-None.is
