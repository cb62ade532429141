use Rattle.replay.proofs.Moderate.{lassos_are_moderate}
use Rattle.replay.proofs.laws.lassos_are_moderate.Goals as goal

pub returns : goal.returns
returns c = lassos_are_moderate c.short_terms_are_moderate.ensures.terms c.short_terms_are_moderate.ensures.formulas
