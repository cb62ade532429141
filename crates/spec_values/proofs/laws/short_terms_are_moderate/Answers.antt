use Rattle.spec_values.proofs.Reach.{short_is_moderate, short_is_moderate_on}
use Rattle.spec_values.proofs.laws.short_terms_are_moderate.Goals as goal

pub returns-clause-terms : goal.returns-clause-terms
returns-clause-terms c = short_is_moderate

pub returns-clause-formulas : goal.returns-clause-formulas
returns-clause-formulas c = short_is_moderate_on
