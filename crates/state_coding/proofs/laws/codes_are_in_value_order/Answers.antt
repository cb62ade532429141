use Rattle.state_coding.proofs.CodeLaws.{code_is_place, one_place_each, count_fits, count_least}
use Rattle.state_coding.proofs.laws.codes_are_in_value_order.Goals as goal

pub returns-clause-places : goal.returns-clause-places
returns-clause-places c = code_is_place

pub returns-clause-distinct : goal.returns-clause-distinct
returns-clause-distinct c = one_place_each

pub returns-clause-least : goal.returns-clause-least
returns-clause-least c = λ n some few. (count_fits n some few, λ b fits. count_least n b some few fits)
