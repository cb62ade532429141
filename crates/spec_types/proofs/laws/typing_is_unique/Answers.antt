use Rattle.spec_types.proofs.Unique as unique
use Rattle.spec_types.proofs.laws.typing_is_unique.Goals as goal

pub returns : goal.returns
returns c = unique.typing_is_unique
