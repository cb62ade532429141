use Rattle.architecture.proofs.Written.{text_sources}
use Rattle.architecture.proofs.laws.texts_have_state_sources.Goals as goal

pub returns : goal.returns
returns c = text_sources
