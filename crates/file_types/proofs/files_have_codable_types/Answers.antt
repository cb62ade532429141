use Rattle.file_types.proofs.FileTypes.{files_codable}
use Rattle.file_types.proofs.files_have_codable_types.Goals as goal

pub returns : goal.returns
returns c = files_codable c.resolved_has_values.ensures.small c.tokens_stand.ensures
