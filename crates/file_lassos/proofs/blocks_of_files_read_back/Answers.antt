use Rattle.file_lassos.proofs.FileNames.{resolved_names, blocks_back}
use Rattle.file_lassos.proofs.blocks_of_files_read_back.Goals as goal

pub returns-clause-names : goal.returns-clause-names
returns-clause-names c = resolved_names

pub returns-clause-blocks : goal.returns-clause-blocks
returns-clause-blocks c = blocks_back c.blocks_read_back.ensures
