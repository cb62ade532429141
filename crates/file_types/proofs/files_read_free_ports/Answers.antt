use Rattle.file_types.proofs.FreeReads.{files_read}
use Rattle.file_types.proofs.files_read_free_ports.Goals as goal

pub returns : goal.returns
returns c = files_read c.resolved_is_well_formed.ensures.well c.resolved_is_well_formed.ensures.connected
    c.texts_have_state_sources.ensures
