use Rattle.spec_names.proofs.TablesAt.{interface_tables_at, refinement_tables_at}
use Rattle.spec_names.proofs.laws.directory_has_tables.Goals as goal

pub returns-clause-interface : goal.returns-clause-interface
returns-clause-interface c = λ components d place k is at. interface_tables_at components d.interfaces.items place k is.interfaces at

pub returns-clause-refinement : goal.returns-clause-refinement
returns-clause-refinement c = λ components d place k is at. refinement_tables_at components components d.refinements.items place k is.refinements at
