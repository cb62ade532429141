use Rattle.std.proofs.Common.{Option, ap, ◌∙◌}
use Rattle.spec_model.specs.declared.contract.Contract.{Contract}
use Rattle.connections.specs.LevelFormulas.{what_it_asks, what_it_gives, contract_at}
use Rattle.connections.specs.PortTables.{port_table, table_reading}
use Rattle.connections.specs.Substitution.{substituted}
use Rattle.connections.proofs.PortReadings.{substituted_by_table}
use Rattle.connections.proofs.substituting.pair_over_free.Goals as goal

pub returns-clause-asked : goal.returns-clause-asked
returns-clause-asked c =
    let table = port_table c.port_row-row.result in
    let spec = c.args.spec.now in
    c.in_ok-assume.ensures
    ∙ (ap (λ (k : Option Contract). substituted (table_reading table) (what_it_asks k)) c.contract_at-contract.ensures
    ∙ substituted_by_table spec c.args.c c.as_slice.result.now c.args.drivers.now.free c.args.sub table
    (what_it_asks (contract_at spec c.args.c c.args.sub c.args.contract))
    c.port_row-row.ensures (c.as_slice.ensures ∙ c.requires.rows) c.requires.free)

pub returns-clause-given : goal.returns-clause-given
returns-clause-given c =
    let table = port_table c.port_row-row.result in
    let spec = c.args.spec.now in
    c.in_ok-guarantee.ensures
    ∙ (ap (λ (k : Option Contract). substituted (table_reading table) (what_it_gives k)) c.contract_at-contract.ensures
    ∙ substituted_by_table spec c.args.c c.as_slice.result.now c.args.drivers.now.free c.args.sub table
    (what_it_gives (contract_at spec c.args.c c.args.sub c.args.contract))
    c.port_row-row.ensures (c.as_slice.ensures ∙ c.requires.rows) c.requires.free)
