use Rattle.std.proofs.Common.{◌≡◌, ℕ, ◌+◌, min, Option, Some, ap, ◌∙◌}
use Rattle.std.specs.Option.{option_map_or}
use Rattle.spec_model.specs.declared.contract.Contract.{Contract}
use Rattle.connections.specs.LevelFormulas.{contract_at}
use Rattle.connections.specs.PortTables.{port_table}
use Rattle.connections.specs.Sizes.{connections_at, pair_size, largest_level}
use Rattle.connections.proofs.Sizing.{pair_by_table}
use Rattle.connections.proofs.sizes.size_of_contract.Goals as goal

pub returns-in-Some : goal.returns-in-Some
returns-in-Some c =
    let spec = c.args.spec.now in
    let by = connections_at spec c.args.c c.args.sub in
    let found : Some c.in-Some.contract.now ≡ contract_at spec c.args.c c.args.sub c.args.contract = c.in-Some.ensures in
    let same = pair_by_table spec c.args.c c.args.rows.now 0 c.args.sub (port_table c.port_row.result) c.in-Some.contract.now c.port_row.ensures
    c.requires in
    c.size_of_pair.ensures
    ∙ (ap (λ (n : ℕ). min n (largest_level + 1)) same ∙ ap (λ (o : Option Contract). min (option_map_or (pair_size by) o 0) (largest_level + 1)) found)
