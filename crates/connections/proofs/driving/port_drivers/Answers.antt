use Rattle.std.proofs.Common.{◌≡◌, ap, ◌∙◌, map}
use Rattle.spec_model.specs.Architecture.{wires_of}
use Rattle.connections.specs.Tables.{port_counts, blank, rows_with_wires, drivers_of_rows, vacant_rows}
use Rattle.connections.proofs.Driven.{rows_driven, rows_vacant}
use Rattle.connections.proofs.driving.port_drivers.Goals as goal

pub returns : goal.returns
returns c =
    let spec = c.args.spec.now in
    let all_wires : c.as_slice.result.now ≡ rows_with_wires (map blank (port_counts spec c.args.c)) 0 (wires_of spec c.args.c) =
    cc (c.as_slice.ensures.value, c.note_wires.ensures, c.in_ok-rows.ensures, c.wires_of.ensures) in
    record {
      rows = c.from_vec.ensures ∙ c.in_ok-rows-2.ensures.drivers ∙ ap (drivers_of_rows 0) all_wires ∙ rows_driven spec c.args.c;
      free = c.in_ok-rows-2.ensures.next ∙ ap vacant_rows all_wires ∙ rows_vacant spec c.args.c;
    }
