use Rattle.std.proofs.Common.{◌≡◌, ◌+◌, sym, take, arith}
use Rattle.connections.specs.Tables.{vacant_rows}
use Rattle.connections.proofs.Rows.{taken_more, numbered_rows_push, vacant_rows_push}
use Rattle.connections.proofs.driving.number_rows.Goals as goal

pub loop-row-preserved : goal.loop-row-preserved
loop-row-preserved c =
    let rows = c.args.rows.now in
    let i = c.loop-row.row-index in
    let t = taken_more rows i c.row-item.result c.row-item.result c.loop-row-test.true (sym c.row-item.is) in
    let d = numbered_rows_push 0 (take i rows) c.row-item.result in
    let v = vacant_rows_push (take i rows) c.row-item.result in
    let z : 0 + vacant_rows (take i rows) ≡ vacant_rows (take i rows) = omega arith in
    record {
      numbered = cc (
        t,
        d,
        z,
        c.in_ok-push.ensures.items,
        c.in_ok-drivers.ensures.drivers,
        c.as_slice.ensures,
        c.loop-row.invariant.numbered,
        c.loop-row.invariant.next,
      );
      next = cc (t, v, c.in_ok-drivers.ensures.next, c.as_slice.ensures, c.loop-row.invariant.next);
    }
