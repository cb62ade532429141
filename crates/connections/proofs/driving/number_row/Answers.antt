use Rattle.std.proofs.Common.{◌≡◌, ◌+◌, ◌∙◌, ap, refl, take, Some, None, arith}
use Rattle.connections.specs.Tables.{vacant}
use Rattle.connections.proofs.Rows.{taken_more, numbered_push_some, numbered_push_none, vacant_push_some, vacant_push_none}
use Rattle.connections.proofs.driving.number_row.Goals as goal
use Rattle.connections.proofs.driving.number_row.Goals.{in-Some+in_ok-push-in-Some, in-None+in_ok-push-in-None+in_ok-next-in-None}

pub loop-cell-preserved : goal.loop-cell-preserved
loop-cell-preserved c =
    let row = c.args.row.now in
    let i = c.loop-cell.cell-index in
    elim c.match-cell.branch [
      | in-Some+in_ok-push-in-Some w ↦
          (let t = taken_more row i (Some w.in-Some.wire) _ c.loop-cell-test.true w.in-Some.is in
          let e : c.match-cell.drivers.items ≡ w.push.new.self.items = rw w.drivers-is refl in
          let p = numbered_push_some c.args.first (take i row) w.in-Some.wire in
          let v = vacant_push_some (take i row) w.in-Some.wire in
          record {
            drivers = cc (e, w.in_ok-push-in-Some.ensures.items, t, p, c.loop-cell.invariant.drivers);
            next = cc (w.next-is, t, v, c.loop-cell.invariant.next);
          })
      | in-None+in_ok-push-in-None+in_ok-next-in-None w ↦
          (let t = taken_more row i None _ c.loop-cell-test.true w.in-None.is in
          let e : c.match-cell.drivers.items ≡ w.push-in-None.new.self.items = rw w.drivers-is refl in
          let p = numbered_push_none c.args.first (take i row) in
          let v : vacant (take (i + 1) row) ≡ vacant (take i row) + 1 = ap vacant t ∙ vacant_push_none (take i row) in
          let r : w.checked_add.result ≡ Some w.in_ok-next-in-None.next = w.in_ok-next-in-None.ensures.ok_part in
          let s = rw r at w.checked_add.ensures in
          let n : w.in_ok-next-in-None.next ≡ c.loop-cell.next + 1 = s.1 in
          record {
            drivers = cc (e, w.in_ok-push-in-None.ensures.items, t, p, c.loop-cell.invariant.drivers, c.loop-cell.invariant.next);
            next = omega (arith, w.next-is, n, v, c.loop-cell.invariant.next);
          })
    ]
