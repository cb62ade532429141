use Rattle.std.proofs.Common.{rules}
use Rattle.std.proofs.lemmas.Result.{err_from_is_err_and}
use Rattle.typed_ltl.specs.Formulas as form
use Rattle.typed_ltl.specs.Formulas.{meaning}
use Rattle.core_ltl.specs.CoreFormulas as core
use Rattle.core_ltl.specs.CoreFormulas.{core_form}
use Rattle.core_ltl.specs.Steps.{left_core}
use Rattle.core_ltl.proofs.Arms.{as_meant, closed_after, binary_stops_left, binary_stops_right, binary_ends}
use Rattle.core_ltl.proofs.Arms.{temporal_stops_at_truth, temporal_stops_at_part, temporal_ends}
use Rattle.core_ltl.proofs.FormulaForms.{Or_is, Implies_is, Iff_is, Until_is, Releases_is, Future_is, Always_is, Never_is}
use Rattle.core_ltl.proofs.walk.+walk.Goals as goal

pub walk-returns-in-Or : goal.walk-returns-in-Or
walk-returns-in-Or t c =
    let a = c.get-in-Or.result.now in
    let b = c.get-in-Or-2.result.now in
    as_meant c.args.limit c.args.table.now c.walk_binary-in-Or.new.table c.walk_binary-in-Or.result c.args.f.now
    (form.Or (meaning a) (meaning b))
    (Or_is c.args.f.now c.in-Or.f c.in-Or.g a b c.in-Or.is c.get-in-Or.ensures c.get-in-Or-2.ensures)
    c.walk_binary-in-Or.ensures

pub walk-returns-in-Implies : goal.walk-returns-in-Implies
walk-returns-in-Implies t c =
    let a = c.get-in-Implies.result.now in
    let b = c.get-in-Implies-2.result.now in
    as_meant c.args.limit c.args.table.now c.walk_binary-in-Implies.new.table c.walk_binary-in-Implies.result c.args.f.now
    (form.Implies (meaning a) (meaning b))
    (Implies_is c.args.f.now c.in-Implies.f c.in-Implies.g a b c.in-Implies.is c.get-in-Implies.ensures c.get-in-Implies-2.ensures)
    c.walk_binary-in-Implies.ensures

pub walk-returns-in-Iff : goal.walk-returns-in-Iff
walk-returns-in-Iff t c =
    let a = c.get-in-Iff.result.now in
    let b = c.get-in-Iff-2.result.now in
    as_meant c.args.limit c.args.table.now c.walk_binary-in-Iff.new.table c.walk_binary-in-Iff.result c.args.f.now
    (form.Iff (meaning a) (meaning b))
    (Iff_is c.args.f.now c.in-Iff.f c.in-Iff.g a b c.in-Iff.is c.get-in-Iff.ensures c.get-in-Iff-2.ensures)
    c.walk_binary-in-Iff.ensures

pub walk-returns-in-Until : goal.walk-returns-in-Until
walk-returns-in-Until t c =
    let a = c.get-in-Until.result.now in
    let b = c.get-in-Until-2.result.now in
    as_meant c.args.limit c.args.table.now c.walk_binary-in-Until.new.table c.walk_binary-in-Until.result c.args.f.now
    (form.Until (meaning a) (meaning b))
    (Until_is c.args.f.now c.in-Until.f c.in-Until.g a b c.in-Until.is c.get-in-Until.ensures c.get-in-Until-2.ensures)
    c.walk_binary-in-Until.ensures

pub walk-returns-in-Releases : goal.walk-returns-in-Releases
walk-returns-in-Releases t c =
    let a = c.get-in-Releases.result.now in
    let b = c.get-in-Releases-2.result.now in
    as_meant c.args.limit c.args.table.now c.walk_binary-in-Releases.new.table c.walk_binary-in-Releases.result c.args.f.now
    (form.Releases (meaning a) (meaning b))
    (Releases_is c.args.f.now c.in-Releases.f c.in-Releases.g a b c.in-Releases.is c.get-in-Releases.ensures c.get-in-Releases-2.ensures)
    c.walk_binary-in-Releases.ensures

pub walk-returns-in-Future : goal.walk-returns-in-Future
walk-returns-in-Future t c =
    let a = c.get-in-Future.result.now in
    as_meant c.args.limit c.args.table.now c.walk_temporal.new.table c.walk_temporal.result c.args.f.now
    (form.Future (meaning a)) (Future_is c.args.f.now c.in-Future.f a c.in-Future.is c.get-in-Future.ensures)
    c.walk_temporal.ensures

pub walk-returns-in-Always : goal.walk-returns-in-Always
walk-returns-in-Always t c =
    let a = c.get-in-Always.result.now in
    as_meant c.args.limit c.args.table.now c.walk_temporal-in-Always.new.table c.walk_temporal-in-Always.result c.args.f.now
    (form.Always (meaning a)) (Always_is c.args.f.now c.in-Always.f a c.in-Always.is c.get-in-Always.ensures)
    c.walk_temporal-in-Always.ensures

pub walk-returns-in-Never : goal.walk-returns-in-Never
walk-returns-in-Never t c =
    let a = c.get-in-Never.result.now in
    as_meant c.args.limit c.args.table.now c.walk_temporal-in-Never.new.table c.walk_temporal-in-Never.result c.args.f.now
    (form.Never (meaning a)) (Never_is c.args.f.now c.in-Never.f a c.in-Never.is c.get-in-Never.ensures)
    c.walk_temporal-in-Never.ensures

pub walk_binary-returns-in_err-k : goal.walk_binary-returns-in_err-k
walk_binary-returns-in_err-k t c =
    let p = err_from_is_err_and c.from_residual.result c.from_residual.ensures.1 in
    rw (p.1, p.2)
    (binary_stops_left c.args.limit c.args.table.now c.walk_left.new.table c.args.form (core_form (meaning c.args.f.now))
    (core_form (meaning c.args.g.now)) c.in_err-k.field-0.0 c.requires.closed c.in_err-k.ensures)

pub walk_binary-walk-requires : goal.walk_binary-walk-requires
walk_binary-walk-requires t c =
    let closed = closed_after c.args.limit c.args.table.now c.walk_left.new.table
    (left_core c.args.form (core_form (meaning c.args.f.now))) c.in_ok-k.k c.requires.closed c.in_ok-k.ensures in
    (search rules, (closed, c.in_ok-k.ensures.within))

pub walk_binary-returns-in_err-l : goal.walk_binary-returns-in_err-l
walk_binary-returns-in_err-l t c =
    let p = err_from_is_err_and c.from_residual-in_err-l.result c.from_residual-in_err-l.ensures.1 in
    rw (p.1, p.2)
    (binary_stops_right c.args.limit c.args.table.now c.walk_left.new.table c.walk.new.table c.args.form
    (core_form (meaning c.args.f.now)) (core_form (meaning c.args.g.now)) c.in_ok-k.k c.in_err-l.field-0.0 c.requires.closed
    c.in_ok-k.ensures c.in_err-l.ensures)

pub walk_binary-returns : goal.walk_binary-returns
walk_binary-returns t c =
    binary_ends c.args.limit c.args.table.now c.walk_left.new.table c.walk.new.table c.end_binary.new.table c.args.form
    (core_form (meaning c.args.f.now)) (core_form (meaning c.args.g.now)) c.in_ok-k.k c.in_ok-l.l c.end_binary.result
    c.requires.closed c.in_ok-k.ensures c.in_ok-l.ensures c.end_binary.ensures

pub walk_temporal-returns-in_err-truth : goal.walk_temporal-returns-in_err-truth
walk_temporal-returns-in_err-truth t c =
    let p = err_from_is_err_and c.from_residual.result c.from_residual.ensures.1 in
    rw (p.1, p.2)
    (temporal_stops_at_truth c.args.limit c.args.table.now c.put.new.self c.args.form (core_form (meaning c.args.f.now))
    c.in_err-truth.field-0.0 c.in_err-truth.ensures)

pub walk_temporal-walk-requires : goal.walk_temporal-walk-requires
walk_temporal-walk-requires t c =
    let closed = closed_after c.args.limit c.args.table.now c.put.new.self core.True c.in_ok-truth.truth c.requires.closed
    c.in_ok-truth.ensures in
    (search rules, (closed, c.in_ok-truth.ensures.within))

pub walk_temporal-returns-in_err-k : goal.walk_temporal-returns-in_err-k
walk_temporal-returns-in_err-k t c =
    let p = err_from_is_err_and c.from_residual-in_err-k.result c.from_residual-in_err-k.ensures.1 in
    rw (p.1, p.2)
    (temporal_stops_at_part c.args.limit c.args.table.now c.put.new.self c.walk.new.table c.args.form
    (core_form (meaning c.args.f.now)) c.in_ok-truth.truth c.in_err-k.field-0.0 c.in_ok-truth.ensures c.in_err-k.ensures)

pub walk_temporal-returns : goal.walk_temporal-returns
walk_temporal-returns t c =
    temporal_ends c.args.limit c.args.table.now c.put.new.self c.walk.new.table c.end_temporal.new.table c.args.form
    (core_form (meaning c.args.f.now)) c.in_ok-truth.truth c.in_ok-k.k c.end_temporal.result c.in_ok-truth.ensures
    c.in_ok-k.ensures c.end_temporal.ensures
