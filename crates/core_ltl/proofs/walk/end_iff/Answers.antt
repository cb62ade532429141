use Rattle.std.proofs.lemmas.Result.{err_from_is_err_and}
use Rattle.std.proofs.Common.{Err}
use Rattle.core_ltl.specs.Steps.{chain, after_both, after_implication}
use Rattle.core_ltl.specs.Tables.{table_members}
use Rattle.core_ltl.proofs.Chains.{stopped_chain, went_on, node_grows, iff_rest_grows}
use Rattle.core_ltl.specs.declared.node.Node.TheVariants as node
use Rattle.core_ltl.proofs.walk.end_iff.Goals as goal

pub returns-in_err-there : goal.returns-in_err-there
returns-in_err-there c =
    let p = err_from_is_err_and c.from_residual.result c.from_residual.ensures.1 in
    rw (p.1, p.2)
    (stopped_chain c.args.limit c.args.table.now c.put_implication.new.self
    (after_implication (table_members c.args.table.now) c.args.k c.args.l)
    (λ n i. chain (after_implication n c.args.l c.args.k) (λ o j. after_both o i j)) c.in_err-there.field-0.0
    c.in_err-there.ensures (iff_rest_grows c.args.k c.args.l))

pub returns-in_err-back : goal.returns-in_err-back
returns-in_err-back c =
    let p = err_from_is_err_and c.from_residual-in_err-back.result c.from_residual-in_err-back.ensures.1 in
    let mid = c.put_implication.new.self in
    let new = c.put_implication-2.new.self in
    let e = c.in_err-back.field-0.0 in
    let last = stopped_chain c.args.limit mid new (after_implication (table_members mid) c.args.l c.args.k)
    (λ o j. after_both o c.in_ok-there.there j) e c.in_err-back.ensures (λ o j. node_grows o (node.And c.in_ok-there.there j)) in
    rw (p.1, p.2)
    (went_on c.args.limit c.args.table.now mid new (after_implication (table_members c.args.table.now) c.args.k c.args.l)
    c.in_ok-there.there (λ n i. chain (after_implication n c.args.l c.args.k) (λ o j. after_both o i j)) (Err e)
    c.in_ok-there.ensures last)

pub returns : goal.returns
returns c =
    let mid = c.put_implication.new.self in
    let late = c.put_implication-2.new.self in
    let last = went_on c.args.limit mid late c.put_both.new.self (after_implication (table_members mid) c.args.l c.args.k)
    c.in_ok-back.back (λ o j. after_both o c.in_ok-there.there j) c.put_both.result c.in_ok-back.ensures c.put_both.ensures in
    went_on c.args.limit c.args.table.now mid c.put_both.new.self
    (after_implication (table_members c.args.table.now) c.args.k c.args.l) c.in_ok-there.there
    (λ n i. chain (after_implication n c.args.l c.args.k) (λ o j. after_both o i j)) c.put_both.result
    c.in_ok-there.ensures last
