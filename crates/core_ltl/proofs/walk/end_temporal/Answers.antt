use Rattle.std.proofs.Common.{sym, subst}
use Rattle.core_ltl.specs.Steps.{after_not, after_not_until, after_temporal}
use Rattle.core_ltl.specs.Tables.{table_members, Adds}
use Rattle.core_ltl.proofs.Chains.{went_on}
use Rattle.core_ltl.proofs.walk.end_temporal.Goals as goal

pub returns-in_ok-opposite-in-Always : goal.returns-in_ok-opposite-in-Always
returns-in_ok-opposite-in-Always c =
    subst
    (λ u. Adds c.args.limit c.args.table.now c.put_not_until.new.self
    (after_temporal u (table_members c.args.table.now) c.args.truth c.args.k) c.put_not_until.result)
    (sym c.in-Always.is)
    (went_on c.args.limit c.args.table.now c.put_not.new.self c.put_not_until.new.self (after_not (table_members c.args.table.now) c.args.k)
    c.in_ok-opposite-in-Always.opposite (λ n j. after_not_until n c.args.truth j) c.put_not_until.result
    c.in_ok-opposite-in-Always.ensures c.put_not_until.ensures)
