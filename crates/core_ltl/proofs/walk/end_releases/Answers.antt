use Rattle.core_ltl.specs.Steps.{after_not, after_not_until}
use Rattle.core_ltl.specs.Tables.{table_members}
use Rattle.core_ltl.proofs.Chains.{went_on}
use Rattle.core_ltl.proofs.walk.end_releases.Goals as goal

pub returns : goal.returns
returns c =
    went_on c.args.limit c.args.table.now c.put_not.new.self c.put_not_until.new.self (after_not (table_members c.args.table.now) c.args.l)
    c.in_ok-opposite.opposite (λ n j. after_not_until n c.args.k j) c.put_not_until.result c.in_ok-opposite.ensures c.put_not_until.ensures
