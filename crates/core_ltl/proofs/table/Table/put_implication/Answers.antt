use Rattle.core_ltl.specs.Steps.{after_not, after_not_and}
use Rattle.core_ltl.specs.Tables.{table_members}
use Rattle.core_ltl.proofs.Chains.{went_on}
use Rattle.core_ltl.proofs.table.Table.put_implication.Goals as goal

pub returns : goal.returns
returns c =
    went_on c.args.limit c.args.self.now c.put_not.new.self c.put_not_and.new.self (after_not (table_members c.args.self.now) c.args.l)
    c.in_ok-opposite.opposite (λ n j. after_not_and n c.args.k j) c.put_not_and.result c.in_ok-opposite.ensures c.put_not_and.ensures
