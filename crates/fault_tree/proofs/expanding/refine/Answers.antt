use Rattle.std.proofs.Common.{ℕ, List, subst, sym}
use Rattle.std.specs.Prelude.{All, Contains}
use Rattle.fault_tree.specs.Forming.{table_sets}
use Rattle.fault_tree.specs.Leaves.{IsRising, AreMinimalOf}
use Rattle.fault_tree.proofs.TableLaws.{unions_rise, minimal_formed}
use Rattle.fault_tree.proofs.expanding.refine.Goals as goal

pub minimal_of-requires : goal.minimal_of-requires
minimal_of-requires c =
    subst (All IsRising) (sym c.in_ok-unions.ensures)
    (unions_rise (table_sets c.args.table.now) c.requires.rising c.args.cuts.now)

pub returns-clause-minimal : goal.returns-clause-minimal
returns-clause-minimal c =
    minimal_formed (table_sets c.args.table.now) c.requires.rising c.args.cuts.now c.in_ok-minimal_of.field-0
    (subst (λ (l : List (List ℕ)). AreMinimalOf (Contains l) c.in_ok-minimal_of.field-0) c.in_ok-unions.ensures
    c.in_ok-minimal_of.ensures)
