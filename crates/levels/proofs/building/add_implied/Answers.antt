use Rattle.std.proofs.Common.{◌∷◌, [], subst}
use Rattle.std.specs.Prelude.{IfOk, OnOk, IsErrOf}
use Rattle.core_ltl.specs.declared.node.NodeId.{NodeId}
use Rattle.core_ltl.specs.declared.stop.ClosureStop.TheVariants as stop
use Rattle.core_ltl.specs.CoreFormulas.{core_form}
use Rattle.core_ltl.specs.Nodes.{members, StandsFor}
use Rattle.typed_ltl.specs.Formulas.{Ltl}
use Rattle.levels.specs.Steps.{AddsFormulas, ExceedsWith}
use Rattle.levels.proofs.building.add_implied.Goals as goal

pub returns-clause-added : goal.returns-clause-added
returns-clause-added c =
    subst (λ (g : Ltl). OnOk c.add.result (AddsFormulas c.args.closure.now c.add.new.closure (g ∷ []))) c.in_ok-implied.ensures c.add.ensures.added

pub returns-clause-too_large : goal.returns-clause-too_large
returns-clause-too_large c =
    subst (λ (g : Ltl). IsErrOf c.add.result stop.TooLarge → ExceedsWith c.args.closure.now (g ∷ [])) c.in_ok-implied.ensures c.add.ensures.too_large

pub returns-clause-node : goal.returns-clause-node
returns-clause-node c =
    subst (λ (g : Ltl). IfOk c.add.result (λ (node : NodeId). StandsFor (members c.add.new.closure) node.0 (core_form g))) c.in_ok-implied.ensures
    c.add.ensures.node
