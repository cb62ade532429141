-- A node that stands for the core form of a formula holds exactly where the formula does.
use Rattle.std.proofs.Common.{ℕ, ◌↔◌, Ok, sym, subst}
use Rattle.typed_ltl.specs.Formulas.{Ltl}
use Rattle.typed_ltl.specs.Traces.{Trace}
use Rattle.typed_ltl.specs.Truth.{Holds}
use Rattle.core_ltl.specs.declared.node.NodeId.{NodeId}
use Rattle.core_ltl.specs.declared.table.Table.{Table}
use Rattle.core_ltl.specs.CoreFormulas.{Core, CoreHolds, CoreFormsKeepTruth, core_form}
use Rattle.core_ltl.specs.Nodes.{Members, StandsFor, NodeHolds, IsClosure}
use Rattle.core_ltl.specs.Order.{after_formula}
use Rattle.core_ltl.specs.Tables.{table_members, Adds}
use Rattle.core_ltl.proofs.Closed.{added}
use Rattle.core_ltl.proofs.NodeFormulas.{one_formula}

pub node_truth : CoreFormsKeepTruth → (m : Members) (n : ℕ) (l : Ltl) → StandsFor m n (core_form l)
    → (w : Trace) (i : ℕ) → Holds w l i ↔ NodeHolds m w n i
node_truth keeps m n l s w i =
    let both = keeps w l i in (
      λ h. (core_form l, s, both.0 h),
      λ x. both.1 (subst (λ g. CoreHolds w g i) (one_formula m n x.0 (core_form l) x.1 s) x.2),
    )

-- the node that was answered stands for the formula
pub stands_after : (limit : ℕ) (old new : Table) (f : Core) (k : NodeId) → IsClosure (table_members old)
    → Adds limit old new (after_formula (table_members old) f) (Ok k) → StandsFor (table_members new) k.0 f
stands_after limit old new f k c h =
    subst (λ a. StandsFor a.0 a.1.0 f) (sym h.ok) (added (table_members old) c f).stands
