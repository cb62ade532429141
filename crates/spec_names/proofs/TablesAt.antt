-- The tables of a component stand at its place.
use Rattle.std.proofs.Common.{◌≡◌, ℕ, zero, suc, List, [], ◌∷◌, slice_get, Some, refl, subst}
use Rattle.std.proofs.lemmas.Option.{none-some, same_Some}
use Rattle.oss_syntax.specs.Trees.{Component}
use Rattle.spec_names.specs.declared.interfaces.InterfaceTables.{InterfaceTables}
use Rattle.spec_names.specs.declared.refinements.RefinementTables.{RefinementTables}
use Rattle.spec_names.specs.Directory.{IsInterface, AreInterfaces, IsRefinementOf, AreRefinements}
use Rattle.spec_names.specs.Scopes.{refinement_parts}

pub interface_tables_at : (cs : List Component) (ts : List InterfaceTables) (place : ℕ) (c : Component)
    → AreInterfaces cs ts → slice_get cs place ≡ Some c
    → (t : InterfaceTables) × (slice_get ts place ≡ Some t) × IsInterface c.interface t
interface_tables_at [] ts place c are at = absurd (none-some c at)
interface_tables_at (d ∷ cs) [] place c are at = absurd are
interface_tables_at (d ∷ cs) (t ∷ ts) zero c are at = (t, refl, subst (λ (k : Component). IsInterface k.interface t) (same_Some d c at) are.0)
interface_tables_at (d ∷ cs) (t ∷ ts) (suc place) c are at = interface_tables_at cs ts place c are.1 at

pub refinement_tables_at : (all cs : List Component) (ts : List RefinementTables) (place : ℕ) (c : Component)
    → AreRefinements all cs ts → slice_get cs place ≡ Some c
    → (t : RefinementTables) × (slice_get ts place ≡ Some t) × IsRefinementOf all (refinement_parts c) t
refinement_tables_at all [] ts place c are at = absurd (none-some c at)
refinement_tables_at all (d ∷ cs) [] place c are at = absurd are
refinement_tables_at all (d ∷ cs) (t ∷ ts) zero c are at = (
  t,
  refl,
  subst (λ (k : Component). IsRefinementOf all (refinement_parts k) t) (same_Some d c at)
      are.0,
)
refinement_tables_at all (d ∷ cs) (t ∷ ts) (suc place) c are at = refinement_tables_at all cs ts place c are.1 at
