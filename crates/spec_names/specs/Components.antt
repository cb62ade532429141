-- The system among components (serves proofs only).
use Rattle.std.specs.Prelude.{ℕ, not, List, ◌++◌, filter_map, is_none, Option}
use Rattle.std.specs.List.{list_all}
use Rattle.oss_base.specs.declared.fault.FaultKind.TheVariants.{F7, F8}
use Rattle.oss_base.specs.declared.place.Span.{Span}
use Rattle.oss_syntax.specs.declared.component.TreeComponent.{TreeComponent}
use Rattle.oss_base.specs.declared.sites.FaultSite.{FaultSite}
use Rattle.spec_names.specs.NamesFaults.{site, past}
use Rattle.spec_names.specs.Noting.{none_if}

abbrev pub system_of : TreeComponent → Option Span
system_of c = c.system

abbrev pub second_system_faults : List TreeComponent → List FaultSite
second_system_faults components = past F8 (λ (span : Span). span.start) 1 (filter_map system_of components)

abbrev pub system_faults : ℕ → List TreeComponent → List FaultSite
system_faults end components =
    none_if (not (list_all (λ (c : TreeComponent). is_none c.system) components)) (site F7 end) ++ second_system_faults
    components
