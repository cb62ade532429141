-- The first fault of a tree in the phases names, types and limits: that of the least phase which has one, in it the one
-- at the least offset, and of these the one of the least number (the phases of the static checks of Aho, Lam, Sethi
-- and Ullman, Compilers: Principles, Techniques, and Tools, 2006; that the first fault alone is told is a choice of
-- this language).
use Rattle.std.specs.Prelude.{◌≡◌, ℕ, List, length, take, Option, Some, option_map}
use Rattle.std.specs.Option.{option_or}
use Rattle.oss_base.specs.Places.{place_after}
use Rattle.oss_base.specs.Sites.{first_of}
use Rattle.oss_base.specs.declared.fault.Fault.{Fault}
use Rattle.oss_base.specs.declared.fault.Stop.{Stop}
use Rattle.oss_base.specs.declared.fault.Stop.TheVariants as stop
use Rattle.oss_base.specs.declared.sites.FaultSite.{FaultSite}
use Rattle.oss_syntax.specs.Trees.{Component}
use Rattle.spec_limits.specs.LimitFaults.{limit_faults}
use Rattle.spec_names.specs.NamesFaults.{names_faults}
use Rattle.spec_types.specs.TreeComponents.{types_faults}

-- where the first fault of a tree stands, in a text of this length
abbrev pub tree_site : ℕ → List Component → Option FaultSite
tree_site end all =
    option_or (first_of (names_faults end all))
    (option_or (first_of (types_faults all)) (first_of (limit_faults all)))

-- the fault of a site in a text of these bytes
abbrev pub fault_at : List ℕ → FaultSite → Fault
fault_at bytes s = record { kind = s.kind; place = place_after (take s.offset bytes) }

-- the first fault of a tree of these bytes
abbrev pub tree_fault : List ℕ → List Component → Option Fault
tree_fault bytes all = option_map (fault_at bytes) (tree_site (length bytes) all)

-- a tree is refused for its first fault alone; want of memory may come at any time
abbrev pub Refuses : List ℕ → List Component → Stop → Type 0
Refuses bytes all (stop.Fault fault) = tree_fault bytes all ≡ Some fault
Refuses bytes all stop.NoMemory = Unit {0}
