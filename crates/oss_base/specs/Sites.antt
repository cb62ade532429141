-- Sites of faults, a kind and an offset in bytes each, and the first of a list of them.
use Rattle.std.specs.Prelude.{◌≡◌, ◌==◌, nat_lt, Bool, false, ◌&&◌, ◌||◌, if◌then◌else◌, List, [], ◌∷◌, Option}
use Rattle.std.specs.Prelude.{None, Some, All, Contains}
use Rattle.oss_base.specs.Faults.{fault_number}
use Rattle.oss_base.specs.declared.sites.FaultSite.{FaultSite}

-- A site goes before another: at a lesser offset, or at the same one with a kind of a lesser number.
abbrev pub goes_before : FaultSite → FaultSite → Bool
goes_before a b =
    nat_lt a.offset b.offset || (a.offset == b.offset && nat_lt (fault_number a.kind) (fault_number b.kind))

-- The earlier of two sites, either of which may be missing.
abbrev pub earlier_site : Option FaultSite → Option FaultSite → Option FaultSite
earlier_site None other = other
earlier_site (Some site) None = Some site
earlier_site (Some site) (Some other) = Some (if goes_before other site then other else site)

-- The first of a list of sites, if it has one.
abbrev pub first_of : List FaultSite → Option FaultSite
first_of [] = None
first_of (site ∷ sites) = earlier_site (Some site) (first_of sites)

-- A site of the list that no site of it goes before.
pub record IsFirstSite (sites : List FaultSite) (site : FaultSite) : Type 0 where
  pub member : Contains sites site
  pub least : All (λ other. goes_before other site ≡ false) sites
