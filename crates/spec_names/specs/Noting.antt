-- The first of the faults that are noted one after the other (serves proofs only).
use Rattle.std.specs.Prelude.{Bool, true, false, List, [], ◌∷◌, Option, Some}
use Rattle.oss_base.specs.declared.sites.FaultSite.{FaultSite}
use Rattle.oss_base.specs.Sites.{earlier_site}

abbrev pub noted : List FaultSite → Option FaultSite → Option FaultSite
noted [] first = first
noted (s ∷ rest) first = noted rest (earlier_site first (Some s))

-- what one of them adds: nothing where it is well
abbrev pub none_if : Bool → FaultSite → List FaultSite
none_if true s = []
none_if false s = s ∷ []
