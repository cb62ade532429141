-- Which ports an atom may read: ports that are there, of the kind that the place in the atom wants.

use Rattle.std.specs.Prelude.{ℕ, ◌<◌, List, length, slice_index_or}
use Rattle.port_types.specs.declared.types.PortType.{PortType}
use Rattle.port_types.specs.declared.types.PortType.TheVariants as kind
use Rattle.typed_ltl.specs.Formulas.{Number, Choice, Proposition}
use Rattle.typed_ltl.specs.Formulas as form

abbrev pub IsBoolean : PortType → Type 0
IsBoolean kind.Bool = Unit {0}
IsBoolean _ = ⊥

abbrev pub IsRange : PortType → Type 0
IsRange (kind.Range lo hi) = Unit {0}
IsRange _ = ⊥

abbrev pub IsEnumeration : PortType → Type 0
IsEnumeration (kind.Enum names) = Unit {0}
IsEnumeration _ = ⊥

-- the port is there, and of this kind
abbrev pub HasKind : (PortType → Type 0) → List PortType → ℕ → Type 0
HasKind Is ports port = (port < length ports) × Is (slice_index_or ports port kind.Bool)

abbrev pub ReadsNumbers : List PortType → Number → Type 0
ReadsNumbers ports (form.Literal z) = Unit {0}
ReadsNumbers ports (form.NumberAt p next) = HasKind IsRange ports p
ReadsNumbers ports (form.Sum a b) = ReadsNumbers ports a × ReadsNumbers ports b
ReadsNumbers ports (form.Difference a b) = ReadsNumbers ports a × ReadsNumbers ports b
ReadsNumbers ports (form.Opposite a) = ReadsNumbers ports a

abbrev pub ReadsEnumeration : List PortType → Choice → Type 0
ReadsEnumeration ports (form.Named n) = Unit {0}
ReadsEnumeration ports (form.NameAt p next) = HasKind IsEnumeration ports p

abbrev pub ReadsPorts : List PortType → Proposition → Type 0
ReadsPorts ports (form.TruthAt p next) = HasKind IsBoolean ports p
ReadsPorts ports (form.Equals a b) = ReadsNumbers ports a × ReadsNumbers ports b
ReadsPorts ports (form.AtMost a b) = ReadsNumbers ports a × ReadsNumbers ports b
ReadsPorts ports (form.SameName a b) = ReadsEnumeration ports a × ReadsEnumeration ports b
