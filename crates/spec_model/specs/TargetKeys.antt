-- Serves proofs only: how a table keeps the targets of connections, as pairs of numbers, and a free port as it is
-- shown.

use Rattle.std.specs.Prelude.{ℕ, ◌+◌, Bool, not, nat_eq, ◌&&◌, List, Option, option_map}
use Rattle.std.specs.List.{list_any}
use Rattle.std.specs.Option.{option_map_or}
use Rattle.oss_base.specs.declared.ids.SubId.{SubId}
use Rattle.oss_base.specs.declared.ids.ComponentId.{ComponentId}
use Rattle.spec_model.specs.declared.spec.Spec.{Spec}
use Rattle.spec_model.specs.declared.port.OwnPort.{OwnPort}
use Rattle.spec_model.specs.declared.port.FreePort.{FreePort}
use Rattle.spec_model.specs.declared.wire.Target.{Target}
use Rattle.spec_model.specs.Architecture.{port_at}

-- a target as a pair of numbers
abbrev pub key : Target → ℕ × ℕ
key t = (option_map_or (λ (sub : SubId). sub.0 + 1) t.sub 0, t.port.0)

abbrev pub same_key : ℕ × ℕ → ℕ × ℕ → Bool
same_key a b = nat_eq a.0 b.0 && nat_eq a.1 b.1

abbrev pub has_key : List (ℕ × ℕ) → Target → Bool
has_key keys t = list_any (same_key (key t)) keys

abbrev pub lacks_key : List (ℕ × ℕ) → Target → Bool
lacks_key keys t = not (has_key keys t)

-- a port as it is shown, if it is there
abbrev pub shown_port : Spec → ComponentId → Target → Option FreePort
shown_port spec c t = option_map (λ (port : OwnPort). record {
  sub = t.sub;
  name = port.name;
  kind = port.kind;
}) (port_at spec c t)
