use Rattle.std.proofs.Common.{◌≡◌, ℕ, ◌+◌, ◌<◌, min, List, take, length, get_or, Option, ap, ◌∙◌, arith}
use Rattle.std.proofs.lemmas.List.Sums.{sum_by_more}
use Rattle.std.specs.List.{sum_by}
use Rattle.spec_model.specs.declared.spec.Spec.{Spec}
use Rattle.spec_model.specs.declared.contract.Contract.{Contract}
use Rattle.oss_base.specs.declared.ids.ComponentId.{ComponentId}
use Rattle.oss_base.specs.declared.ids.SubId.{SubId}
use Rattle.connections.specs.declared.driving.Driver.{Driver}
use Rattle.connections.specs.PortTables.{PortTable, table_wire, table_at, TellConnections}
use Rattle.connections.specs.Sizes.{connections_at, pair_size}

-- Sums that are counted up to a cap.

pub capped : (a b c x y m : ℕ) → x ≡ min a m → y ≡ min b m → c ≡ min (x + y) m → c ≡ min (a + b) m
capped a b c x y m e f g = omega arith

pub capped_more : {X : Type 0} (f : X → ℕ) (first : ℕ) (xs : List X) (i : ℕ) (x : X) (size more next m : ℕ) → i < length xs
    → get_or xs i x ≡ x → size ≡ min (first + sum_by f (take i xs)) m → more ≡ min (f x) m → next ≡ min (size + more) m
    → next ≡ min (first + sum_by f (take (i + 1) xs)) m
capped_more f first xs i x size more next m l e h k g =
    let s = sum_by_more f xs i x l in
    let t : f (get_or xs i x) ≡ f x = ap f e in
    omega (arith, s, t)

-- the size of a contract by the table of drivers
pub pair_by_table : (spec : Spec) (c : ComponentId) (rows : List (List Driver)) (free : ℕ) (sub : Option SubId) (table : PortTable) (k : Contract)
    → table ≡ table_at spec rows free c sub → TellConnections spec c rows
    → pair_size (table_wire table) k ≡ pair_size (connections_at spec c sub) k
pair_by_table spec c rows free sub table k e h =
    ap (λ (t : PortTable). pair_size (table_wire t) k) e ∙ (λ j. pair_size (λ (p : ℕ). h free sub p j) k)
