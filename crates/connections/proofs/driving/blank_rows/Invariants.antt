use Rattle.std.proofs.Common.{◌≡◌, ◌∷◌, take, map, length}
use Rattle.spec_model.specs.declared.sub.Sub.{Sub}
use Rattle.spec_model.specs.Architecture.{ports_of}
use Rattle.connections.specs.Tables.{blank}
use Rattle.connections.proofs.driving.blank_rows.Given as goal

abbrev pub invariant-loop-sub : goal.invariant-loop-sub
invariant-loop-sub l = l.rows.items
    ≡ map blank (length (ports_of l.spec l.fn.c) ∷ map (λ (s : Sub). length (ports_of l.spec s.component)) (take l.sub-index l.sub-items))
