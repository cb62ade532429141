use Rattle.std.proofs.Common.{◌≡◌, map, filter_map, drop}
use Rattle.spec_names.specs.NamesFaults.{clash_with}
use Rattle.spec_names.specs.Noting.{noted}
use Rattle.spec_names.specs.Words.{word_at}
use Rattle.spec_names.proofs.interfaces.note_clashes.Given as goal

abbrev pub invariant-loop-port : goal.invariant-loop-port
invariant-loop-port l =
    noted (filter_map (clash_with (map word_at l.names)) (drop l.port-index (map word_at l.ports))) l.first
    ≡ noted (filter_map (clash_with (map word_at l.names)) (map word_at l.ports)) l.fn.first
