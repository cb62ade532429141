use Rattle.std.proofs.Common.{◌≡◌, map, take, drop}
use Rattle.spec_names.specs.NamesFaults.{again, again_after, same_dotted, dotted_start}
use Rattle.spec_names.specs.Pairs.{HasAllOf}
use Rattle.spec_names.specs.Noting.{noted}
use Rattle.spec_names.specs.Words.{pair_at}
use Rattle.spec_names.proofs.pairs.note_pairs_again.Given as goal

abbrev pub invariant-loop-pair : goal.invariant-loop-pair
invariant-loop-pair l = record {
  set : HasAllOf (take l.pair-index (map pair_at l.pairs)) l.set;
  noted : noted (again_after l.kind same_dotted dotted_start (take l.pair-index (map pair_at l.pairs))
      (drop l.pair-index (map pair_at l.pairs))) l.first
      ≡ noted (again l.kind same_dotted dotted_start (map pair_at l.pairs)) l.fn.first;
}
