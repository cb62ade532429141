use Rattle.std.proofs.Common.{map, take}
use Rattle.spec_names.specs.Words.{pair_at}
use Rattle.spec_names.proofs.Lists.{IsItemAt}
use Rattle.spec_names.proofs.PairFacts.{pair_is_new, pairs_step, set_step}
use Rattle.spec_names.proofs.pairs.note_pairs_again.Goals as goal

pub loop-pair-preserved : goal.loop-pair-preserved
loop-pair-preserved c =
    let at : IsItemAt c.args.pairs.now c.loop-pair.pair-index c.pair-item.result = record { within = c.loop-pair-test.true; same = c.pair-item.is } in
    record {
      set =
          set_step pair_at c.args.pairs.now c.loop-pair.pair-index c.pair-item.result c.loop-pair.set c.add.new.self c.as_str.result.now
          c.as_str-in-loop-pair.result.now at c.as_str.ensures c.as_str-in-loop-pair.ensures c.in_ok-is_new.ensures.pairs c.loop-pair.invariant.set;
      noted =
          pairs_step c.args.kind pair_at c.args.pairs.now c.loop-pair.pair-index c.pair-item.result c.in_ok-is_new.is_new c.loop-pair.first
          c.note_unless.new.first _ at
          (pair_is_new (take c.loop-pair.pair-index (map pair_at c.args.pairs.now)) (pair_at c.pair-item.result) c.loop-pair.set c.as_str.result.now
          c.as_str-in-loop-pair.result.now c.in_ok-is_new.is_new c.as_str.ensures c.as_str-in-loop-pair.ensures c.in_ok-is_new.ensures.added
          c.loop-pair.invariant.set)
          c.note_unless.ensures c.loop-pair.invariant.noted;
    }
