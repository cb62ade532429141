use Rattle.std.proofs.Common.{ℕ, ◌<◌, subst}
use Rattle.minimal_sets.proofs.BlockLaws.{supersets_in_block}
use Rattle.minimal_sets.proofs.blocks.past_supersets.Goals as goal

pub returns-clause-within : goal.returns-clause-within
returns-clause-within c = λ s from until.
    supersets_in_block c.args.set c.args.subset c.front.result c.requires c.front.ensures.same s from
    (subst (λ (n : ℕ). s.bits < n) c.block_end.ensures until)
