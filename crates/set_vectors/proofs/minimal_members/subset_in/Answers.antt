use Rattle.std.proofs.Common.{subst}
use Rattle.std.proofs.lemmas.Bool.{iff_false}
use Rattle.std.proofs.lemmas.List.{take_all}
use Rattle.std.proofs.lemmas.List.Elements.{All-more}
use Rattle.std.specs.Prelude.{List, All}
use Rattle.port_types.specs.Sets.{IsSubset}
use Rattle.port_types.specs.declared.sets.Set24.{Set24}
use Rattle.set_vectors.proofs.minimal_members.subset_in.Goals as goal

pub loop-other-preserved : goal.loop-other-preserved
loop-other-preserved c =
    All-more (λ m. IsSubset m c.args.set → ⊥) c.args.sets.now c.loop-other.other-index c.other-item.result c.loop-other-test.true
    c.loop-other.invariant
    (subst (λ (m : Set24). IsSubset m c.args.set → ⊥) c.other-item.is (iff_false c.is_subset.ensures c.if-is_subset.false))

pub returns : goal.returns
returns c =
    subst (All (λ m. IsSubset m c.args.set → ⊥)) (take_all c.loop-other.other-index c.args.sets.now c.loop-other-test.false)
    c.loop-other.invariant
