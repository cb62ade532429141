use Rattle.std.proofs.Common.{ltb, rules}
use Rattle.std.proofs.lemmas.List.Sorted.{IsPartitionPoint-from_clause}
use Rattle.spec_model.proofs.FreePlaces.{rises_parted, counts_at}
use Rattle.levels.proofs.places.count_before.Goals as goal

pub returns : goal.returns
returns c =
    let parted = rises_parted c.args.place c.args.places.now c.requires in
    let point = IsPartitionPoint-from_clause (λ d. ltb d c.args.place) _ _ c.partition_point.ensures.partitioned parted (λ a r q k. search rules) in
    counts_at c.args.place c.args.places.now c.partition_point.result c.partition_point.ensures.bound point
