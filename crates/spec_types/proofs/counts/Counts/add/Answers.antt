use Rattle.std.proofs.Common.{ap, sym, ◌∙◌, ◌+◌, map}
use Rattle.spec_types.specs.Uses as specs
use Rattle.spec_types.specs.Walks as walks
use Rattle.spec_types.proofs.Counting.{insert_counts}
use Rattle.spec_types.proofs.counts.Counts.add.Goals as goal

pub returns : goal.returns
returns c =
    ap (map walks.counted_port) c.in_ok-insert.ensures.entries
    ∙ (insert_counts c.self.inside.counts.entries c.args.port c.in_ok-count.count
    (c.in_ok-count.ensures ∙ ap (λ n. n + 1) (c.count.ensures ∙ ap (λ list. walks.occurrences list c.args.port) (sym c.self.view_is)))
    ∙ ap (λ list. specs.count_one list c.args.port) c.self.view_is)
