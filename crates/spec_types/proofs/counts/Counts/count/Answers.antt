use Rattle.std.proofs.Common.{Some, None, ap, ◌∙◌}
use Rattle.spec_types.specs.Walks as walks
use Rattle.spec_types.proofs.Counting.{count_found}
use Rattle.spec_types.proofs.counts.Counts.count.Goals as goal

pub returns-in-Some : goal.returns-in-Some
returns-in-Some c =
    count_found c.self.inside.counts.entries c.args.port (Some c.in-Some.count.now) c.in-Some.ensures.value
    ∙ ap (λ list. walks.occurrences list c.args.port) c.self.view_is

pub returns-in-None : goal.returns-in-None
returns-in-None c =
    count_found c.self.inside.counts.entries c.args.port None c.in-None.ensures.value ∙ ap (λ list. walks.occurrences list c.args.port) c.self.view_is
