use Rattle.std.proofs.Common.{inl, inr}
use Rattle.minimal_sets.proofs.blocks.past_settled.Goals as goal

pub returns-in-Some : goal.returns-in-Some
returns-in-Some c = (
  c.past_supersets.ensures.later,
  λ s from until. inl (record {
    known = c.in-Some.member;
    listed = c.in-Some.ensures.0;
    subset = c.past_supersets.ensures.within s from until;
  }),
)

pub returns-in-Some-superset_in : goal.returns-in-Some-superset_in
returns-in-Some-superset_in c = (
  c.past_subsets.ensures.later,
  λ s from until. inr (record {
    known = c.in-Some-superset_in.other;
    listed = c.in-Some-superset_in.ensures.0;
    superset = c.past_subsets.ensures.within s from until;
  }),
)
