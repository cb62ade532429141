use Rattle.typed_ltl.proofs.laws.derived_forms.Goals as goal
use Rattle.typed_ltl.proofs.Derived.{false_is_core, or_is_core, implies_is_core, iff_is_core, future_is_core, always_is_core, never_is_core, releases_is_core}

pub returns : goal.returns
returns c = record {
  falsity = false_is_core;
  disjunction = or_is_core;
  implication = implies_is_core;
  equivalence = iff_is_core;
  future = future_is_core;
  always = always_is_core;
  never = never_is_core;
  releases = releases_is_core;
}
