use Rattle.std.proofs.Common.{◌≡◌, ◌++◌}
use Rattle.std.specs.List.{flat_map, range_with_len}
use Rattle.spec_sample.specs.SampleTexts.{chain_component}
use Rattle.spec_sample.proofs.sampling.append_chain.Given as goal

abbrev pub invariant-loop-place : goal.invariant-loop-place
invariant-loop-place l = l.text ≡ l.fn.text ++ flat_map (chain_component l.n) (range_with_len 1 l.place)
