use Rattle.std.proofs.Common.{◌≡◌, ◌+◌, ℕ, length}
use Rattle.std.proofs.lemmas.Result.{IfOk-weaker}
use Rattle.minimal_sets.specs.Searches.{Grows}
use Rattle.minimal_sets.proofs.Cursors.{grows_one}
use Rattle.minimal_sets.proofs.search.advance.Goals as goal

pub returns-in-None-clause-steps : goal.returns-in-None-clause-steps
returns-in-None-clause-steps g c =
    let sets : ℕ = length c.args.members.now + length c.args.outside.now in
    let more : ℕ = length c.settle.new.members + length c.settle.new.outside in
    IfOk-weaker c.settle.result (λ _. more ≡ sets + 1) (λ _. Grows c.args.n c.args.steps.now c.settle.new.steps sets more)
    (λ _ e. grows_one c.args.n c.args.steps.now c.settle.new.steps sets more c.settle.ensures.steps e) c.settle.ensures.more
