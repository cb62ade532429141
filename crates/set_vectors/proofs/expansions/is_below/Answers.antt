use Rattle.std.proofs.Common.{◌<◌, ℕ, get_or, take, subst, sym}
use Rattle.std.specs.Prelude.{All}
use Rattle.std.proofs.lemmas.List.{take_all, take_more}
use Rattle.std.proofs.lemmas.List.Elements.{All-push}
use Rattle.set_vectors.proofs.expansions.is_below.Goals as goal

pub loop-member-preserved : goal.loop-member-preserved
loop-member-preserved c =
    subst (All (λ (m : ℕ). m < c.args.end))
    (sym (take_more c.args.cut.now c.loop-member.member-index 0 c.loop-member-test.true))
    (All-push (λ (m : ℕ). m < c.args.end) (take c.loop-member.member-index c.args.cut.now)
    (get_or c.args.cut.now c.loop-member.member-index 0) c.loop-member.invariant c.if-member-end.false)

pub returns : goal.returns
returns c = λ _.
    subst (All (λ (m : ℕ). m < c.args.end)) (take_all c.loop-member.member-index c.args.cut.now c.loop-member-test.false)
    c.loop-member.invariant
