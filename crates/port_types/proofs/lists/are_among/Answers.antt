use Rattle.std.proofs.Common.{◌≡◌, List, ℕ, take, refl, sym, subst}
use Rattle.std.specs.Prelude.{All, Contains}
use Rattle.std.proofs.lemmas.List.{take_all}
use Rattle.std.proofs.lemmas.List.Elements.{All-get_or, All-more}
use Rattle.port_types.proofs.lists.are_among.Goals as goal

pub returns-then-not-is_among : goal.returns-then-not-is_among
returns-then-not-is_among c = (
  λ wrong. absurd (cc),
  λ all. c.if-not-is_among.ensures.1 (subst (Contains c.args.others.now) (sym c.name-item.is)
      (All-get_or (Contains c.args.others.now) c.args.names.now c.loop-name.name-index c.name-item.result c.loop-name-test.true all)),
)

pub loop-name-preserved : goal.loop-name-preserved
loop-name-preserved c =
    All-more (Contains c.args.others.now) c.args.names.now c.loop-name.name-index c.name-item.result c.loop-name-test.true c.loop-name.invariant
    (subst (Contains c.args.others.now) c.name-item.is (c.if-not-is_among.ensures.0 refl))

pub returns : goal.returns
returns c = (
  λ done. subst (All (Contains c.args.others.now)) (take_all _ _ c.loop-name-test.false) c.loop-name.invariant,
  λ all. refl,
)
