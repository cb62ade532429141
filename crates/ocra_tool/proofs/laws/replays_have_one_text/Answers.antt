use Rattle.ocra_tool.proofs.Replayed.{told_of, told_once}
use Rattle.ocra_tool.proofs.laws.replays_have_one_text.Goals as goal

pub returns : goal.returns
returns c = λ bytes second text other spec sole t o.
    told_once spec second text other
    (c.resolved_has_values.ensures.small bytes sole.is.tree.tokens sole.is.components spec sole.is.tree.short sole.is.tree.cut sole.is.tree.text
    sole.is.of.stands)
    c.texts_mean_one_lasso.ensures c.judgements_are_unique.ensures
    (told_of bytes second text spec t (sole.only t.spec t.described)) (told_of bytes second other spec o (sole.only o.spec o.described))
