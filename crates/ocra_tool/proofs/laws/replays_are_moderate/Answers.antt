use Rattle.ocra_tool.proofs.laws.replays_are_moderate.Goals as goal

pub returns : goal.returns
returns c = λ width bytes second spec named is lasso.
    c.lassos_are_moderate.ensures spec second named
    (c.resolved_has_values.ensures.small bytes is.tree.tokens is.components spec is.tree.short is.tree.cut is.tree.text is.of.stands)
    (c.resolved_has_values.ensures.typed bytes is.components spec is.of.faultless is.of.stands) lasso
