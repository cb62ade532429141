use Rattle.std.proofs.Common.{◌∙◌}
use Rattle.cnf.proofs.ListLaws.{All-opposite-at, any_from_none}
use Rattle.cnf.proofs.lists.gate_any.Goals as goal

pub gate_all-requires : goal.gate_all-requires
gate_all-requires g c = All-opposite-at _ c.args.lits.now _ (c.deref.ensures.value ∙ c.in_ok-others.ensures) c.requires

pub returns-clause-value : goal.returns-clause-value
returns-clause-value g c =
    any_from_none _ _ _ c.args.lits.now _ _ _ c.requires c.in_ok-none.ensures.vars
    (c.deref.ensures.value ∙ c.in_ok-others.ensures) c.in_ok-none.ensures.answer c.negated.ensures c.in_ok-none.ensures.value
