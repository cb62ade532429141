use Rattle.std.proofs.Common.{◌∙◌, sym, arith}
use Rattle.cnf.proofs.ModelLaws.{IsConservative_trans}
use Rattle.state_coding.proofs.CodeLaws.{var_row-within}
use Rattle.state_coding.proofs.NameLaws.{same_lists}
use Rattle.state_coding.proofs.names.code_same_ports.Goals as goal

pub code_same_rows-requires-clause-same : goal.code_same_rows-requires-clause-same
code_same_rows-requires-clause-same g c =
    c.requires.same (same_lists c.args.x.names.now c.args.y.names.now (sym c.are_same.ensures ∙ c.if-are_same.true))

pub gate_any-requires : goal.gate_any-requires
gate_any-requires g c =
    rw (c.deref.ensures.value, c.in_ok-common.ensures.added.lits)
    (var_row-within (g.B.ClauseBase.vars c.code_common.new.base) (g.B.ClauseBase.vars c.args.base.now) _
    (omega (arith, c.in_ok-common.ensures.added.vars)))

pub returns-clause-grows : goal.returns-clause-grows
returns-clause-grows g c = IsConservative_trans _ _ _ _ _ _ c.code_common.ensures.grows c.gate_any.ensures.grows
