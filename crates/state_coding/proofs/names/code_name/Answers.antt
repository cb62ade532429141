use Rattle.state_coding.proofs.NameLaws.{place-within}
use Rattle.state_coding.proofs.names.code_name.Goals as goal

pub gate_all-requires : goal.gate_all-requires
gate_all-requires g c =
    rw (c.deref.ensures.value, c.in_ok-lits-in-Some.ensures)
    (place-within (g.B.ClauseBase.vars c.args.base.now) c.args.row.now c.in-Some.place c.requires.known)
