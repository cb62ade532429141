use Rattle.std.proofs.Common.{◌<◌, ◌∙◌, length, ap, sym, subst}
use Rattle.std.specs.List.{All}
use Rattle.typed_ltl.specs.declared.term.Pick.{Pick}
use Rattle.typed_ltl.specs.Formulas.{choice_of}
use Rattle.state_coding.specs.Reads.{ReadsEnumeration}
use Rattle.state_coding.proofs.TermLaws.{port_bits_known}
use Rattle.state_coding.proofs.TermSteps.{same_names_width}
use Rattle.state_coding.proofs.atoms.code_same.Goals as goal

pub code_name-requires-clause-known : goal.code_name-requires-clause-known
code_name-requires-clause-known g c =
    subst (All (λ lit. lit.var < g.B.ClauseBase.vars c.args.base.now)) (sym c.bits_of-row.ensures)
    (port_bits_known (g.B.ClauseBase.vars c.args.base.now) c.args.states.ports.now c.args.states.now.now c.args.states.next.now
    c.in-Port-b.port.0 c.in-Port-b.is_next c.requires.now c.requires.next)

pub code_name-requires-in-Name-b-2-clause-known : goal.code_name-requires-in-Name-b-2-clause-known
code_name-requires-in-Name-b-2-clause-known g c =
    subst (All (λ lit. lit.var < g.B.ClauseBase.vars c.args.base.now)) (sym c.bits_of.ensures)
    (port_bits_known (g.B.ClauseBase.vars c.args.base.now) c.args.states.ports.now c.args.states.now.now c.args.states.next.now
    c.in-Port.port.0 c.in-Port.is_next c.requires.now c.requires.next)

pub code_same_ports-requires-clause-left : goal.code_same_ports-requires-clause-left
code_same_ports-requires-clause-left g c =
    subst (All (λ lit. lit.var < g.B.ClauseBase.vars c.args.base.now)) (sym c.bits_of.ensures)
    (port_bits_known (g.B.ClauseBase.vars c.args.base.now) c.args.states.ports.now c.args.states.now.now c.args.states.next.now
    c.in-Port.port.0 c.in-Port.is_next c.requires.now c.requires.next)

pub code_same_ports-requires-clause-right : goal.code_same_ports-requires-clause-right
code_same_ports-requires-clause-right g c =
    subst (All (λ lit. lit.var < g.B.ClauseBase.vars c.args.base.now)) (sym c.bits_of-in-Port-b-2.ensures)
    (port_bits_known (g.B.ClauseBase.vars c.args.base.now) c.args.states.ports.now c.args.states.now.now c.args.states.next.now
    c.in-Port-b-2.port.0 c.in-Port-b-2.is_next c.requires.now c.requires.next)

pub code_same_ports-requires-clause-same : goal.code_same_ports-requires-clause-same
code_same_ports-requires-clause-same g c = λ e.
    ap length c.bits_of.ensures
    ∙ same_names_width (g.B.ClauseBase.vars c.args.base.now) c.args.states.ports.now c.args.states.now.now c.args.states.next.now
    c.in-Port.port.0 c.in-Port-b-2.port.0 c.in-Port.is_next c.in-Port-b-2.is_next c.requires.now c.requires.next
    (subst (λ (p : Pick). ReadsEnumeration c.args.states.ports.now (choice_of p)) c.in-Port.is c.requires.left)
    (subst (λ (p : Pick). ReadsEnumeration c.args.states.ports.now (choice_of p)) c.in-Port-b-2.is c.requires.right)
    (sym c.names_of-in-Port.ensures ∙ e ∙ c.names_of-in-Port-b-2.ensures)
    ∙ sym (ap length c.bits_of-in-Port-b-2.ensures)
