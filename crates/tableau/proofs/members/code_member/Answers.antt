use Rattle.tableau.proofs.MemberSteps.{not_operand, next_operand_before, and_operands, until_operands, atom_place, atom_fits, within_nodes, known_member}
use Rattle.tableau.proofs.members.code_member.Goals as goal

pub code_fact-requires-clause-atom : goal.code_fact-requires-clause-atom
code_fact-requires-clause-atom g c = atom_place c.args.tableau.now _ c.args.node c.in-Atom.atom c.requires.coded c.requires.node c.in-Atom.is

pub code_fact-requires-clause-reads : goal.code_fact-requires-clause-reads
code_fact-requires-clause-reads g c = atom_fits c.args.tableau.now _ c.args.node c.in-Atom.atom c.requires.coded c.requires.node c.in-Atom.is

pub member-requires : goal.member-requires
member-requires g c = not_operand c.args.tableau.now c.args.layer.now c.args.node c.in-Not.k c.requires.coded c.requires.node c.in-Not.is

pub member-requires-in-And : goal.member-requires-in-And
member-requires-in-And g c =
    (and_operands c.args.tableau.now c.args.layer.now c.args.node c.in-And.k c.in-And.l c.requires.coded c.requires.node c.in-And.is).0

pub member-requires-in-And-2 : goal.member-requires-in-And-2
member-requires-in-And-2 g c =
    (and_operands c.args.tableau.now c.args.layer.now c.args.node c.in-And.k c.in-And.l c.requires.coded c.requires.node c.in-And.is).1

pub gate_and-requires-clause-left : goal.gate_and-requires-clause-left
gate_and-requires-clause-left g c =
    rw c.member-in-And.ensures (known_member _ c.args.tableau.now c.args.layer.now c.in-And.k.0 c.requires.part
    (and_operands c.args.tableau.now c.args.layer.now c.args.node c.in-And.k c.in-And.l c.requires.coded c.requires.node c.in-And.is).0)

pub gate_and-requires-clause-right : goal.gate_and-requires-clause-right
gate_and-requires-clause-right g c =
    rw c.member-in-And-2.ensures (known_member _ c.args.tableau.now c.args.layer.now c.in-And.l.0 c.requires.part
    (and_operands c.args.tableau.now c.args.layer.now c.args.node c.in-And.k c.in-And.l c.requires.coded c.requires.node c.in-And.is).1)

pub code_next-requires-clause-node : goal.code_next-requires-clause-node
code_next-requires-clause-node g c =
    next_operand_before c.args.tableau.now c.args.layer.now c.args.node c.in-Next.k c.requires.coded c.requires.node c.in-Next.is

pub code_next-requires-clause-count : goal.code_next-requires-clause-count
code_next-requires-clause-count g c = within_nodes c.args.tableau.now _ c.args.node c.requires.node

pub member-requires-in-Until : goal.member-requires-in-Until
member-requires-in-Until g c =
    (until_operands c.args.tableau.now c.args.layer.now c.args.node c.in-Until.k c.in-Until.l c.requires.coded c.requires.node c.in-Until.is).0

pub member-requires-in-Until-2 : goal.member-requires-in-Until-2
member-requires-in-Until-2 g c =
    (until_operands c.args.tableau.now c.args.layer.now c.args.node c.in-Until.k c.in-Until.l c.requires.coded c.requires.node c.in-Until.is).1

pub gate_until-requires-clause-left : goal.gate_until-requires-clause-left
gate_until-requires-clause-left g c =
    rw c.member-in-Until.ensures (known_member _ c.args.tableau.now c.args.layer.now c.in-Until.k.0 c.requires.part
    (until_operands c.args.tableau.now c.args.layer.now c.args.node c.in-Until.k c.in-Until.l c.requires.coded c.requires.node c.in-Until.is).0)

pub gate_until-requires-clause-right : goal.gate_until-requires-clause-right
gate_until-requires-clause-right g c =
    rw c.member-in-Until-2.ensures (known_member _ c.args.tableau.now c.args.layer.now c.in-Until.l.0 c.requires.part
    (until_operands c.args.tableau.now c.args.layer.now c.args.node c.in-Until.k c.in-Until.l c.requires.coded c.requires.node c.in-Until.is).1)
