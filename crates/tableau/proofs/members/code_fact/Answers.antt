use Rattle.std.proofs.Common.{sym, subst}
use Rattle.tableau.proofs.MemberSteps.{atom_read, fact_coded}
use Rattle.state_coding.specs.Reads.{ReadsPorts}
use Rattle.tableau.proofs.members.code_fact.Goals as goal

pub code_atom-requires-clause-ports : goal.code_atom-requires-clause-ports
code_atom-requires-clause-ports g c = rw c.ports.ensures.ports c.ports.ensures.coded.ports

pub code_atom-requires-clause-reads : goal.code_atom-requires-clause-reads
code_atom-requires-clause-reads g c =
    rw c.ports.ensures.ports (subst (ReadsPorts c.args.tableau.now.ports)
    (sym (atom_read c.args.tableau.now c.atoms.result.now c.index-atoms-atom.result c.args.atom c.atoms.ensures c.index-atoms-atom.is c.requires.atom))
    c.requires.reads)

pub returns-clause-coded : goal.returns-clause-coded
returns-clause-coded g c =
    fact_coded c.args.tableau.now c.args.layer.now c.args.atom _ _ _ _ _ c.ports.result.now c.now.result.now c.next.result.now _
    (record {
      ports_are = c.ports.ensures.ports;
      bits_are = c.now.ensures;
      next_are = c.next.ensures;
      fact = atom_read c.args.tableau.now c.atoms.result.now c.index-atoms-atom.result c.args.atom c.atoms.ensures c.index-atoms-atom.is c.requires.atom;
    })
    (record { answer = c.in_ok-lit.ensures.answer; vars = c.in_ok-lit.ensures.vars; clauses = c.in_ok-lit.ensures.clauses })
