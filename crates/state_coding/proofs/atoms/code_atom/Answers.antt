use Rattle.std.proofs.lemmas.Result.{IfOk-weaker}
use Rattle.state_coding.proofs.AtomEnds.{atom_value}
use Rattle.state_coding.proofs.atoms.code_atom.Goals as goal

pub code_form-requires-clause-now : goal.code_form-requires-clause-now
code_form-requires-clause-now g c = c.requires.now.shape

pub code_form-requires-clause-next : goal.code_form-requires-clause-next
code_form-requires-clause-next g c = c.requires.next.shape

pub returns-clause-value : goal.returns-clause-value
returns-clause-value g c =
    IfOk-weaker c.code_form.result _ _
    (λ lit h. atom_value c.atoms_are_right.ensures _ _ _ _ c.args.ports.now c.args.now.now c.args.next.now _ lit
    (record {
      codable = c.requires.ports;
      first = c.requires.now;
      second = c.requires.next;
      reads = c.requires.reads;
      more = c.code_form.ensures.grows.vars;
      coded = h;
    })) c.code_form.ensures.coded

pub returns-clause-answer : goal.returns-clause-answer
returns-clause-answer g c = IfOk-weaker c.code_form.result _ _ (λ lit h. h.answer) c.code_form.ensures.coded

pub returns-clause-vars : goal.returns-clause-vars
returns-clause-vars g c = IfOk-weaker c.code_form.result _ _ (λ lit h. h.vars) c.code_form.ensures.coded

pub returns-clause-clauses : goal.returns-clause-clauses
returns-clause-clauses g c = IfOk-weaker c.code_form.result _ _ (λ lit h. h.clauses) c.code_form.ensures.coded
