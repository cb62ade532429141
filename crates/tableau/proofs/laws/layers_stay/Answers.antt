use Rattle.std.proofs.Common.{◌∙◌, sym, ap, arith}
use Rattle.cnf.specs.Clauses.{clauses_hold}
use Rattle.state_coding.proofs.StateLaws.{parts_hold, within_later}
use Rattle.tableau.proofs.laws.layers_stay.Goals as goal

pub returns : goal.returns
returns c = λ n m older newer added t layer le e is. record {
  now = c.states_stay.ensures n m older newer added t.ports layer.bits le e is.now;
  next = c.states_stay.ensures n m older newer added t.ports layer.next_bits le e is.next;
  count = is.count;
  members = within_later n m layer.members le is.members;
  state = λ model room h.
      is.state model (omega (arith, le, room)) (parts_hold model older added (sym (ap (clauses_hold model) e) ∙ h)).0;
}
