use Rattle.std.proofs.Common.{◌∙◌, sym, ap}
use Rattle.cnf.specs.Clauses.{clauses_hold}
use Rattle.state_coding.proofs.StateLaws.{parts_hold, bits_later}
use Rattle.state_coding.proofs.laws.states_stay.Goals as goal

pub returns : goal.returns
returns c = λ n m older newer added ports bits le e is. record {
  shape = bits_later n m ports bits le is.shape;
  holds = λ model h. is.holds model (parts_hold model older added (ap (clauses_hold model) (sym e) ∙ h)).0;
}
