use Rattle.cnf.proofs.ModelLaws.{lit_holds-opposite}
use Rattle.cnf.proofs.GateLaws.{xor_means}
use Rattle.cnf.proofs.NumberLaws.{sum_adds}
use Rattle.cnf.proofs.GateSteps.{le_says}
use Rattle.cnf.proofs.ListLaws.{all_says, any_says}
use Rattle.cnf.proofs.BoundLaws.{at_most_const_is, limit_compares, constant_number}
use Rattle.cnf.proofs.laws.gates_are_right.Goals as goal

pub returns : goal.returns
returns c = record {
  opposites = lit_holds-opposite;
  xor = xor_means;
  all = all_says;
  any = any_says;
  at_most_const = at_most_const_is;
  limit = limit_compares;
  le = le_says;
  sum = λ model n a b some same room la lb h. sum_adds model n a b same some room la lb h;
  constant = constant_number;
}
