use Rattle.std.proofs.Common.{sym, subst}
use Rattle.state_coding.specs.Reads.{ReadsNumbers}
use Rattle.formula_vectors.proofs.coded_states.one_more.Goals as goal

pub returns : goal.returns
returns c = λ ports h. subst (ReadsNumbers ports) (sym c.in_ok-sum.ensures) (c.read.ensures ports h, c.number.ensures ports)
