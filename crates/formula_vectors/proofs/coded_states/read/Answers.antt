use Rattle.std.proofs.Common.{refl, sym, subst}
use Rattle.state_coding.specs.Reads.{ReadsNumbers}
use Rattle.state_coding.proofs.TermSteps.{Port_is}
use Rattle.formula_vectors.proofs.coded_states.read.Goals as goal

pub returns : goal.returns
returns c = λ ports h. subst (ReadsNumbers ports) (sym (Port_is _ c.args.port c.args.next refl)) h
