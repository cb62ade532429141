use Rattle.cnf.proofs.ModelLaws.{IsConservative_trans}
use Rattle.cnf.proofs.GateSteps.{place_clauses}
use Rattle.cnf.proofs.arithmetic.full_adder.Goals as goal

pub returns-in_err-sum-clause-grows : goal.returns-in_err-sum-clause-grows
returns-in_err-sum-clause-grows g c = IsConservative_trans _ _ _ _ _ _ c.gate_xor.ensures.grows c.gate_xor-2.ensures.grows

pub returns-in_err-carry-clause-grows : goal.returns-in_err-carry-clause-grows
returns-in_err-carry-clause-grows g c = IsConservative_trans _ _ _ _ _ _
    (IsConservative_trans _ _ _ _ _ _ c.gate_xor.ensures.grows c.gate_xor-2.ensures.grows) c.gate_majority.ensures.grows

pub returns-clause-grows : goal.returns-clause-grows
returns-clause-grows g c = IsConservative_trans _ _ _ _ _ _
    (IsConservative_trans _ _ _ _ _ _ c.gate_xor.ensures.grows c.gate_xor-2.ensures.grows) c.gate_majority.ensures.grows

pub returns-clause-clauses : goal.returns-clause-clauses
returns-clause-clauses g c =
    place_clauses _ _ _ _ _ _ _ c.args.a c.args.b c.args.carry c.in_ok-either.either
    c.in_ok-either.ensures.clauses c.in_ok-either.ensures.vars c.in_ok-either.ensures.answer c.in_ok-sum.ensures.clauses c.in_ok-sum.ensures.vars
    c.in_ok-carry.ensures.clauses
