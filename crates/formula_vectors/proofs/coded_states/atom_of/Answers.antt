use Rattle.formula_vectors.proofs.coded_states.atom_of.Goals as goal

pub returns-in-AtMostZero : goal.returns-in-AtMostZero
returns-in-AtMostZero c = λ ports h. (c.read.ensures ports h, c.number.ensures ports)

pub returns-in-IsZero : goal.returns-in-IsZero
returns-in-IsZero c = λ ports h. (c.read-in-IsZero.ensures ports h, c.number-in-IsZero.ensures ports)
