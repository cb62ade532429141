use Rattle.std.proofs.Common.{◌∙◌, length, get_or, refl, ap, sym, subst}
use Rattle.std.proofs.lemmas.Result.{IfOk-weaker}
use Rattle.typed_ltl.specs.declared.atom.Atom.{Atom}
use Rattle.typed_ltl.specs.Formulas.{number_of, proposition_of}
use Rattle.cnf.specs.Gates.{literal}
use Rattle.cnf.proofs.ModelLaws.{append_nil, IsConservative_trans}
use Rattle.state_coding.specs.Coded.{IsCoded}
use Rattle.state_coding.specs.Numbers.{term_coding}
use Rattle.state_coding.specs.Atoms.{equal_coding, at_most_coding, atom_coding}
use Rattle.state_coding.specs.Reads.{ReadsPorts}
use Rattle.state_coding.proofs.StateLaws.{within_later, bits_later}
use Rattle.state_coding.proofs.TermLaws.{term_shape}
use Rattle.state_coding.proofs.AtomSteps.{compared_coded}
use Rattle.state_coding.proofs.TermSteps.{coded_known, truth_width}
use Rattle.state_coding.proofs.atoms.code_form.Goals as goal

pub only_bit-requires : goal.only_bit-requires
only_bit-requires g c =
    ap length c.bits_of.ensures
    ∙ truth_width (g.B.ClauseBase.vars c.args.base.now) c.args.states.ports.now c.args.states.now.now c.args.states.next.now
    c.in-Port.port.0 c.in-Port.is_next c.requires.now c.requires.next
    (subst (λ (a : Atom). ReadsPorts c.args.states.ports.now (proposition_of a)) c.in-Port.is c.requires.reads)

pub returns-in-Port-clause-coded : goal.returns-in-Port-clause-coded
returns-in-Port-clause-coded g c =
    let n = g.B.ClauseBase.vars c.args.base.now in
    subst (λ (a : Atom). IsCoded (g.B.ClauseBase.clauses c.args.base.now) n (g.B.ClauseBase.clauses c.args.base.now) c.only_bit.result
    (atom_coding c.args.states.ports.now c.args.states.now.now c.args.states.next.now n (proposition_of a))) (sym c.in-Port.is)
    (record {
      vars = refl;
      clauses = sym (append_nil (g.B.ClauseBase.clauses c.args.base.now));
      answer = c.only_bit.ensures (literal n) ∙ ap (λ row. get_or row 0 (literal n)) c.bits_of.ensures;
    })

pub code_term-requires-in-Equal-clause-now : goal.code_term-requires-in-Equal-clause-now
code_term-requires-in-Equal-clause-now g c = bits_later _ _ _ _ c.code_term.ensures.grows.vars c.requires.now

pub code_term-requires-in-Equal-clause-next : goal.code_term-requires-in-Equal-clause-next
code_term-requires-in-Equal-clause-next g c = bits_later _ _ _ _ c.code_term.ensures.grows.vars c.requires.next

pub code_equal-requires-clause-left : goal.code_equal-requires-clause-left
code_equal-requires-clause-left g c =
    within_later _ _ _ c.code_term-in-Equal.ensures.grows.vars
    (coded_known (g.B.ClauseBase.vars c.args.base.now) _ _ _ _ _
    (term_shape c.args.states.ports.now c.args.states.now.now c.args.states.next.now (g.B.ClauseBase.vars c.args.base.now) (number_of c.in-Equal.a)
    c.requires.now c.requires.next) c.in_ok-x-in-Equal.ensures.coded)

pub code_equal-requires-clause-right : goal.code_equal-requires-clause-right
code_equal-requires-clause-right g c =
    coded_known (g.B.ClauseBase.vars c.code_term.new.base) _ _ _ _ _
    (term_shape c.args.states.ports.now c.args.states.now.now c.args.states.next.now (g.B.ClauseBase.vars c.code_term.new.base)
    (number_of c.in-Equal.b)
    (bits_later _ _ _ _ c.code_term.ensures.grows.vars c.requires.now)
    (bits_later _ _ _ _ c.code_term.ensures.grows.vars c.requires.next))
    c.in_ok-y-in-Equal.ensures.coded

pub returns-in_ok-y-in-Equal-clause-grows : goal.returns-in_ok-y-in-Equal-clause-grows
returns-in_ok-y-in-Equal-clause-grows g c =
    IsConservative_trans _ _ _ _ _ _ (IsConservative_trans _ _ _ _ _ _ c.code_term.ensures.grows c.code_term-in-Equal.ensures.grows)
    c.code_equal.ensures.grows

pub returns-in_ok-y-in-Equal-clause-coded : goal.returns-in_ok-y-in-Equal-clause-coded
returns-in_ok-y-in-Equal-clause-coded g c =
    let P = c.args.states.ports.now in
    let N = c.args.states.now.now in
    let X = c.args.states.next.now in
    let n = g.B.ClauseBase.vars c.args.base.now in
    IfOk-weaker c.code_equal.result _ _
    (λ lit h. subst (λ (a : Atom). IsCoded (g.B.ClauseBase.clauses c.args.base.now) (g.B.ClauseBase.vars c.code_equal.new.base)
    (g.B.ClauseBase.clauses c.code_equal.new.base) lit (atom_coding P N X n (proposition_of a))) (sym c.in-Equal.is)
    (compared_coded equal_coding _ _ _ _ _ _ _ c.in_ok-x-in-Equal.x c.in_ok-y-in-Equal.y (term_coding P N X n (number_of c.in-Equal.a))
    (λ k. term_coding P N X k (number_of c.in-Equal.b)) lit c.in_ok-x-in-Equal.ensures.coded c.in_ok-y-in-Equal.ensures.coded h))
    c.code_equal.ensures.coded

pub code_term-requires-in-AtMost-2-clause-now : goal.code_term-requires-in-AtMost-2-clause-now
code_term-requires-in-AtMost-2-clause-now g c = bits_later _ _ _ _ c.code_term-in-AtMost.ensures.grows.vars c.requires.now

pub code_term-requires-in-AtMost-2-clause-next : goal.code_term-requires-in-AtMost-2-clause-next
code_term-requires-in-AtMost-2-clause-next g c = bits_later _ _ _ _ c.code_term-in-AtMost.ensures.grows.vars c.requires.next

pub code_at_most-requires-clause-left : goal.code_at_most-requires-clause-left
code_at_most-requires-clause-left g c =
    within_later _ _ _ c.code_term-in-AtMost-2.ensures.grows.vars
    (coded_known (g.B.ClauseBase.vars c.args.base.now) _ _ _ _ _
    (term_shape c.args.states.ports.now c.args.states.now.now c.args.states.next.now (g.B.ClauseBase.vars c.args.base.now) (number_of c.in-AtMost.a)
    c.requires.now c.requires.next) c.in_ok-x-in-AtMost.ensures.coded)

pub code_at_most-requires-clause-right : goal.code_at_most-requires-clause-right
code_at_most-requires-clause-right g c =
    coded_known (g.B.ClauseBase.vars c.code_term-in-AtMost.new.base) _ _ _ _ _
    (term_shape c.args.states.ports.now c.args.states.now.now c.args.states.next.now (g.B.ClauseBase.vars c.code_term-in-AtMost.new.base)
    (number_of c.in-AtMost.b)
    (bits_later _ _ _ _ c.code_term-in-AtMost.ensures.grows.vars c.requires.now)
    (bits_later _ _ _ _ c.code_term-in-AtMost.ensures.grows.vars c.requires.next))
    c.in_ok-y-in-AtMost.ensures.coded

pub returns-in_ok-y-in-AtMost-clause-grows : goal.returns-in_ok-y-in-AtMost-clause-grows
returns-in_ok-y-in-AtMost-clause-grows g c =
    IsConservative_trans _ _ _ _ _ _ (IsConservative_trans _ _ _ _ _ _ c.code_term-in-AtMost.ensures.grows c.code_term-in-AtMost-2.ensures.grows)
    c.code_at_most.ensures.grows

pub returns-in_ok-y-in-AtMost-clause-coded : goal.returns-in_ok-y-in-AtMost-clause-coded
returns-in_ok-y-in-AtMost-clause-coded g c =
    let P = c.args.states.ports.now in
    let N = c.args.states.now.now in
    let X = c.args.states.next.now in
    let n = g.B.ClauseBase.vars c.args.base.now in
    IfOk-weaker c.code_at_most.result _ _
    (λ lit h. subst (λ (a : Atom). IsCoded (g.B.ClauseBase.clauses c.args.base.now) (g.B.ClauseBase.vars c.code_at_most.new.base)
    (g.B.ClauseBase.clauses c.code_at_most.new.base) lit (atom_coding P N X n (proposition_of a))) (sym c.in-AtMost.is)
    (compared_coded at_most_coding _ _ _ _ _ _ _ c.in_ok-x-in-AtMost.x c.in_ok-y-in-AtMost.y (term_coding P N X n (number_of c.in-AtMost.a))
    (λ k. term_coding P N X k (number_of c.in-AtMost.b)) lit c.in_ok-x-in-AtMost.ensures.coded c.in_ok-y-in-AtMost.ensures.coded h))
    c.code_at_most.ensures.coded
