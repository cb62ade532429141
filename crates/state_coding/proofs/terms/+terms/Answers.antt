use Rattle.std.proofs.Common.{subst, rules}
use Rattle.std.proofs.lemmas.Result.{IfOk-weaker}
use Rattle.typed_ltl.specs.Formulas.{number_of}
use Rattle.cnf.proofs.ModelLaws.{IsConservative_trans}
use Rattle.state_coding.specs.Numbers.{term_coding}
use Rattle.state_coding.specs.Reads.{ReadsNumbers}
use Rattle.state_coding.proofs.StateLaws.{within_later, bits_later}
use Rattle.state_coding.proofs.TermLaws.{term_shape, opposite_within}
use Rattle.state_coding.proofs.AtomSteps.{plus_coded}
use Rattle.state_coding.proofs.TermSteps.{Port_is, coded_known, port_bits_few}
use Rattle.state_coding.proofs.terms.+terms.Goals as goal

pub code_sum-code_term-requires-2 : goal.code_sum-code_term-requires-2
code_sum-code_term-requires-2 g t c = λ κs lives. (
  search rules,
  (
    search rules,
    (
      c.requires.ports,
      (
        bits_later _ _ _ _ c.code_term.ensures.grows.vars c.requires.now,
        (bits_later _ _ _ _ c.code_term.ensures.grows.vars c.requires.next, c.requires.right),
      ),
    ),
  ),
)

pub code_sum-plus-requires-clause-left : goal.code_sum-plus-requires-clause-left
code_sum-plus-requires-clause-left g t c =
    within_later _ _ _ c.code_term-2.ensures.grows.vars
    (coded_known (g.B.ClauseBase.vars c.args.base.now) _ _ _ _ _
    (term_shape c.args.states.ports.now c.args.states.now.now c.args.states.next.now (g.B.ClauseBase.vars c.args.base.now) (number_of c.args.a.now)
    c.requires.now c.requires.next) c.in_ok-x.ensures.coded)

pub code_sum-returns-in_err-y-clause-grows : goal.code_sum-returns-in_err-y-clause-grows
code_sum-returns-in_err-y-clause-grows g t c =
    IsConservative_trans _ _ _ _ _ _ c.code_term.ensures.grows c.code_term-2.ensures.grows

pub code_sum-plus-requires-clause-right : goal.code_sum-plus-requires-clause-right
code_sum-plus-requires-clause-right g t c =
    coded_known (g.B.ClauseBase.vars c.code_term.new.base) _ _ _ _ _
    (term_shape c.args.states.ports.now c.args.states.now.now c.args.states.next.now (g.B.ClauseBase.vars c.code_term.new.base) (number_of c.args.b.now)
    (bits_later _ _ _ _ c.code_term.ensures.grows.vars c.requires.now)
    (bits_later _ _ _ _ c.code_term.ensures.grows.vars c.requires.next)) c.in_ok-y.ensures.coded

pub code_sum-returns-clause-grows : goal.code_sum-returns-clause-grows
code_sum-returns-clause-grows g t c =
    IsConservative_trans _ _ _ _ _ _ (IsConservative_trans _ _ _ _ _ _ c.code_term.ensures.grows c.code_term-2.ensures.grows)
    c.plus.ensures.grows

pub code_sum-returns-clause-coded : goal.code_sum-returns-clause-coded
code_sum-returns-clause-coded g t c =
    let P = c.args.states.ports.now in
    let N = c.args.states.now.now in
    let X = c.args.states.next.now in
    IfOk-weaker c.plus.result _ _
    (λ answer h. plus_coded _ _ _ _ _ _ _ c.in_ok-x.x c.in_ok-y.y answer
    (term_coding P N X (g.B.ClauseBase.vars c.args.base.now) (number_of c.args.a.now))
    (λ k. term_coding P N X k (number_of c.args.b.now)) c.in_ok-x.ensures.coded c.in_ok-y.ensures.coded h) c.plus.ensures.coded

pub code_difference-code_term-requires-2 : goal.code_difference-code_term-requires-2
code_difference-code_term-requires-2 g t c = λ κs lives. (
  search rules,
  (
    search rules,
    (
      c.requires.ports,
      (
        bits_later _ _ _ _ c.code_term.ensures.grows.vars c.requires.now,
        (bits_later _ _ _ _ c.code_term.ensures.grows.vars c.requires.next, c.requires.right),
      ),
    ),
  ),
)

pub code_difference-plus-requires-clause-left : goal.code_difference-plus-requires-clause-left
code_difference-plus-requires-clause-left g t c =
    within_later _ _ _ c.code_term-2.ensures.grows.vars
    (coded_known (g.B.ClauseBase.vars c.args.base.now) _ _ _ _ _
    (term_shape c.args.states.ports.now c.args.states.now.now c.args.states.next.now (g.B.ClauseBase.vars c.args.base.now) (number_of c.args.a.now)
    c.requires.now c.requires.next) c.in_ok-x.ensures.coded)

pub code_difference-returns-in_err-y-2-clause-grows : goal.code_difference-returns-in_err-y-2-clause-grows
code_difference-returns-in_err-y-2-clause-grows g t c =
    IsConservative_trans _ _ _ _ _ _ c.code_term.ensures.grows c.code_term-2.ensures.grows

pub code_difference-plus-requires-clause-right : goal.code_difference-plus-requires-clause-right
code_difference-plus-requires-clause-right g t c =
    rw c.in_ok-y-2.ensures (opposite_within _ c.in_ok-y.y
    (coded_known (g.B.ClauseBase.vars c.code_term.new.base) _ _ _ _ _
    (term_shape c.args.states.ports.now c.args.states.now.now c.args.states.next.now (g.B.ClauseBase.vars c.code_term.new.base) (number_of c.args.b.now)
    (bits_later _ _ _ _ c.code_term.ensures.grows.vars c.requires.now)
    (bits_later _ _ _ _ c.code_term.ensures.grows.vars c.requires.next)) c.in_ok-y.ensures.coded))

pub code_difference-returns-clause-grows : goal.code_difference-returns-clause-grows
code_difference-returns-clause-grows g t c =
    IsConservative_trans _ _ _ _ _ _ (IsConservative_trans _ _ _ _ _ _ c.code_term.ensures.grows c.code_term-2.ensures.grows)
    c.plus.ensures.grows

pub code_term-code_port_term-requires-clause-few : goal.code_term-code_port_term-requires-clause-few
code_term-code_port_term-requires-clause-few g t c =
    port_bits_few (g.B.ClauseBase.vars c.args.base.now) c.args.states.ports.now c.args.states.now.now c.args.states.next.now
    c.in-Port.port.0 c.in-Port.next c.requires.now c.requires.next
    (subst (ReadsNumbers c.args.states.ports.now) (Port_is c.args.term.now c.in-Port.port c.in-Port.next c.in-Port.is) c.requires.reads).0
