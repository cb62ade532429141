use Rattle.std.proofs.Common.{rules, w64, ◌+◌, ◌∙◌, ◌++◌, List, [], ap}
use Rattle.std.proofs.lemmas.Int.{to_z-of_z}
use Rattle.cnf.specs.declared.lit.Lit.{Lit}
use Rattle.cnf.specs.Bounds.{limit_clauses}
use Rattle.state_coding.specs.Codes.{code_clauses}
use Rattle.state_coding.specs.States.{var_row}
use Rattle.cnf.proofs.ModelLaws.{append_nil}
use Rattle.state_coding.proofs.CodeSteps.{variables_extend, port_extends, port_limit, bound_length, row_known}
use Rattle.state_coding.proofs.codes.code_port.Goals as goal

pub returns-in_err-row-clause-grows : goal.returns-in_err-row-clause-grows
returns-in_err-row-clause-grows g c = variables_extend _ _ _ _ c.new_row.ensures.more c.new_row.ensures.clauses

pub returns-in_err-bound-clause-grows : goal.returns-in_err-bound-clause-grows
returns-in_err-bound-clause-grows g c = variables_extend _ _ _ _ c.new_row.ensures.more c.new_row.ensures.clauses

pub add_limit-requires-clause-same : goal.add_limit-requires-clause-same
add_limit-requires-clause-same g c = bound_length c.in_ok-row.row _ _ c.in_ok-bound.bound.items c.len.result _ c.as_slice.ensures
    c.deref.ensures.value c.in_ok-bound.ensures.bits c.len.ensures

pub add_limit-requires-clause-known : goal.add_limit-requires-clause-known
add_limit-requires-clause-known g c = row_known _ _ c.type_bits.result c.in_ok-row.row _ c.as_slice.ensures c.in_ok-row.ensures.answer
    c.in_ok-row.ensures.vars

pub returns-in_err-add_limit-clause-grows : goal.returns-in_err-add_limit-clause-grows
returns-in_err-add_limit-clause-grows g c =
    port_extends c.gates_are_right.ensures c.args.kind.now _ _ _ _ c.in_ok-row.row
    c.in_err-add_limit.ensures.err.0 c.in_err-add_limit.ensures.err.1 c.requires
    (c.in_ok-row.ensures.answer ∙ ap (var_row (g.B.ClauseBase.vars c.args.base.now)) c.type_bits.ensures.bits)
    (c.add_limit.ensures.vars ∙ c.in_ok-row.ensures.vars ∙ ap (λ k. g.B.ClauseBase.vars c.args.base.now + k) c.type_bits.ensures.bits)
    (c.in_err-add_limit.ensures.err.2 ∙ ap (λ (l : List (List Lit)). l ++ c.in_err-add_limit.ensures.err.0) c.new_row.ensures.clauses)
    (c.in_err-add_limit.ensures.err.3 ∙ port_limit c.args.kind.now c.in_ok-row.row _ _ c.in_ok-bound.bound.items c.len.result _ c.count.result
    c.as_slice.ensures c.deref.ensures.value c.in_ok-bound.ensures.bits c.len.ensures
    (to_z-of_z w64 c.from.result (search rules) ∙ c.from.ensures) c.count.ensures)

pub returns-clause-clauses : goal.returns-clause-clauses
returns-clause-clauses g c =
    c.in_ok-add_limit.ensures.ok ∙ ap (λ (l : List (List Lit)). l ++ limit_clauses c.as_slice.result.now c.deref.result.now) c.new_row.ensures.clauses
    ∙ ap (λ (l : List (List Lit)). g.B.ClauseBase.clauses c.args.base.now ++ l)
    (port_limit c.args.kind.now c.in_ok-row.row _ _ c.in_ok-bound.bound.items c.len.result _ c.count.result c.as_slice.ensures
    c.deref.ensures.value c.in_ok-bound.ensures.bits c.len.ensures
    (to_z-of_z w64 c.from.result (search rules) ∙ c.from.ensures) c.count.ensures)

pub returns-clause-grows : goal.returns-clause-grows
returns-clause-grows g c =
    port_extends c.gates_are_right.ensures c.args.kind.now _ _ _ _ c.in_ok-row.row
    (code_clauses c.args.kind.now c.in_ok-row.row) [] c.requires
    (c.in_ok-row.ensures.answer ∙ ap (var_row (g.B.ClauseBase.vars c.args.base.now)) c.type_bits.ensures.bits)
    (c.add_limit.ensures.vars ∙ c.in_ok-row.ensures.vars ∙ ap (λ k. g.B.ClauseBase.vars c.args.base.now + k) c.type_bits.ensures.bits)
    (returns-clause-clauses g c) (append_nil (code_clauses c.args.kind.now c.in_ok-row.row))
