use Rattle.std.proofs.Common.{◌≡◌, ◌∙◌, sym, arith, get_or}
use Rattle.std.specs.Prelude.{position, string_bytes}
use Rattle.std.specs.Str.{bytes_eq}
use Rattle.cnf.proofs.ModelLaws.{IsConservative_refl, IsConservative_trans}
use Rattle.state_coding.proofs.NameSteps.{position-map, common_none, common_some, common_ends, common_goes_on, common_goes_past, common_added}
use Rattle.state_coding.proofs.names.code_common.Goals as goal
use Rattle.state_coding.proofs.names.code_common.Goals.{in-Some+in_ok-both+in_ok-push, in_default}

pub returns-in_err-table-clause-grows : goal.returns-in_err-table-clause-grows
returns-in_err-table-clause-grows g c = IsConservative_refl _ _

pub returns-in_err-both-clause-grows : goal.returns-in_err-both-clause-grows
returns-in_err-both-clause-grows g c = IsConservative_trans _ _ _ _ _ _ c.loop-i.invariant.grows c.code_both.ensures.grows

pub returns-in_err-push-clause-grows : goal.returns-in_err-push-clause-grows
returns-in_err-push-clause-grows g c = IsConservative_trans _ _ _ _ _ _ c.loop-i.invariant.grows c.code_both.ensures.grows

pub loop-i-preserved : goal.loop-i-preserved
loop-i-preserved g c =
    let at : position (bytes_eq (get_or c.args.x.names.now c.loop-i.i c.index-x-i.result)) c.args.y.names.now ≡ c.get_index_of.result =
    (λ j. position (bytes_eq (sym c.as_str.ensures j)) (sym c.in_ok-table.ensures j))
    ∙ position-map (bytes_eq c.as_str.result.now) string_bytes c.in_ok-table.table.keys ∙ sym c.get_index_of.ensures.index in
    elim c.match-get_index_of.branch [
      | in-Some+in_ok-both+in_ok-push w ↦
          rw (w.base-is, w.common-is) (record {
            so_far = common_goes_on _ _ _ _ _ _ _ _ _ _ _ _ _ (common_some c.args.x.row.now c.args.y.row.now c.loop-i.i
                w.in-Some.j c.args.x.names.now c.args.y.names.now c.index-x-i.result (omega (arith, c.loop-i-test.true)) (at ∙ w.in-Some.is))
                w.in_ok-both.ensures.vars w.in_ok-both.ensures.clauses w.in_ok-both.ensures.answer w.in_ok-push.ensures.items
                c.loop-i.invariant.so_far;
            grows = IsConservative_trans _ _ _ _ _ _ c.loop-i.invariant.grows w.code_both.ensures.grows;
          })
      | in_default w ↦
          rw (w.base-is, w.common-is) (record {
            so_far = common_goes_past _ _ _ _ _ _ _ _ (common_none c.args.x.row.now c.args.y.row.now c.loop-i.i c.args.x.names.now c.args.y.names.now
                c.index-x-i.result (omega (arith, c.loop-i-test.true)) (at ∙ w.in_default.is)) c.loop-i.invariant.so_far;
            grows = c.loop-i.invariant.grows;
          })
    ]

pub returns-clause-added : goal.returns-clause-added
returns-clause-added g c =
    common_added _ _ _ _ _ _ _ (common_ends c.args.x.row.now c.args.y.row.now c.loop-i.i c.args.x.names.now c.args.y.names.now
    (omega (arith, c.loop-i-test.false))) c.loop-i.invariant.so_far

pub returns-clause-grows : goal.returns-clause-grows
returns-clause-grows g c = c.loop-i.invariant.grows
