use Rattle.first_lasso.specs.Lassos.{Satisfies}
use Rattle.first_lasso.specs.Laws.{over_used}
use Rattle.first_lasso.proofs.Narrowing.{widened_holds}
use Rattle.first_lasso.proofs.Widening.{first_lasso_widens, none_widens, traces_widen, formula_narrows}
use Rattle.first_lasso.proofs.laws.unused_ports_change_nothing.Goals as goal

pub returns-clause-lassos : goal.returns-clause-lassos
returns-clause-lassos c = λ ports used f lasso wide h w.
    widened_holds ports used (Satisfies f) (Satisfies (over_used used f))
    (formula_narrows c.read_ports_decide.ensures.values c.read_ports_decide.ensures.renaming used f h.reads) h.used_ports.below lasso wide w

pub returns-clause-first : goal.returns-clause-first
returns-clause-first c = λ ports used f k lasso wide h some.
    first_lasso_widens ports used (Satisfies f) (Satisfies (over_used used f)) k
    (record { by_kind = c.values_by_kind.ensures; used_ports = h.used_ports; some = some })
    (formula_narrows c.read_ports_decide.ensures.values c.read_ports_decide.ensures.renaming used f h.reads) lasso wide

pub returns-clause-none : goal.returns-clause-none
returns-clause-none c = λ ports used f k h some.
    none_widens ports used (Satisfies f) (Satisfies (over_used used f)) k
    (record { by_kind = c.values_by_kind.ensures; used_ports = h.used_ports; some = some })
    (formula_narrows c.read_ports_decide.ensures.values c.read_ports_decide.ensures.renaming used f h.reads)

pub returns-clause-traces : goal.returns-clause-traces
returns-clause-traces c = λ ports used f h some.
    traces_widen ports used (Satisfies f) (Satisfies (over_used used f))
    (record { by_kind = c.values_by_kind.ensures; used_ports = h.used_ports; some = some })
    (formula_narrows c.read_ports_decide.ensures.values c.read_ports_decide.ensures.renaming used f h.reads)
