-- What is known of a narrowed question is known over all free ports.
use Rattle.std.proofs.Common.{◌↔◌, List, sym, subst}
use Rattle.port_types.specs.declared.types.PortType.{PortType}
use Rattle.typed_ltl.specs.Traces.{Trace}
use Rattle.core_ltl.specs.Nodes.{members}
use Rattle.core_ltl.specs.Questions.{Breaks}
use Rattle.first_lasso.specs.Lassos.{WordHas, HasTraceOver}
use Rattle.first_lasso.specs.FirstLassos.{IsFirstLasso, HasNoneUpTo}
use Rattle.first_lasso.proofs.Narrowing.{ByKind, widened_holds}
use Rattle.first_lasso.proofs.Widening.{AreFilled, first_lasso_widens, none_widens, traces_widen}
use Rattle.spec_model.specs.FreeTypes.{free_types}
use Rattle.narrowed_questions.specs.NarrowedQuestions.{HaveTruths, NarrowedQuestionsAreKnown}

pub narrowed_questions_are_known : ByKind → NarrowedQuestionsAreKnown
narrowed_questions_are_known by_kind spec item level question formulas n some =
    let free = free_types spec item.component in
    let wide = HaveTruths formulas in
    let narrow = λ (w : Trace). Breaks (members level.closure) w question in
    let filled : AreFilled (free_types spec item.component) level.places = record { by_kind = by_kind; used_ports = n.used_ports; some = some } in
    record {
      lassos = λ lasso big h. widened_holds free level.places wide narrow n.narrowed n.used_ports.below lasso big h;
      first = λ k lasso big h f.
          first_lasso_widens free level.places wide narrow k filled n.narrowed lasso big
          (subst (λ (ports : List PortType). IsFirstLasso ports (WordHas (λ w. Breaks (members level.closure) w question)) k lasso) n.types f) h;
      none = λ k.
          subst (λ (ports : List PortType). HasNoneUpTo ports (WordHas (λ w. Breaks (members level.closure) w question)) k
          ↔ HasNoneUpTo (free_types spec item.component) (WordHas (HaveTruths formulas)) k) (sym n.types)
          (none_widens free level.places wide narrow k filled n.narrowed);
      traces =
          subst (λ (ports : List PortType). HasTraceOver ports (λ w. Breaks (members level.closure) w question)
          ↔ HasTraceOver (free_types spec item.component) (HaveTruths formulas)) (sym n.types)
          (traces_widen free level.places wide narrow filled n.narrowed);
    }
