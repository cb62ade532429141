use Rattle.std.proofs.Common.{◌≡◌, ◌∙◌, ap, sym, subst, map, List, [], IfOk, OnOk}
use Rattle.std.specs.Option.{option_map_or}
use Rattle.oss_syntax.specs.declared.refinement.RefinementItem.{RefinementItem}
use Rattle.spec_model.specs.Meanings as meanings
use Rattle.spec_names.specs.Noting.{noted}
use Rattle.spec_types.specs.Walks as walks
use Rattle.spec_types.specs.Tables as facts
use Rattle.spec_types.proofs.components.component_wires.Goals as goal

pub returns-in-Some-clause-wires : goal.returns-in-Some-clause-wires
returns-in-Some-clause-wires c =
    subst (λ (items : List RefinementItem). IfOk c.refinement_wires.result (λ made. map meanings.wire_meaning made
    ≡ facts.wires_by (walks.refinement c.args.scope.now) items))
    (c.as_slice.ensures ∙ ap (λ o. option_map_or (λ (items : List RefinementItem). items) o []) (sym c.in-Some.is))
    c.refinement_wires.ensures.wires

pub returns-in-Some-clause-first : goal.returns-in-Some-clause-first
returns-in-Some-clause-first c =
    subst (λ (items : List RefinementItem). OnOk c.refinement_wires.result (c.refinement_wires.new.first
    ≡ noted (facts.wire_faults_in (walks.refinement c.args.scope.now) items) c.args.first.now))
    (c.as_slice.ensures ∙ ap (λ o. option_map_or (λ (items : List RefinementItem). items) o []) (sym c.in-Some.is))
    c.refinement_wires.ensures.first
