use Rattle.std.proofs.Common.{refl}
use Rattle.oss_syntax.specs.Trees.{component_trees}
use Rattle.spec_names.specs.Containment.{leads_word}
use Rattle.spec_names.specs.NamesFaults.{containment_from}
use Rattle.spec_names.proofs.WholeFacts.{inner_step, none_to_come}
use Rattle.spec_names.proofs.containment.note_containment.Goals as goal

pub loop-own-preserved : goal.loop-own-preserved
loop-own-preserved c =
    inner_step c.args.names.now c.args.ranks.now c.args.components.now c.loop-own.own c.index-components-own.result c.refinement_items.result.now
    c.loop-own.first c.note_inner.new.first _
    c.loop-own-test.true c.index-components-own.is c.refinement_items.ensures c.note_inner.ensures c.loop-own.invariant

pub returns : goal.returns
returns c =
    none_to_come (λ cs. containment_from (leads_word c.args.names.now c.args.ranks.now) c.loop-own.own (component_trees cs)) c.args.components.now
    c.loop-own.own c.loop-own.first _
    refl c.loop-own-test.false c.loop-own.invariant
