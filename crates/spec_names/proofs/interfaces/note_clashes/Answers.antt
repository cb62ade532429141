use Rattle.std.proofs.Common.{map, ap, ◌∙◌}
use Rattle.spec_names.specs.NamesFaults.{clash_with, one_site}
use Rattle.spec_names.specs.Noting.{noted}
use Rattle.spec_names.specs.Words.{word_at}
use Rattle.spec_names.proofs.InterfaceFacts.{clash_is}
use Rattle.spec_names.proofs.NotingFacts.{option_step}
use Rattle.spec_names.proofs.interfaces.note_clashes.Goals as goal

pub loop-port-preserved : goal.loop-port-preserved
loop-port-preserved c =
    option_step (clash_with (map word_at c.args.names.now)) word_at c.args.ports.now c.loop-port.port-index c.port-item.result c.loop-port.first
    c.note_clash.new.first _
    c.loop-port-test.true c.port-item.is
    (c.note_clash.ensures ∙ ap (λ o. noted (one_site o) c.loop-port.first)
    (clash_is (map word_at c.args.names.now) c.args.table.now (word_at c.port-item.result) c.requires))
    c.loop-port.invariant
