use Rattle.std.proofs.Common.{◌∙◌, arith}
use Rattle.std.specs.Prelude.{string_bytes}
use Rattle.std.proofs.lemmas.List.{take_all}
use Rattle.state_coding.proofs.NameSteps.{table_goes_on}
use Rattle.state_coding.proofs.names.table_of.Goals as goal

pub loop-i-preserved : goal.loop-i-preserved
loop-i-preserved c =
    table_goes_on string_bytes c.args.names.now c.loop-i.i c.loop-i.table.keys c.insert_full.new.self.keys c.in_ok-text.text
    c.index-names-i.result c.requires (omega (arith, c.loop-i-test.true))
    (c.in_ok-text.ensures.ok ∙ c.as_str.ensures ∙ c.index-names-i.is) c.in_ok-insert_full.ensures.keys c.loop-i.invariant

pub returns : goal.returns
returns c = c.loop-i.invariant ∙ take_all c.loop-i.i c.args.names.now (omega (arith, c.loop-i-test.false))
