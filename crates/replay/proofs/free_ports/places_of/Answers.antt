use Rattle.std.proofs.Common.{◌∙◌, ap}
use Rattle.replay.specs.Reading.{with_key}
use Rattle.replay.proofs.NameTables.{tells_more}
use Rattle.replay.proofs.free_ports.places_of.Goals as goal

pub loop-place-preserved : goal.loop-place-preserved
loop-place-preserved c =
    tells_more c.args.names.now c.loop-place.place c.index-names-place.result c.loop-place.places c.add.new.self c.loop-place-test.true
    c.index-names-place.is
    (c.in_ok-add.ensures ∙ ap (λ n. with_key c.loop-place.places n c.loop-place.place) (c.as_bytes.ensures.value ∙ c.as_str.ensures)) c.loop-place.invariant
