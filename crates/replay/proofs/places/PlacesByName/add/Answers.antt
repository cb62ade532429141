use Rattle.std.proofs.Common.{◌≡◌, is_some, false, not, sym, ap, ◌∙◌}
use Rattle.replay.specs.Reading.{place_by_key}
use Rattle.replay.proofs.NameTables.{put_new}
use Rattle.replay.proofs.places.PlacesByName.add.Goals as goal

pub returns-in_ok-insert : goal.returns-in_ok-insert
returns-in_ok-insert c =
    let absent : is_some (place_by_key c.args.self.now c.args.name.now) ≡ false =
    ap is_some (sym c.find.ensures) ∙ (c.is_none.ensures ∙ ap not c.if-is_none.true)
    in
    put_new c.self.inside.places c.insert.new.self.entries c.in_ok-from_slice.field-0 c.args.place c.args.self.now c.args.name.now
    c.self.view_is c.in_ok-from_slice.ensures.items absent c.in_ok-insert.ensures.entries
