use Rattle.std.proofs.Common.{◌≡◌, is_some, false, not, sym, ap, ◌∙◌}
use Rattle.spec_names.specs.Tables.{entry_place}
use Rattle.spec_names.proofs.TableLemmas.{put_new}
use Rattle.spec_names.proofs.table.PlaceTable.add.Goals as goal

pub returns-in_ok-insert-clause-ok : goal.returns-in_ok-insert-clause-ok
returns-in_ok-insert-clause-ok c =
    let absent : is_some (entry_place c.args.self.now c.args.name.now) ≡ false =
    ap is_some (sym c.find.ensures) ∙ (c.is_none.ensures ∙ ap not c.if-is_none.true)
    in
    put_new c.self.inside.places c.insert.new.self.entries c.in_ok-from_str.field-0 c.args.place c.args.self.now c.args.name.now
    c.self.view_is c.in_ok-from_str.ensures.ok absent c.in_ok-insert.ensures.entries
