use Rattle.std.proofs.Common.{[], ◌∷◌, ◌++◌, length, ap, ◌∙◌}
use Rattle.spec_names.specs.Tables.{with_place}
use Rattle.spec_names.proofs.EnumeratorFacts.{new_index, new_declarer}
use Rattle.spec_names.proofs.enumerators.EnumeratorIndex.add_new.Goals as goal

pub returns-clause-index : goal.returns-clause-index
returns-clause-index c =
    new_index c.args.self.now (record { numbers = c.add.new.self; declarers = c.push.new.self }) c.args.name.now c.args.place c.requires.index
    c.requires.absent (c.in_ok-add.ensures.ok ∙ ap (λ rows. with_place c.args.self.now.numbers c.args.name.now (length rows)) c.as_slice-number.ensures.value)
    (c.in_ok-push.ensures.items ∙ ap (λ row. c.args.self.now.declarers.items ++ row ∷ []) c.in_ok-from_slice.ensures)

pub returns-clause-declarer : goal.returns-clause-declarer
returns-clause-declarer c =
    new_declarer c.args.self.now (record { numbers = c.add.new.self; declarers = c.push.new.self }) c.args.name.now c.args.place c.requires.index
    c.requires.absent (c.in_ok-add.ensures.ok ∙ ap (λ rows. with_place c.args.self.now.numbers c.args.name.now (length rows)) c.as_slice-number.ensures.value)
    (c.in_ok-push.ensures.items ∙ ap (λ row. c.args.self.now.declarers.items ++ row ∷ []) c.in_ok-from_slice.ensures)
