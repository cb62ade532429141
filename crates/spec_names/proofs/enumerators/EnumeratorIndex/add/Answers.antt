use Rattle.std.proofs.Common.{refl, sym, ◌∙◌}
use Rattle.spec_names.proofs.EnumeratorFacts.{found_declarer}
use Rattle.spec_names.proofs.enumerators.EnumeratorIndex.add.Goals as goal

pub returns-in_ok-put_place-in-Some-clause-declarer : goal.returns-in_ok-put_place-in-Some-clause-declarer
returns-in_ok-put_place-in-Some-clause-declarer c =
    found_declarer c.args.self.now (record { numbers = c.args.self.now.numbers; declarers = c.put_place.new.rows }) c.args.name.now c.args.place
    c.in-Some.number c.requires (sym c.find.ensures ∙ c.in-Some.is) refl c.in_ok-put_place-in-Some.ensures
