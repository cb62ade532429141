use Rattle.std.proofs.Common.{◌∙◌, sym, arith, rules, SFits, w64}
use Rattle.std.proofs.lemmas.Int.{to_z-of_z}
use Rattle.cnf.proofs.BoundLaws.{places_many, places_few}
use Rattle.cnf.proofs.bounds.has_places.Goals as goal

pub returns-then-places-gt63 : goal.returns-then-places-gt63
returns-then-places-gt63 c =
    let fits : SFits w64 c.args.number = search rules in
    places_many c.sign_and_magnitude-magnitude.result.0 c.args.places c.sign_and_magnitude-magnitude.result.1 c.args.number
    (sym (to_z-of_z w64 c.args.number fits) ∙ c.sign_and_magnitude-magnitude.ensures.number) c.sign_and_magnitude-magnitude.ensures.below c.if-places-gt63.true

pub returns-else-places-gt63 : goal.returns-else-places-gt63
returns-else-places-gt63 c =
    let fits : SFits w64 c.args.number = search rules in
    places_few c.sign_and_magnitude-magnitude.result.0 c.args.places c.sign_and_magnitude-magnitude.result.1 c.args.number
    (sym (to_z-of_z w64 c.args.number fits) ∙ c.sign_and_magnitude-magnitude.ensures.number) (omega arith) (omega arith)
