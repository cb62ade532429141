use Rattle.std.proofs.Common.{◌≡◌, ◌∙◌, ap, rules, w32, w64, to_z, of_z, ◌+ℤ◌, pos}
use Rattle.std.proofs.lemmas.Int.{to_z-of_z}
use Rattle.state_coding.proofs.sums.TermBits.port.Goals as goal

pub returns : goal.returns
returns c =
    let least : to_z w32 (of_z w32 c.args.least) ≡ c.args.least = to_z-of_z w32 c.args.least (search rules) in
    let left : to_z w64 (of_z w64 c.from.result) ≡ c.from.result = to_z-of_z w64 c.from.result (search rules) in
    let right : to_z w64 (of_z w64 c.from-2.result) ≡ c.from-2.result = to_z-of_z w64 c.from-2.result (search rules) in
    let total : to_z w64 (of_z w64 (c.from.result +ℤ c.from-2.result)) ≡ c.from.result +ℤ c.from-2.result =
    to_z-of_z w64 (c.from.result +ℤ c.from-2.result) (search rules) in
    let offset = (λ j. to_z w64 (of_z w64 (left j +ℤ right j))) ∙ total
    ∙ (λ j. (c.from.ensures ∙ least) j +ℤ (c.from-2.ensures ∙ ap pos c.half.ensures) j) in
    λ j. record { offset = offset j; row = c.in_ok-row.ensures j }
