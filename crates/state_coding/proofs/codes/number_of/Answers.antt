use Rattle.std.proofs.Common.{arith}
use Rattle.std.proofs.lemmas.List.{length-map}
use Rattle.cnf.specs.Clauses.{lit_holds, lit_values}
use Rattle.state_coding.proofs.CodeLaws.{number_small, number_goes_on}
use Rattle.state_coding.proofs.codes.number_of.Goals as goal

pub next_number-number-requires : goal.next_number-number-requires
next_number-number-requires c =
    number_small (lit_values c.args.model.now c.args.row.now) c.loop-place.place c.loop-place.number c.loop-place.invariant.number
    (omega (arith, c.loop-place-test.true))
    (rw (length-map c.args.row.now (lit_holds c.args.model.now)) c.requires.few)

pub loop-place-preserved : goal.loop-place-preserved
loop-place-preserved c = record {
  within = omega (arith, c.loop-place.invariant.within);
  number = number_goes_on c.args.model.now c.args.row.now c.loop-place.place _ c.loop-place.number _ _ c.lit_value.result
      (omega (arith, c.loop-place-test.true)) c.loop-place.invariant.within
      c.lit_value.ensures c.loop-place.invariant.number c.next_number-number.ensures;
}
