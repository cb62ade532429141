-- What contracts and connections mean: the same with plain formulas, numbers and choices.

use Rattle.std.specs.Prelude.{ℕ, List}
use Rattle.typed_ltl.specs.Formulas.{Ltl, Number, Choice, meaning, number_of, choice_of}
use Rattle.spec_model.specs.declared.contract.Uses.{Uses}
use Rattle.spec_model.specs.declared.contract.Contract.{Contract}
use Rattle.spec_model.specs.declared.wire.Target.{Target}
use Rattle.spec_model.specs.declared.wire.Source.{Source}
use Rattle.spec_model.specs.declared.wire.Source.TheVariants as source
use Rattle.spec_model.specs.declared.wire.Wire.{Wire}

pub record ContractMeaning : Type 0 where
  pub name : List ℕ
  pub assume : Ltl
  pub assume_uses : Uses
  pub guarantee : Ltl
  pub guarantee_uses : Uses

abbrev pub contract_meaning : Contract → ContractMeaning
contract_meaning k = record {
  name = k.name;
  assume = meaning k.assume;
  assume_uses = k.assume_uses;
  guarantee = meaning k.guarantee;
  guarantee_uses = k.guarantee_uses;
}

-- the source of a connection, by the type of its target
pub data SourceMeaning : Type 0 where
  TruthSource : Ltl → SourceMeaning
  NumberSource : Number → SourceMeaning
  ChoiceSource : Choice → SourceMeaning

abbrev pub source_meaning : Source → SourceMeaning
source_meaning (source.Truth f) = TruthSource (meaning f)
source_meaning (source.Number t) = NumberSource (number_of t)
source_meaning (source.Choice p) = ChoiceSource (choice_of p)

pub record WireMeaning : Type 0 where
  pub target : Target
  pub source : SourceMeaning
  pub uses : Uses

abbrev pub wire_meaning : Wire → WireMeaning
wire_meaning w = record { target = w.target; source = source_meaning w.source; uses = w.uses }
