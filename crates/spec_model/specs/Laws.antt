-- What is always so of specifications and formulas: contracts and connections are told apart by what they mean.

use Rattle.std.specs.Prelude.{◌≡◌}
use Rattle.spec_model.specs.declared.contract.Contract.{Contract}
use Rattle.spec_model.specs.declared.wire.Wire.{Wire}
use Rattle.spec_model.specs.Meanings.{contract_meaning, wire_meaning}

-- two contracts of one meaning are equal
abbrev pub ContractsAreDistinct : Type 0
ContractsAreDistinct = (a b : Contract) → contract_meaning a ≡ contract_meaning b → a ≡ b

-- two connections of one meaning are equal
abbrev pub WiresAreDistinct : Type 0
WiresAreDistinct = (a b : Wire) → wire_meaning a ≡ wire_meaning b → a ≡ b
