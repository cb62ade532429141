use Rattle.std.proofs.Common.{length}
use Rattle.port_types.specs.Types.{values}
use Rattle.state_coding.proofs.CodeLaws.{count_fits, count_least}
use Rattle.state_coding.proofs.StateLaws.{codable_few}
use Rattle.state_coding.proofs.codes.type_bits.Goals as goal

pub returns-clause-enough : goal.returns-clause-enough
returns-clause-enough c = rw c.count.ensures (count_fits (length (values c.args.kind.now)) c.requires.1 (codable_few c.args.kind.now c.requires))

pub returns-clause-least : goal.returns-clause-least
returns-clause-least c = rw c.count.ensures (λ bits fits. count_least (length (values c.args.kind.now)) bits c.requires.1
    (codable_few c.args.kind.now c.requires) fits)
