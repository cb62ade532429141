-- Serves private contracts only: the value of a port by what drives it, and the judgements up to here.
use Rattle.std.specs.Prelude.{false, List, ◌++◌, map, Option, slice_get}
use Rattle.std.specs.List.{AllZip}
use Rattle.std.specs.Option.{option_map_or}
use Rattle.port_types.specs.declared.types.Value.{Value}
use Rattle.port_types.specs.declared.types.Value.TheVariants as value
use Rattle.oss_base.specs.declared.ids.ContractId.{ContractId}
use Rattle.oss_base.specs.declared.ids.SubId.{SubId}
use Rattle.typed_ltl.specs.Traces.{Assignment, assignment}
use Rattle.spec_model.specs.declared.spec.Spec.{Spec}
use Rattle.spec_model.specs.declared.wire.Wire.{Wire}
use Rattle.connections.specs.declared.driving.Driver.{Driver}
use Rattle.connections.specs.declared.driving.Driver.TheVariants as driver
use Rattle.connections.specs.Substitution.{source_reading, reading_value}
use Rattle.replay.specs.declared.named.NamedLasso.{NamedLasso}
use Rattle.replay.specs.declared.judgement.Judgement.{Judgement}
use Rattle.replay.specs.Judgements.{IsJudgement}

-- the value of a connection's target; a connection that does not exist gives false
abbrev pub wire_value : Assignment → Option Wire → Value
wire_value free wire =
    option_map_or (λ (w : Wire). reading_value free (source_reading w.source)) wire (value.Bool false)

-- the value of a port that is driven so
abbrev pub driven_value : List Wire → Assignment → Driver → Value
driven_value wires free (driver.Free place) = free place
driven_value wires free (driver.Wired place) = wire_value free (slice_get wires place)

-- the values of ports that are driven so, where the free ports have these
abbrev pub driven_values : List Wire → List Driver → List Value → List Value
driven_values wires drivers free = map (driven_value wires (assignment free)) drivers

-- Behind the judgements that were there came those of these contracts.
pub record AreJudged (spec : Spec) (named : NamedLasso) (more : List (Option SubId × ContractId))
    (old new : List Judgement) : Type 0 where
  pub all : (done : List (Option SubId × ContractId)) → AllZip (IsJudgement spec named) done old
      → AllZip (IsJudgement spec named) (done ++ more) new
