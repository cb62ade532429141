use Rattle.std.proofs.Common.{false, slice_get, ap, sym, ◌∙◌}
use Rattle.port_types.specs.declared.types.Value.TheVariants as value
use Rattle.first_lasso.specs.UsedPorts.{first_value}
use Rattle.levels.proofs.Stepwise.{none_mapped}
use Rattle.levels.proofs.widening.first_value.Goals as goal

pub returns-in-None : goal.returns-in-None
returns-in-None c =
    none_mapped value.Name c.in-Enum.names 0 (value.Bool false) (c.in-None.ensures ∙ (λ j. slice_get (c.as_slice.ensures j) 0))
    ∙ sym (ap first_value c.in-Enum.is)
