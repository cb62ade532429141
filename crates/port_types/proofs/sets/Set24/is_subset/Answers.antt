use Rattle.std.proofs.lemmas.Bool.{eq-eqb, eqb-true}
use Rattle.port_types.proofs.BitLaws.{covered_has, covered_from}
use Rattle.port_types.proofs.sets.Set24.is_subset.Goals as goal

pub returns : goal.returns
returns c = (
  λ yes place. covered_has c.args.self.bits c.args.other.bits place (eqb-true _ _ yes),
  λ subset. eq-eqb _ _ (covered_from c.args.self.bits c.args.other.bits subset),
)
