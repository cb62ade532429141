use Rattle.std.proofs.Common.{sym, ap, ◌∙◌, not}
use Rattle.spec_types.proofs.Walking.{settled}
use Rattle.spec_types.proofs.walk.is_settled.Goals as goal

pub returns-in-Some : goal.returns-in-Some
returns-in-Some c h fits =
    settled c.args.first.now c.in-Some.site c.args.offset (sym c.in-Some.ensures) (ap not (sym c.goes_before.ensures) ∙ h) fits
