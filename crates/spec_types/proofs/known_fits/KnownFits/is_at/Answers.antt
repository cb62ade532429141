use Rattle.std.proofs.Common.{sym, ap, ◌∙◌, slice_get}
use Rattle.spec_types.proofs.Fitting.{kept_fits}
use Rattle.spec_types.proofs.known_fits.KnownFits.is_at.Goals as goal

pub returns-in-Some : goal.returns-in-Some
returns-in-Some c h scopes all =
    kept_fits scopes c.args.self.now.kept.items c.args.place c.in-Some.pair.now c.args.target c.args.source
    (ap (λ list. slice_get list c.args.place) (sym c.as_slice.ensures.value) ∙ sym c.in-Some.ensures)
    (sym c.is_pair.ensures ∙ h) all
