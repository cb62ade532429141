use Rattle.std.proofs.Common.{◌≡◌, ℕ, ap, ◌∙◌}
use Rattle.typed_ltl.specs.Formulas as form
use Rattle.typed_ltl.specs.Formulas.{meaning, proposition_of}
use Rattle.typed_ltl.specs.Traces.{assignment}
use Rattle.typed_ltl.specs.Truth.{IsModerateOn}
use Rattle.typed_ltl.proofs.Meanings.{meaning-Atom}
use Rattle.replay.proofs.driven.+truth.Goals as goal

pub atom_truth-requires : goal.atom_truth-requires
atom_truth-requires t c =
    let h : IsModerateOn (λ (i : ℕ). assignment c.args.state.now) (meaning c.args.f.now) = c.requires in
    let e : meaning c.args.f.now ≡ form.Atomic (proposition_of c.in-Atom.atom) = ap meaning c.in-Atom.is ∙ meaning-Atom c.in-Atom.atom in
    rw e at h
