use Rattle.std.proofs.Common.{◌≡◌, ap, ◌∙◌}
use Rattle.typed_ltl.specs.Formulas as form
use Rattle.typed_ltl.specs.Formulas.{meaning, proposition_of}
use Rattle.typed_ltl.specs.Traces.{word}
use Rattle.typed_ltl.specs.Truth.{IsModerateOn}
use Rattle.typed_ltl.proofs.Meanings.{meaning-Atom}
use Rattle.typed_ltl.proofs.truth.+fill.Goals as goal

pub fill-fill_atom_first-requires-clause-fits : goal.fill-fill_atom_first-requires-clause-fits
fill-fill_atom_first-requires-clause-fits t c =
    let h : IsModerateOn (word c.args.states.now c.args.loop_at) (meaning c.args.f.now) = c.requires.fits in
    let e : meaning c.args.f.now ≡ form.Atomic (proposition_of c.in-Atom.atom) = ap meaning c.in-Atom.is ∙ meaning-Atom c.in-Atom.atom in
    rw e at h
