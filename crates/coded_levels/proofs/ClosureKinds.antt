-- The atoms of a closure read ports of the kinds that they want where its formulas do.
use Rattle.std.proofs.Common.{Bool, true, false, cond, List, [], ◌∷◌, ◌++◌, All}
use Rattle.std.specs.List.{list_any}
use Rattle.std.proofs.lemmas.List.Elements.{All-head, All-tail, All-push}
use Rattle.port_types.specs.declared.types.PortType.{PortType}
use Rattle.typed_ltl.specs.Formulas.{Proposition, Ltl}
use Rattle.typed_ltl.specs.Formulas as form
use Rattle.typed_ltl.specs.Equality.{proposition_eq}
use Rattle.core_ltl.specs.CoreFormulas.{Core, core_form}
use Rattle.core_ltl.specs.CoreFormulas as core
use Rattle.core_ltl.specs.Nodes.{Members}
use Rattle.core_ltl.specs.Order.{after_formula}
use Rattle.state_coding.specs.Reads.{ReadsPorts}
use Rattle.levels.specs.Levels.{with_formula, with_formulas}
use Rattle.coded_levels.specs.CodableTypes.{ReadsKinds}

abbrev CoreReadsKinds : List PortType → Core → Type 0
CoreReadsKinds ports core.True = Unit {0}
CoreReadsKinds ports (core.Atomic a) = ReadsPorts ports a
CoreReadsKinds ports (core.Not f) = CoreReadsKinds ports f
CoreReadsKinds ports (core.And f g) = CoreReadsKinds ports f × CoreReadsKinds ports g
CoreReadsKinds ports (core.Next f) = CoreReadsKinds ports f
CoreReadsKinds ports (core.Until f g) = CoreReadsKinds ports f × CoreReadsKinds ports g

core_reads : (ports : List PortType) (f : Ltl) → ReadsKinds ports f → CoreReadsKinds ports (core_form f)
core_reads ports form.True h = tt
core_reads ports form.False h = tt
core_reads ports (form.Atomic a) h = h
core_reads ports (form.Not f) h = core_reads ports f h
core_reads ports (form.And f g) h = (core_reads ports f h.0, core_reads ports g h.1)
core_reads ports (form.Or f g) h = (core_reads ports f h.0, core_reads ports g h.1)
core_reads ports (form.Implies f g) h = (core_reads ports f h.0, core_reads ports g h.1)
core_reads ports (form.Iff f g) h =
    let a = core_reads ports f h.0 in
    let b = core_reads ports g h.1 in
    ((a, b), (b, a))
core_reads ports (form.Then f) h = core_reads ports f h
core_reads ports (form.Until f g) h = (core_reads ports f h.0, core_reads ports g h.1)
core_reads ports (form.Releases f g) h = (core_reads ports f h.0, core_reads ports g h.1)
core_reads ports (form.Future f) h = (tt, core_reads ports f h)
core_reads ports (form.Always f) h = (tt, core_reads ports f h)
core_reads ports (form.Never f) h = (tt, core_reads ports f h)

inserted : {X : Type 0} (P : X → Type 0) (b : Bool) (xs : List X) (x : X) → All P xs → P x → All P (cond b xs (xs ++ x ∷ []))
inserted P true xs x h p = h
inserted P false xs x h p = All-push P xs x h p

after_reads : (ports : List PortType) (f : Core) (m : Members) → All (ReadsPorts ports) m.atoms → CoreReadsKinds ports f
    → All (ReadsPorts ports) (after_formula m f).0.atoms
after_reads ports core.True m h r = h
after_reads ports (core.Atomic p) m h r = inserted (ReadsPorts ports) (list_any (proposition_eq p) m.atoms) m.atoms p h r
after_reads ports (core.Not f) m h r = after_reads ports f m h r
after_reads ports (core.And f g) m h r = after_reads ports g (after_formula m f).0 (after_reads ports f m h r.0) r.1
after_reads ports (core.Next f) m h r = after_reads ports f m h r
after_reads ports (core.Until f g) m h r = after_reads ports g (after_formula m f).0 (after_reads ports f m h r.0) r.1

pub with_reads : (ports : List PortType) (formulas : List Ltl) (m : Members) → All (ReadsPorts ports) m.atoms
    → All (ReadsKinds ports) formulas → All (ReadsPorts ports) (with_formulas m formulas).atoms
unfolding with_formulas
with_reads ports [] m h r = h
with_reads ports (f ∷ formulas) m h r =
    with_reads ports formulas (with_formula m f)
    (after_reads ports (core_form f) m h (core_reads ports f (All-head (ReadsKinds ports) f formulas r)))
    (All-tail (ReadsKinds ports) f formulas r)
