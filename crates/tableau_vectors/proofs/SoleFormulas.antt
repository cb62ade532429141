-- the closures of the tests
use Rattle.std.proofs.Common.{◌≡◌, ◌∙◌, false, List, [], ◌∷◌, map, sym, ap, subst, arith}
use Rattle.std.specs.List.{All}
use Rattle.std.proofs.lemmas.List.Elements.{All-nil, All-cons}
use Rattle.port_types.specs.declared.types.PortType.{PortType}
use Rattle.port_types.specs.declared.types.PortType.TheVariants as kind
use Rattle.typed_ltl.specs.Formulas.{Ltl, Proposition, proposition_of}
use Rattle.typed_ltl.specs.Formulas as logic
use Rattle.core_ltl.specs.declared.node.NodeId.{NodeId}
use Rattle.core_ltl.specs.CoreFormulas.{Core, core_form}
use Rattle.core_ltl.specs.Nodes.{Listing, Members, members}
use Rattle.core_ltl.specs.Order.{after_formula}
use Rattle.state_coding.specs.Reads.{ReadsPorts}
use Rattle.tableau_vectors.specs.SoleFormulas.{sole_atoms}

pub sole_reads : (ports : List PortType) (old new : Listing) (node : NodeId) (f : Core) → old.nodes ≡ [] → old.atoms ≡ []
    → (members new, node) ≡ after_formula (members old) f → All (ReadsPorts ports) (sole_atoms f)
    → All (ReadsPorts ports) (map proposition_of new.atoms)
sole_reads ports old new node f en ea order h =
    let same : map proposition_of new.atoms ≡ sole_atoms f =
    ap (λ (m : Members × NodeId). m.0.atoms) order ∙ (λ j. (after_formula (record { nodes = en j; atoms = map proposition_of (ea j) }) f).0.atoms) in
    subst (All (ReadsPorts ports)) (sym same) h

pub until_reads : (ports : List PortType) (f : Ltl) → ports ≡ kind.Bool ∷ kind.Bool ∷ []
    → f ≡ logic.Until (logic.Atomic (logic.TruthAt 0 false)) (logic.Atomic (logic.TruthAt 1 false))
    → All (ReadsPorts ports) (sole_atoms (core_form f))
until_reads ports f ep ef =
    let P = ReadsPorts (kind.Bool ∷ kind.Bool ∷ []) in
    rw (ep, ef) (All-cons P (logic.TruthAt 0 false) (logic.TruthAt 1 false ∷ []) (omega arith, tt)
    (All-cons P (logic.TruthAt 1 false) [] (omega arith, tt) (All-nil P)))

pub then_reads : (ports : List PortType) (f : Ltl) → ports ≡ kind.Bool ∷ [] → f ≡ logic.Then (logic.Atomic (logic.TruthAt 0 false))
    → All (ReadsPorts ports) (sole_atoms (core_form f))
then_reads ports f ep ef =
    let P = ReadsPorts (kind.Bool ∷ []) in
    rw (ep, ef) (All-cons P (logic.TruthAt 0 false) [] (omega arith, tt) (All-nil P))
