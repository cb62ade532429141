-- Over the ports that occur, the formulas of a closure read ports of the kinds that they want.
use Rattle.std.proofs.Common.{ℕ, ◌<◌, List, [], ◌∷◌, map, length, get_or, All, Contains, sym, ap, ◌∙◌, subst, flat_map}
use Rattle.std.proofs.lemmas.List.{length-map, get_or-map}
use Rattle.std.proofs.lemmas.List.Elements.{All-nil, All-cons, All-head, All-tail, All-map}
use Rattle.oss_base.specs.declared.ids.SubId.{SubId}
use Rattle.port_types.specs.declared.types.PortType.{PortType}
use Rattle.port_types.specs.declared.types.PortType.TheVariants as kind
use Rattle.typed_ltl.specs.Formulas.{Ltl}
use Rattle.connections.specs.Substitution as by
use Rattle.first_lasso.specs.FormulaPorts.{formula_ports}
use Rattle.first_lasso.specs.UsedPorts.{types_at, used_place}
use Rattle.first_lasso.proofs.Narrowing.{used_within, used_read}
use Rattle.levels.specs.Levels.{LevelMeaning, level_reads, occurring, over_places, part_normal_form, part_formulas, closure_formulas}
use Rattle.narrowed_questions.proofs.LevelReads.{read_occurs, level_among}
use Rattle.coded_levels.specs.CodableTypes.{ReadsKinds}
use Rattle.coded_levels.proofs.Substituting.{ReadingReads, free_reads, formula_kinds}
use Rattle.coded_levels.proofs.LevelKinds.{HasLevelKinds}

-- a port that occurs keeps its type
place_reads : (ports : List PortType) (places : List ℕ) (p : ℕ) → Contains places p
    → ReadingReads (types_at ports places) (get_or ports p kind.Bool) (by.Free (used_place places p))
place_reads ports places p c =
    let within : used_place places p < length places = used_within places p c in
    let typed = λ (q : ℕ). get_or ports q kind.Bool in
    free_reads (types_at ports places) (used_place places p) (get_or ports p kind.Bool)
    (subst (λ (m : ℕ). used_place places p < m) (sym (length-map places typed)) within)
    (get_or-map typed places (used_place places p) 0 kind.Bool within ∙ ap typed (used_read places p 0 c))

over_places_reads : (ports : List PortType) (level : LevelMeaning) (f : Ltl) → ReadsKinds ports f
    → All (Contains (level_reads level)) (formula_ports f)
    → ReadsKinds (types_at ports (occurring (length ports) level)) (over_places (occurring (length ports) level) f)
over_places_reads ports level f h among =
    let places : List ℕ = occurring (length ports) level in
    formula_kinds (Contains (level_reads level)) ports (types_at ports places) (λ k. by.Free (used_place places k))
    (λ p c lt. place_reads ports places p (read_occurs (length ports) level p lt c)) f among h

parts_reads : (P : Ltl → Type 0) (parts : List (SubId × Ltl × Ltl))
    → All (λ (part : SubId × Ltl × Ltl). P part.1 × P part.2 × P (part_normal_form part)) parts → All P (flat_map part_formulas parts)
parts_reads P [] h = All-nil P
parts_reads P (part ∷ parts) h =
    let Q = λ (x : SubId × Ltl × Ltl). P x.1 × P x.2 × P (part_normal_form x) in
    let one = All-head Q part parts h in
    let rest = parts_reads P parts (All-tail Q part parts h) in
    let nf = part_normal_form part in
    All-cons P part.1 (part.2 ∷ nf ∷ flat_map part_formulas parts) one.0
    (All-cons P part.2 (nf ∷ flat_map part_formulas parts) one.1 (All-cons P nf (flat_map part_formulas parts) one.2 rest))

-- each formula of a closure, over the ports that occur
pub closure_reads : (ports : List PortType) (level : LevelMeaning) → HasLevelKinds ports level
    → All (ReadsKinds (types_at ports (occurring (length ports) level))) (map (over_places (occurring (length ports) level)) (closure_formulas level))
closure_reads ports level h =
    let places : List ℕ = occurring (length ports) level in
    let Q = λ (f : Ltl). ReadsKinds (types_at ports places) (over_places places f) in
    let among = level_among level in
    let one = over_places_reads ports level in
    All-map (ReadsKinds (types_at ports places)) (over_places places) (closure_formulas level)
    (All-cons Q level.asks (level.gives ∷ flat_map part_formulas level.parts) (one level.asks h.asks among.asks)
    (All-cons Q level.gives (flat_map part_formulas level.parts) (one level.gives h.gives among.gives)
    (parts_reads Q level.parts (λ k d lt.
    let part : SubId × Ltl × Ltl = get_or level.parts k d in
    let a = h.parts k d lt in
    let b = among.parts k d lt in
    let first = one part.1 a.0 b.0 in
    let second = one part.2 a.1 b.1 in
    (first, second, (first, second))))))
