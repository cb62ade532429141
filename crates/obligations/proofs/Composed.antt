use Rattle.std.proofs.Common.{◌≡◌, ℕ, zero, suc, ◌<◌, ◌⊎◌, ◌↔◌, Bool, true, false, cond, List, [], ◌∷◌, ◌++◌, map, length}
use Rattle.std.proofs.Common.{Option, Some, None, option_map, slice_get, eqb, refl, sym, ap, subst, ◌∙◌, inl, inr, arith}
use Rattle.std.proofs.lemmas.Bool.{false≢true, eqb-true, eq-eqb}
use Rattle.std.proofs.lemmas.Option.{slice_get-map}
use Rattle.std.specs.List.{filter}
use Rattle.std.specs.Option.{option_map_or}
use Rattle.oss_base.specs.declared.ids.ComponentId.{ComponentId}
use Rattle.oss_base.specs.declared.ids.ContractId.{ContractId}
use Rattle.oss_base.specs.declared.ids.SubId.{SubId}
use Rattle.typed_ltl.specs.Formulas.{Ltl, meaning}
use Rattle.typed_ltl.specs.Formulas as form
use Rattle.typed_ltl.specs.Traces.{Trace}
use Rattle.typed_ltl.specs.Truth.{Holds}
use Rattle.typed_ltl.specs.Laws.{TruthIsStable}
use Rattle.spec_model.specs.declared.spec.Spec.{Spec}
use Rattle.spec_model.specs.declared.contract.Contract.{Contract}
use Rattle.spec_model.specs.declared.item.Item.{Item}
use Rattle.spec_model.specs.Expressions.{ReadsBelow}
use Rattle.spec_model.specs.Architecture.{IsWellFormed, FallsAlongSubs, ports_of, contracts_of, sub_component}
use Rattle.connections.specs.Substitution.{readings, substituted}
use Rattle.connections.specs.Laws.{SubstitutionKeepsTruth}
use Rattle.connections.specs.LevelFormulas.{what_it_asks, what_it_gives, asked_over_free, part_over_free}
use Rattle.levels.specs.Levels.{part_normal_form}
use Rattle.levels.specs.LevelQuestions.{with_normal_forms, is_of_other_sub}
use Rattle.narrowed_questions.specs.NarrowedQuestions.{HaveTruths}
use Rattle.obligations.specs.Systems.{Path, assumption, guarantee, normal_form, IsInstance, around, IsSystemTrace, IsRefinedBy, IsUnrefined, IsReached}
use Rattle.obligations.specs.Systems.{LeavesMeet}
use Rattle.obligations.specs.Laws.{ReachedLevelsAreValid, ContractsCompose}
use Rattle.obligations.proofs.Locals.{connections_hold, typed_around}

-- Composition: normal forms go up, assumptions go down.

-- whether a contract is refined can be told from the list of items

same_component : (a b : ComponentId) → a.0 ≡ b.0 → a ≡ b
same_component a b e = ap (λ (n : ℕ). let r : ComponentId = record { 0 = n } in r) e

same_contract : (a b : ContractId) → a.0 ≡ b.0 → a ≡ b
same_contract a b e = ap (λ (n : ℕ). let r : ContractId = record { 0 = n } in r) e

-- an item of the list refines this contract
abbrev pub Found : List Item → ComponentId → ContractId → Type 0
Found items c d = (item : Item) × (n : ℕ) × (slice_get items n ≡ Some item) × (item.component ≡ c) × (item.contract ≡ d)

abbrev pub NotFound : List Item → ComponentId → ContractId → Type 0
NotFound items c d = (item : Item) (n : ℕ) → slice_get items n ≡ Some item → item.component ≡ c → item.contract ≡ d → ⊥

not_found_step : (x : Item) (xs : List Item) (c : ComponentId) (d : ContractId)
    → (x.component ≡ c → x.contract ≡ d → ⊥) → NotFound xs c d → NotFound (x ∷ xs) c d
not_found_step x xs c d differs h item zero e f g =
    let same : x ≡ item = cc in
    differs (ap (λ (i : Item). i.component) same ∙ f) (ap (λ (i : Item). i.contract) same ∙ g)
not_found_step x xs c d differs h item (suc n) e f g = h item n e f g

found_step : (x : Item) (xs : List Item) (c : ComponentId) (d : ContractId) (a b : Bool) → eqb x.component.0 c.0 ≡ a
    → eqb x.contract.0 d.0 ≡ b
    → Found xs c d ⊎ NotFound xs c d → Found (x ∷ xs) c d ⊎ NotFound (x ∷ xs) c d
found_step x xs c d true true e f h =
    inl (x, 0, refl, same_component _ _ (eqb-true _ _ e), same_contract _ _ (eqb-true _ _ f))
found_step x xs c d a b e f (inl r) = inl (r.0, suc r.1, r.2, r.3, r.4)
found_step x xs c d true false e f (inr r) = inr (not_found_step x xs c d (λ g k. false≢true (sym f ∙ eq-eqb _ _ (ap (λ (i : ContractId). i.0) k))) r)
found_step x xs c d false b e f (inr r) = inr (not_found_step x xs c d (λ g k. false≢true (sym e ∙ eq-eqb _ _ (ap (λ (i : ComponentId). i.0) g))) r)

find_item : (items : List Item) (c : ComponentId) (d : ContractId) → Found items c d ⊎ NotFound items c d
find_item [] c d = inr (λ item n e f g. cc)
find_item (x ∷ xs) c d = found_step x xs c d (eqb x.component.0 c.0) (eqb x.contract.0 d.0) refl refl (find_item xs c d)

refined_or_not : (spec : Spec) (c : ComponentId) (d : ContractId)
    → ((item : Item) × IsRefinedBy spec c d item) ⊎ IsUnrefined spec c d
refined_or_not spec c d = elim (find_item spec.items c d) [
  | inl r ↦ inl (r.0, record { stands = (r.1, r.2); component = r.3; contract = r.4 })
  | inr h ↦ inr (λ item r. h item r.stands.0 r.stands.1 r.component r.contract)
]

-- the formulas of a contract read ports of its own component

reads_option : (o : Option Contract) (n : ℕ) (part : Contract → Ltl)
    → ((k : Contract) → o ≡ Some k → ReadsBelow n (part k))
    → ReadsBelow n (option_map_or part o form.True)
reads_option None n part h = tt
reads_option (Some k) n part h = h k refl

pub assumption_reads : (spec : Spec) → IsWellFormed spec → (c : ComponentId) (d : ContractId)
    → ReadsBelow (length (ports_of spec c)) (assumption spec c d)
assumption_reads spec well c d =
    reads_option (slice_get (contracts_of spec c) d.0) (length (ports_of spec c)) (λ (k : Contract). meaning k.assume) (λ k e. (well.contracts c d k e).0)

pub guarantee_reads : (spec : Spec) → IsWellFormed spec → (c : ComponentId) (d : ContractId)
    → ReadsBelow (length (ports_of spec c)) (guarantee spec c d)
guarantee_reads spec well c d =
    reads_option (slice_get (contracts_of spec c) d.0) (length (ports_of spec c)) (λ (k : Contract). meaning k.guarantee)
    (λ k e. (well.contracts c d k e).1)

-- what is known of a system trace and the law of substitution
pub record System (spec : Spec) (w : Path → Trace) : Type 0 where
  pub well : IsWellFormed spec
  pub trace : IsSystemTrace spec w
  pub keeps : SubstitutionKeepsTruth
  pub stable : TruthIsStable

-- a formula of the instance itself, and its substituted form
own_same : (spec : Spec) (w : Path → Trace) → System spec w → (p : Path) (c : ComponentId) → IsInstance spec p c
    → (f : Ltl) → ReadsBelow (length (ports_of spec c)) f
    → Holds (w p) f 0 ↔ Holds (around spec w p c) (substituted (readings spec c None) f) 0
own_same spec w sys p c here f l =
    sys.keeps spec c None (around spec w p c) (w p) sys.well (connections_hold spec w p c here sys.trace None) f 0 l

pub sub_reads : (spec : Spec) (o : Option ComponentId) (b : ComponentId) (f : Ltl) → o ≡ Some b
    → ReadsBelow (length (ports_of spec b)) f
    → ReadsBelow (length (option_map_or (ports_of spec) o [])) f
sub_reads spec None b f e l = cc
sub_reads spec (Some a) b f e l =
    let same : a ≡ b = cc in
    rw same l

-- a formula of a subcomponent, and its substituted form
sub_same : (spec : Spec) (w : Path → Trace) → System spec w → (p : Path) (c : ComponentId) → IsInstance spec p c
    → (s : SubId) (b : ComponentId)
    → sub_component spec c s ≡ Some b → (f : Ltl) → ReadsBelow (length (ports_of spec b)) f
    → Holds (w (s ∷ p)) f 0 ↔ Holds (around spec w p c) (substituted (readings spec c (Some s)) f) 0
sub_same spec w sys p c here s b e f l =
    sys.keeps spec c (Some s) (around spec w p c) (w (s ∷ p)) sys.well (connections_hold spec w p c here sys.trace (Some s)) f 0
    (sub_reads spec (sub_component spec c s) b f e l)

-- a reached contract is of an instance
reached_instance : (spec : Spec) (k : ContractId) (p : Path) (c : ComponentId) (d : ContractId)
    → IsReached spec k p c d → IsInstance spec p c
reached_instance spec k [] c d r = r.0
reached_instance spec k (s ∷ p) c d r = (r.0, reached_instance spec k p r.0 r.1 r.2, r.3)

-- the normal form of a listed contract holds around, where it holds at the subcomponent
listed_holds : (spec : Spec) (w : Path → Trace) → System spec w → (p : Path) (c : ComponentId) → IsInstance spec p c
    → (s : SubId) (d : ContractId) (o : Option ComponentId) → sub_component spec c s ≡ o
    → ((b : ComponentId) → o ≡ Some b → Holds (w (s ∷ p)) (normal_form spec b d) 0)
    → Holds (around spec w p c)
    (form.Implies (substituted (readings spec c (Some s)) (what_it_asks (slice_get (option_map_or (contracts_of spec) o []) d.0)))
    (substituted (readings spec c (Some s)) (what_it_gives (slice_get (option_map_or (contracts_of spec) o []) d.0)))) 0
listed_holds spec w sys p c here s d None e h = λ x. x
listed_holds spec w sys p c here s d (Some b) e h =
    let a = sub_same spec w sys p c here s b e (assumption spec b d) (assumption_reads spec sys.well b d) in
    let g = sub_same spec w sys p c here s b e (guarantee spec b d) (guarantee_reads spec sys.well b d) in
    λ x. g.0 (h b refl (a.1 x))

-- questions are joined, and normal forms that hold are premises

truths_join : (w : Trace) (formulas more : List (Ltl × Bool)) → HaveTruths formulas w → HaveTruths more w
    → HaveTruths (formulas ++ more) w
truths_join w [] more h k = k
truths_join w (e ∷ formulas) more h k = (h.0, truths_join w formulas more h.1 k)

-- each of the listed contracts has its normal form on the trace
abbrev pub AllHold : Trace → (SubId × ContractId → SubId × Ltl × Ltl) → List (SubId × ContractId) → Type 0
AllHold w told listed = (n : ℕ) (part : SubId × ContractId) → slice_get listed n ≡ Some part
    → Holds w (part_normal_form (told part)) 0

all_hold : (w : Trace) (told : SubId × ContractId → SubId × Ltl × Ltl) (listed : List (SubId × ContractId))
    → AllHold w told listed → HaveTruths (with_normal_forms (map told listed)) w
all_hold w told [] h = tt
all_hold w told (x ∷ xs) h = (h 0 x refl, all_hold w told xs (λ n part e. h (suc n) part e))

kept_hold : (w : Trace) (part : SubId × Ltl × Ltl) (rest : List (SubId × Ltl × Ltl)) (b : Bool) → Holds w (part_normal_form part) 0
    → HaveTruths (with_normal_forms rest) w → HaveTruths (with_normal_forms (cond b (part ∷ rest) rest)) w
kept_hold w part rest true h k = (h, k)
kept_hold w part rest false h k = k

some_hold : (w : Trace) (told : SubId × ContractId → SubId × Ltl × Ltl) (test : SubId × Ltl × Ltl → Bool) (listed : List (SubId × ContractId))
    → AllHold w told listed → HaveTruths (with_normal_forms (filter test (map told listed))) w
some_hold w told test [] h = tt
some_hold w told test (x ∷ xs) h =
    kept_hold w (told x) (filter test (map told xs)) (test (told x)) (h 0 x refl) (some_hold w told test xs (λ n part e. h (suc n) part e))

-- the premises of composition
pub record Premises (spec : Spec) (w : Path → Trace) (k : ContractId) : Type 0 where
  pub system : System spec w
  pub valid : ReachedLevelsAreValid spec k
  pub leaves : LeavesMeet spec w k

-- a reached contract has its normal form
abbrev pub HasNormalForm : Spec → (Path → Trace) → Path → ComponentId → ContractId → Type 0
HasNormalForm spec w p c d = Holds (w p) (normal_form spec c d) 0

-- the listed contracts' normal forms hold around an instance
parts_hold : (spec : Spec) (w : Path → Trace) (k : ContractId) → Premises spec w k
    → (p : Path) (c : ComponentId) (d : ContractId) (item : Item)
    → IsReached spec k p c d → IsRefinedBy spec c d item
    → ((s : SubId) (b : ComponentId) (e : ContractId) → sub_component spec c s ≡ Some b → IsReached spec k (s ∷ p) b e → HasNormalForm spec w (s ∷ p) b e)
    → AllHold (around spec w p item.component) (part_over_free spec item.component) item.parts
parts_hold spec w k pre p c d item r by h n part e =
    let here : IsInstance spec p item.component = rw by.component (reached_instance spec k p c d r) in
    listed_holds spec w pre.system p item.component here part.0 part.1 (sub_component spec item.component part.0) refl
    (λ b f.
    let g : sub_component spec c part.0 ≡ Some b = rw by.component at f in
    h part.0 b part.1 g (c, d, r, g, (item, by, n, e)))

-- one step up: where the listed contracts have their normal forms, so has the refined one
step_up : (spec : Spec) (w : Path → Trace) (k : ContractId) → Premises spec w k
    → (p : Path) (c : ComponentId) (d : ContractId) (item : Item)
    → IsReached spec k p c d → IsRefinedBy spec c d item
    → ((s : SubId) (b : ComponentId) (e : ContractId) → sub_component spec c s ≡ Some b → IsReached spec k (s ∷ p) b e → HasNormalForm spec w (s ∷ p) b e)
    → HasNormalForm spec w p item.component item.contract
step_up spec w k pre p c d item r by h =
    let sys = pre.system in
    let here : IsInstance spec p item.component = rw by.component (reached_instance spec k p c d r) in
    let a = own_same spec w sys p item.component here (assumption spec item.component item.contract)
    (assumption_reads spec sys.well item.component item.contract) in
    let g = own_same spec w sys p item.component here (guarantee spec item.component item.contract)
    (guarantee_reads spec sys.well item.component item.contract) in
    let valid = pre.valid p c d r item by in
    λ x. sys.stable (w p) (guarantee spec item.component item.contract) 0 (λ no.
    valid.entailed (
      around spec w p item.component,
      typed_around spec w p item.component here sys.trace,
      truths_join _ _ _ (all_hold _ (part_over_free spec item.component) item.parts (parts_hold spec w k pre p c d item r by h))
          (a.0 x, ((λ y. no (g.1 y)), tt)),
    ))

-- every reached contract has its normal form, by the rank of its component
normal_forms : (spec : Spec) (w : Path → Trace) (k : ContractId) → Premises spec w k → (rank : ℕ → ℕ)
    → FallsAlongSubs spec rank → (n : ℕ)
    → (p : Path) (c : ComponentId) (d : ContractId) → IsReached spec k p c d → rank c.0 < n → HasNormalForm spec w p c d
normal_forms spec w k pre rank falls zero p c d r l = absurd (omega arith)
normal_forms spec w k pre rank falls (suc n) p c d r l = elim (refined_or_not spec c d) [
  | inl found ↦
      (let up = step_up spec w k pre p c d found.0 r found.1
      (λ s b e f below. normal_forms spec w k pre rank falls n (s ∷ p) b e below (let lt = falls c b s f in omega arith)) in
      rw (found.1.component, found.1.contract) at up)
  | inr leaf ↦ pre.leaves p c d r leaf
]

-- an item lists this contract of this subcomponent, which is an instance of this component
record IsListedHere (spec : Spec) (item : Item) (s : SubId) (b : ComponentId) (e : ContractId) : Type 0 where
  component : sub_component spec item.component s ≡ Some b
  place : ℕ
  at : slice_get item.parts place ≡ Some (s, e)

told_at : {X Y : Type 0} (told : X → Y) (xs : List X) (n : ℕ) (x : X) → slice_get xs n ≡ Some x → slice_get (map told xs) n ≡ Some (told x)
told_at told xs n x e = slice_get-map told xs n ∙ ap (option_map told) e

-- what a listed contract asks is what it asks in its own component
part_asks : (spec : Spec) (v : Trace) (c : ComponentId) (s : SubId) (b : ComponentId) (e : ContractId) → sub_component spec c s ≡ Some b
    → Holds v (asked_over_free spec c (Some s) e) 0 → Holds v (substituted (readings spec c (Some s)) (assumption spec b e)) 0
part_asks spec v c s b e is h =
    subst (λ (o : Option ComponentId).
    Holds v (substituted (readings spec c (Some s)) (what_it_asks (slice_get (option_map_or (contracts_of spec) o []) e.0))) 0) is h

-- one step down: the assumption of a listed contract
step_down : (spec : Spec) (w : Path → Trace) (k : ContractId) → Premises spec w k
    → ((p : Path) (c : ComponentId) (d : ContractId) → IsReached spec k p c d → HasNormalForm spec w p c d)
    → (p : Path) (c : ComponentId) (d : ContractId) (item : Item) → IsReached spec k p c d → IsRefinedBy spec c d item
    → Holds (w p) (assumption spec item.component item.contract) 0
    → (s : SubId) (b : ComponentId) (e : ContractId) → IsListedHere spec item s b e
    → Holds (w (s ∷ p)) (assumption spec b e) 0
step_down spec w k pre up p c d item r by x s b e listed =
    let sys = pre.system in
    let here : IsInstance spec p item.component = rw by.component (reached_instance spec k p c d r) in
    let a = own_same spec w sys p item.component here (assumption spec item.component item.contract)
    (assumption_reads spec sys.well item.component item.contract) in
    let g = sub_same spec w sys p item.component here s b listed.component (assumption spec b e) (assumption_reads spec sys.well b e) in
    let valid = pre.valid p c d r item by in
    sys.stable (w (s ∷ p)) (assumption spec b e) 0 (λ no.
    valid.assumed listed.place (part_over_free spec item.component (s, e))
    (told_at (part_over_free spec item.component) item.parts listed.place (s, e) listed.at) (
      around spec w p item.component,
      typed_around spec w p item.component here sys.trace,
      (
        a.0 x,
        truths_join _ _ _
            (some_hold _ (part_over_free spec item.component) (is_of_other_sub s) item.parts
            (parts_hold spec w k pre p c d item r by (λ s b e f below. up (s ∷ p) b e below)))
            ((λ y. no (g.1 (part_asks spec _ item.component s b e listed.component y))), tt),
      ),
    ))

assumptions : (spec : Spec) (w : Path → Trace) (k : ContractId) → Premises spec w k
    → ((p : Path) (c : ComponentId) (d : ContractId) → IsReached spec k p c d → HasNormalForm spec w p c d)
    → Holds (w []) (assumption spec spec.system k) 0 → (p : Path) (c : ComponentId) (d : ContractId)
    → IsReached spec k p c d → Holds (w p) (assumption spec c d) 0
assumptions spec w k pre up x [] c d r = rw (r.0, r.1) x
assumptions spec w k pre up x (s ∷ p) b e r =
    let item = r.4.0 in
    let by = r.4.1 in
    let above = assumptions spec w k pre up x p r.0 r.1 r.2 in
    step_down spec w k pre up p r.0 r.1 item r.2 by
    (rw (by.component, by.contract) above) s b e (record { component = rw by.component r.3; place = r.4.2; at = r.4.3 })

pub contracts_compose : TruthIsStable → SubstitutionKeepsTruth → ContractsCompose
contracts_compose stable keeps spec k well valid w trace leaves x =
    let pre : Premises spec w k = record {
      system = record { well = well; trace = trace; keeps = keeps; stable = stable };
      valid = valid;
      leaves =
          leaves;
    } in
    let up = λ (p : Path) (c : ComponentId) (d : ContractId) (r : IsReached spec k p c d). normal_forms spec w k pre well.acyclic.0 well.acyclic.1
    (suc (well.acyclic.0 c.0)) p c d r (omega arith) in
    record {
      guaranteed = up [] spec.system k (refl, refl) x;
      assumed = assumptions spec w k pre up x;
    }
