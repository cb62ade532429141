use Rattle.std.proofs.Common.{◌≡◌, ℕ, zero, suc, ◌+◌, ◌<◌, ◌≤◌, Bool, true, false, cond, List, [], ◌∷◌, ◌++◌, map, length, get_or, Option, Some, None}
use Rattle.std.proofs.Common.{option_map, slice_get, refl, sym, ap, subst, ◌∙◌, arith, add-one, append_assoc}
use Rattle.std.proofs.lemmas.List.{append-nil, get_or-map}
use Rattle.std.proofs.lemmas.List.FromFn.{length-map-range_with_len, get_or-map-range_with_len, map-range_with_len_more}
use Rattle.std.proofs.lemmas.Option.{slice_get_read, unwrap_or-slice_get}
use Rattle.std.specs.Option.{unwrap_or}
use Rattle.std.specs.List.{range_with_len, flat_map, find, AllZip}
use Rattle.std.specs.Option.{option_map_or}
use Rattle.port_types.specs.declared.types.Value.{Value}
use Rattle.port_types.specs.declared.types.Value.TheVariants as value
use Rattle.oss_base.specs.declared.ids.ComponentId.{ComponentId}
use Rattle.oss_base.specs.declared.ids.ContractId.{ContractId}
use Rattle.oss_base.specs.declared.ids.SubId.{SubId}
use Rattle.typed_ltl.specs.Traces.{Assignment, Trace, assignment, word}
use Rattle.spec_model.specs.declared.spec.Spec.{Spec}
use Rattle.spec_model.specs.declared.contract.Contract.{Contract}
use Rattle.spec_model.specs.declared.sub.Sub.{Sub}
use Rattle.spec_model.specs.declared.wire.Wire.{Wire}
use Rattle.spec_model.specs.declared.wire.Target.{Target}
use Rattle.spec_model.specs.Architecture.{ports_at, subs_of, wires_of, target, targets_at, same_target, connection, free_place}
use Rattle.connections.specs.declared.driving.Driver.{Driver}
use Rattle.connections.specs.declared.driving.Driver.TheVariants as driver
use Rattle.connections.specs.Drivers.{first_place, first_wire, driver_of, driver_rows}
use Rattle.connections.specs.Substitution.{source_reading, reading, reading_value, port_value}
use Rattle.connections.specs.Substitution as by
use Rattle.replay.specs.declared.named.NamedLasso.{NamedLasso}
use Rattle.replay.specs.declared.judgement.Judgement.{Judgement}
use Rattle.connections.specs.LevelFormulas.{contracts_at}
use Rattle.replay.specs.Judgements.{seen_values, seen_trace, first_contracts, all_contracts_at}
use Rattle.replay.specs.Judgements.{IsJudgementBy, IsJudgement, AreJudgements}
use Rattle.replay.specs.Judging.{wire_value, driven_value, driven_values, AreJudged}

-- What is not there is the default.
pub default_at : {X : Type 0} (xs ys : List X) (i : ℕ) (d : X) → ys ≡ xs → None ≡ slice_get ys i → d ≡ get_or xs i d
default_at {X = X} xs ys i d e h =
    ap (λ (o : Option X). unwrap_or o d) h ∙ (unwrap_or-slice_get ys i d ∙ ap (λ (zs : List X). get_or zs i d) e)

-- What drives a port tells its value.

-- the first that passes, by its place or as it is found
first_found : {X A : Type 0} (p : X → Bool) (f : X → A) (d e : A) (xs : List X)
    → option_map_or (λ (k : ℕ). option_map_or f (slice_get xs k) e) (first_place p xs) d ≡ option_map_or f (find p xs) d
first_found p f d e [] = refl
first_found {X = X} p f d e (x ∷ xs) = step (p x) (first_place p xs) (find p xs) (first_found p f d e xs) where
  step : (b : Bool) (q : Option ℕ) (o : Option X)
      → option_map_or (λ (k : ℕ). option_map_or f (slice_get xs k) e) q d ≡ option_map_or f o d
      → option_map_or (λ (k : ℕ). option_map_or f (slice_get (x ∷ xs) k) e) (cond b (Some 0) (option_map (λ (k : ℕ). k + 1) q)) d
      ≡ option_map_or f (cond b (Some x) o) d
  step true q o h = refl
  step false None o h = h
  step false (Some k) o h = rw add-one h

by_driver : (wires : List Wire) (free : Assignment) (q : Option ℕ) (place : ℕ)
    → driven_value wires free (option_map_or driver.Wired q (driver.Free place))
    ≡ option_map_or (λ (k : ℕ). wire_value free (slice_get wires k)) q (free place)
by_driver wires free None place = refl
by_driver wires free (Some k) place = refl

by_reading : (free : Assignment) (o : Option Wire) (place : ℕ)
    → option_map_or (λ (w : Wire). reading_value free (source_reading w.source)) o (free place)
    ≡ reading_value free (option_map_or (λ (w : Wire). source_reading w.source) o (by.Free place))
by_reading free None place = refl
by_reading free (Some w) place = refl

driven_is : (spec : Spec) (c : ComponentId) (free : Assignment) (t : Target)
    → driven_value (wires_of spec c) free (driver_of spec c t) ≡ reading_value free (reading spec c t)
driven_is spec c free t =
    by_driver (wires_of spec c) free (first_wire (wires_of spec c) t) (free_place spec c t)
    ∙ first_found (λ (w : Wire). same_target w.target t) (λ (w : Wire). reading_value free (source_reading w.source)) (free (free_place spec c t))
    (value.Bool false) (wires_of spec c)
    ∙ by_reading free (connection spec c t) (free_place spec c t)

row_is : (spec : Spec) (c : ComponentId) (s : Option SubId) (free : Assignment) (places : List ℕ)
    → map (driven_value (wires_of spec c) free) (map (driver_of spec c) (map (target s) places)) ≡ map (port_value spec c free s) places
row_is spec c s free [] = refl
row_is spec c s free (k ∷ places) = λ j. driven_is spec c free (target s k) j ∷ row_is spec c s free places j

values_are : (spec : Spec) (c : ComponentId) (s : Option SubId) (free : List Value)
    → driven_values (wires_of spec c) (map (driver_of spec c) (targets_at spec c s)) free ≡ seen_values spec c s free
values_are spec c s free = row_is spec c s (assignment free) (range_with_len 0 (length (ports_at spec c s)))

states_are : (spec : Spec) (c : ComponentId) (s : Option SubId) (states : List (List Value))
    → map (driven_values (wires_of spec c) (map (driver_of spec c) (targets_at spec c s))) states ≡ map (seen_values spec c s) states
states_are spec c s [] = refl
states_are spec c s (free ∷ states) = λ j. values_are spec c s free j ∷ states_are spec c s states j

-- the word of the lasso that the ports see
pub seen_word : (spec : Spec) (named : NamedLasso) (s : Option SubId) (drivers : List Driver) (states : List (List Value))
    → drivers ≡ map (driver_of spec named.component) (targets_at spec named.component s)
    → states ≡ map (driven_values (wires_of spec named.component) drivers) named.lasso.states
    → word states named.lasso.loop_at ≡ seen_trace spec named s
seen_word spec named s drivers states d e =
    let c = named.component in
    ap (λ (states : List (List Value)). word states named.lasso.loop_at)
    (e ∙ ap (λ (drivers : List Driver). map (driven_values (wires_of spec c) drivers) named.lasso.states) d ∙ states_are spec c s named.lasso.states)

-- the drivers of the ports of a subcomponent
sub_row_at : (spec : Spec) (c : ComponentId) (n : ℕ) → n < length (subs_of spec c)
    → get_or (driver_rows spec c) (n + 1) [] ≡ map (driver_of spec c) (targets_at spec c (Some (record { 0 = n })))
sub_row_at spec c n within =
    let T : ℕ → List Target = λ (k : ℕ). targets_at spec c (Some (record { 0 = k })) in
    let l : n < length (map T (range_with_len 0 (length (subs_of spec c)))) = rw length-map-range_with_len within in
    let z : 0 + n ≡ n = omega arith in
    rw add-one (get_or-map (map (driver_of spec c)) (map T (range_with_len 0 (length (subs_of spec c)))) n [] [] l
    ∙ ap (map (driver_of spec c)) (get_or-map-range_with_len T 0 (length (subs_of spec c)) n n [] within z))

pub sub_row : (spec : Spec) (c : ComponentId) (rows : List (List Driver)) (row : List Driver) (subs : List Sub) (n k : ℕ)
    → rows ≡ driver_rows spec c → subs ≡ subs_of spec c → k < length subs → n ≡ k → row ≡ get_or rows (k + 1) []
    → row ≡ map (driver_of spec c) (targets_at spec c (Some (record { 0 = n })))
sub_row spec c rows row subs n k e f within same is =
    let l : k < length (subs_of spec c) = rw f at within in
    is
    ∙ (ap (λ (rows : List (List Driver)). get_or rows (k + 1) []) e
    ∙ (sub_row_at spec c k l
    ∙ ap (λ (m : ℕ). map (driver_of spec c) (targets_at spec c (Some (record { 0 = m })))) (sym same)))

-- Judgements come one after the other.

pub judged_none : (spec : Spec) (named : NamedLasso) (judgements : List Judgement) → AreJudged spec named [] judgements judgements
judged_none spec named judgements = record {
  all = λ done h. rw append-nil h;
}

pub judged_then : (spec : Spec) (named : NamedLasso) (more yet all : List (Option SubId × ContractId)) (a b c : List Judgement)
    → all ≡ more ++ yet → AreJudged spec named more a b → AreJudged spec named yet b c → AreJudged spec named all a c
judged_then spec named more yet all a b c e h k = record {
  all = λ done z. subst (λ (list : List (Option SubId × ContractId)). AllZip (IsJudgement spec named) list c)
      (append_assoc done more yet ∙ ap (λ (list : List (Option SubId × ContractId)). done ++ list) (sym e))
      (k.all (done ++ more) (h.all done z));
}

zip_push : {A B : Type 0} (R : A → B → Type 0) (xs : List A) (ys : List B) (x : A) (y : B) → AllZip R xs ys → R x y
    → AllZip R (xs ++ x ∷ []) (ys ++ y ∷ [])
zip_push R [] [] x y h r = (r, tt)
zip_push R [] (b ∷ ys) x y h r = absurd h
zip_push R (a ∷ xs) [] x y h r = absurd h
zip_push R (a ∷ xs) (b ∷ ys) x y h r = (h.0, zip_push R xs ys x y h.1 r)

pub judged_more : (spec : Spec) (named : NamedLasso) (s : Option SubId) (n k : ℕ) (start old new : List Judgement) (j : Judgement)
    → n ≡ k → IsJudgement spec named (s, record { 0 = n }) j → new ≡ old ++ j ∷ []
    → AreJudged spec named (first_contracts s k) start old
    → AreJudged spec named (first_contracts s (k + 1)) start new
judged_more spec named s n k start old new j same is put before =
    let at : ℕ → Option SubId × ContractId = λ i. (s, record { 0 = i }) in
    let z : 0 + k ≡ k = omega arith in
    judged_then spec named (first_contracts s k) (at n ∷ []) (first_contracts s (k + 1)) start old new
    (map-range_with_len_more at 0 k k z ∙ ap (λ (m : ℕ). first_contracts s k ++ at m ∷ []) (sym same))
    before
    (record {
      all = λ done h. subst (AllZip (IsJudgement spec named) (done ++ at n ∷ [])) (sym put)
          (zip_push (IsJudgement spec named) done old (at n) j h is);
    })

same_content : {X : Type 0} (o : Option X) (x y : X) → o ≡ Some x → o ≡ Some y → x ≡ y
same_content o x y e f = cc

-- the judgement of one contract
pub judgement_is : (spec : Spec) (named : NamedLasso) (s : Option SubId) (n k : ℕ) (contracts : List Contract) (x : Contract) (w : Trace) (j : Judgement)
    → contracts ≡ contracts_at spec named.component s → k < length contracts → x ≡ get_or contracts k x → n ≡ k
    → w ≡ seen_trace spec named s → j.component ≡ named.component → j.sub ≡ s → j.contract ≡ record { 0 = n }
    → IsJudgementBy w x j → IsJudgement spec named (s, record { 0 = n }) j
judgement_is spec named s n k contracts x w j e within is same seen component sub contract by = record {
  component = component;
  sub = sub;
  contract = contract;
  truths = λ y found.
      let there : slice_get (contracts_at spec named.component s) k ≡ Some x =
      ap (λ (list : List Contract). slice_get list k) (sym e) ∙ slice_get_read contracts (length contracts) k x refl within is in
      let here : slice_get (contracts_at spec named.component s) k ≡ Some y =
      ap (λ (m : ℕ). slice_get (contracts_at spec named.component s) m) (sym same) ∙ found in
      subst (λ (q : Contract). IsJudgementBy (seen_trace spec named s) q j) (same_content (slice_get (contracts_at spec named.component s) k) x y there here)
      (subst (λ (v : Trace). IsJudgementBy v x j) seen by);
}

-- the contracts of the component, and of the first of its subcomponents
abbrev pub contracts_to : Spec → ComponentId → ℕ → List (Option SubId × ContractId)
contracts_to spec c n = all_contracts_at spec c None
    ++ flat_map (λ k. all_contracts_at spec c (Some (record { 0 = k }))) (range_with_len 0 n)

flat_map_range : {X : Type 0} (F : ℕ → List X) (a n j : ℕ) → a + n ≡ j
    → flat_map F (range_with_len a (n + 1)) ≡ flat_map F (range_with_len a n) ++ F j
flat_map_range F a zero j e = append-nil (F a) ∙ ap F (let z : a ≡ j = omega arith in z)
flat_map_range F a (suc n) j e =
    let z : suc n + 1 ≡ suc (n + 1) = omega arith in
    rw z (ap (λ list. F a ++ list) (flat_map_range F (a + 1) n j (omega arith))
    ∙ sym (append_assoc (F a) (flat_map F (range_with_len (a + 1) n)) (F j)))

pub judged_next : (spec : Spec) (named : NamedLasso) (n k : ℕ) (start old new : List Judgement) → n ≡ k
    → AreJudged spec named (all_contracts_at spec named.component (Some (record { 0 = n }))) old new
    → AreJudged spec named (contracts_to spec named.component k) start old
    → AreJudged spec named (contracts_to spec named.component (k + 1)) start new
judged_next spec named n k start old new same yet before =
    let c = named.component in
    let at : ℕ → List (Option SubId × ContractId) = λ i. all_contracts_at spec c (Some (record { 0 = i })) in
    let z : 0 + k ≡ k = omega arith in
    judged_then spec named (contracts_to spec c k) (at n) (contracts_to spec c (k + 1)) start old new
    (ap (λ list. all_contracts_at spec c None ++ list) (flat_map_range at 0 k k z)
    ∙ (sym (append_assoc (all_contracts_at spec c None) (flat_map at (range_with_len 0 k)) (at k))
    ∙ ap (λ (m : ℕ). contracts_to spec c k ++ at m) (sym same)))
    before yet

pub judged_all : (spec : Spec) (named : NamedLasso) (subs : List Sub) (k : ℕ) (judgements : List Judgement) → subs ≡ subs_of spec named.component
    → k ≤ length subs → length subs ≤ k → AreJudged spec named (contracts_to spec named.component k) [] judgements
    → AreJudgements spec named judgements
judged_all spec named subs k judgements e most least h =
    let same : k ≡ length subs = omega arith in
    let all = subst (λ (m : ℕ). AreJudged spec named (contracts_to spec named.component m) [] judgements)
    (same ∙ ap (λ (list : List Sub). length list) e) h in
    all.all [] tt
