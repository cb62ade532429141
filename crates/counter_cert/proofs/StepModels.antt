-- The clauses of a step have a model exactly where a pair that meets all entries has a successor that does not.
use Rattle.std.proofs.Common.{◌≡◌, ℕ, ◌+◌, ◌%◌, ◌<◌, ◌≤◌, ◌↔◌, Bool, true, false, not, ◌&&◌, ◌||◌, List, [], ◌∷◌, ◌++◌, length, length-append, get_or}
use Rattle.std.proofs.Common.{Option, Some, None, inl, inr, refl, sym, ap, ◌∙◌, subst, subst₂, arith}
use Rattle.std.specs.Prelude.{All, nat_lt, nat_le}
use Rattle.std.proofs.lemmas.Bool.{cases_Bool, true≢false}
use Rattle.std.proofs.lemmas.List.{length-map}
use Rattle.core_ltl.specs.declared.node.NodeId.{NodeId}
use Rattle.core_ltl.specs.Nodes.{members, IsClosure}
use Rattle.cnf.specs.declared.lit.Lit.{Lit}
use Rattle.cnf.specs.Clauses.{lit_holds, clauses_hold, Problem, IsModel}
use Rattle.cnf.specs.Gates.{literal}
use Rattle.cnf.proofs.ModelLaws.{clauses_hold-more}
use Rattle.cnf.proofs.ListLaws.{same_where_met, met_where_same}
use Rattle.state_coding.proofs.StateLaws.{parts_hold, both_hold, within_later}
use Rattle.tableau.specs.TableauStates.{ClosureOverPorts, TableauState, IsTableauStep, fairness, meets_condition}
use Rattle.tableau.specs.Copies.{LayerLits, IsCodedLayer, layer_state, member_literal}
use Rattle.tableau.proofs.Places.{member_value}
use Rattle.counter_cert.specs.declared.bounds.GuardedBound.{GuardedBound}
use Rattle.counter_cert.specs.Progress.{most_progress, progress_after}
use Rattle.counter_cert.specs.Certificates.{MeetsAll}
use Rattle.counter_cert.specs.StartClauses.{some_case_clauses}
use Rattle.counter_cert.specs.StepClauses.{each_below, falling_clauses, condition_clauses, fairness_clauses, progress_clauses}
use Rattle.counter_cert.specs.StepClauses.{counting_clauses, unmet_cases, no_case_clauses}
use Rattle.counter_cert.specs.Checking.{HasModel, BreaksStep}
use Rattle.counter_cert.specs.Pairs.{IsCodedPair}
use Rattle.counter_cert.proofs.CaseLaws.{some_holds, no_case_is, some_case_says, some_case_fits}
use Rattle.counter_cert.proofs.CountLaws.{same_value, gate_is, each_says, each_fits, IsRow, Counts, AreThere, counted, counting_says, counting_fit}
use Rattle.counter_cert.proofs.EntryLaws.{AreGuardsOver, AreBoundsWithin, some_unmet, all_met}
use Rattle.counter_cert.proofs.LayerModels.{layer_stays}
use Rattle.counter_cert.proofs.Members.{IsReadable, IsConditionOver, member_known, conditions_over}
use Rattle.counter_cert.proofs.Known.{guards_known, unmet_known}
use Rattle.counter_cert.proofs.Rows.{row_values, length-row_values, row_made, row_later, case_values}
use Rattle.counter_cert.proofs.StartLaws.{readable_in}

-- ---- the fairness conditions

-- whether the state meets the condition of a number
abbrev pub met_at : ClosureOverPorts → TableauState → ℕ → Bool
met_at t s j = meets_condition s (get_or (fairness t) j None)

alone_is : (c : Bool) → ((c || false) && true) ≡ same_value c true
alone_is true = refl
alone_is false = refl

module _ (model : List Bool) (t : ClosureOverPorts) (layer : LayerLits) (is : IsReadable (length model) t layer) where
  condition_is : (c : Lit) (condition : Option (NodeId × NodeId)) → c.var < length model → IsConditionOver t condition
      → clauses_hold model (condition_clauses layer c condition)
      ≡ same_value (lit_holds model c) (meets_condition (layer_state model t layer) condition)
  condition_is c None kc over = alone_is (lit_holds model c)
  condition_is c (Some u) kc over =
      let left = member_value model t layer u.0.0 (omega (arith, over.left, is.count)) in
      let right = member_value model t layer u.1.0 (omega (arith, over.right, is.count)) in
      gate_is model c (member_literal layer u.0.0) (member_literal layer u.1.0) kc
      (member_known (length model) t layer u.0.0 is over.left) (member_known (length model) t layer u.1.0 is over.right)
      ∙ (λ j. same_value (lit_holds model c) (not (sym left j) || sym right j))

  module _ (closed : IsClosure (members t.closure)) (c : ℕ) (room : c + length (fairness t) ≤ length model) where
    fair_at : (j : ℕ) → j < length (fairness t) → clauses_hold model (fairness_clauses t layer c j)
        ≡ same_value (lit_holds model (literal (c + j))) (met_at t (layer_state model t layer) j)
    fair_at j lt =
        condition_is (literal (c + j)) (get_or (fairness t) j None) (omega (arith, lt, room)) (conditions_over t closed j None lt)

    fairness_says : clauses_hold model (each_below (fairness_clauses t layer c) (length (fairness t))) ≡ true
        → IsRow model c (length (fairness t)) (met_at t (layer_state model t layer))
    fairness_says h = λ j lt.
        same_where_met _ _ _ (fair_at j lt) (each_says model (fairness_clauses t layer c) (length (fairness t)) h j lt)

    fairness_fits : IsRow model c (length (fairness t)) (met_at t (layer_state model t layer))
        → clauses_hold model (each_below (fairness_clauses t layer c) (length (fairness t))) ≡ true
    fairness_fits row =
        each_fits model (fairness_clauses t layer c) (length (fairness t)) (λ j lt. met_where_same _ _ _ (fair_at j lt) (row j lt))

not_false : (b : Bool) → not b ≡ true → b ≡ false
not_false true e = sym e
not_false false e = refl

-- ---- a step

module _ (t : ClosureOverPorts) (k : ℕ) (entries : List GuardedBound) (n : ℕ) (older : List (List Lit)) (from to : LayerLits)
    (pair : IsCodedPair n older t from to) (closed : IsClosure (members t.closure)) (some : 0 < length (fairness t))
    (over : AreGuardsOver t entries) (within : AreBoundsWithin (most_progress t k) entries) (g c h e : ℕ)
    (at_g : g ≡ n) (at_c : c ≡ g + (most_progress t k + 1)) (at_h : h ≡ c + length (fairness t))
    (at_e : e ≡ h + (most_progress t k + 1)) where
  abbrev pub Whole : List (List Lit)
  Whole = older ++ counting_clauses t (most_progress t k) from g c h ++ no_case_clauses (unmet_cases from g entries)
      ++ some_case_clauses e (unmet_cases to h entries)

  -- a model that is long enough
  there : (model : List Bool) → e ≤ length model → AreThere model (length (fairness t)) (most_progress t k) g c h
  there model le = record {
    over = omega (arith, le, at_c, at_h, at_e);
    turns = omega (arith, le, at_h, at_e);
    next = omega (arith, le, at_e);
    some = some;
  }

  enough : (model : List Bool) → e ≤ length model → n ≤ length model
  enough model le = omega (arith, le, at_g, at_c, at_h, at_e)

  from_known : (m : ℕ) → e ≤ m → All (All (λ lit. lit.var < m)) (unmet_cases from g entries)
  from_known m le =
      unmet_known m from (within_later n m from.members (omega (arith, le, at_g, at_c, at_h, at_e)) pair.from_coded.members) g
      (most_progress t k) entries (omega (arith, le, at_c, at_h, at_e)) (guards_known t from pair.from_coded.count entries over) within

  to_known : (m : ℕ) → e ≤ m → All (All (λ lit. lit.var < m)) (unmet_cases to h entries)
  to_known m le =
      unmet_known m to (within_later n m to.members (omega (arith, le, at_g, at_c, at_h, at_e)) pair.to_coded.members) h
      (most_progress t k) entries (omega (arith, le, at_e)) (guards_known t to pair.to_coded.count entries over) within

  step_says : (model : List Bool) → length model ≡ e + length entries → clauses_hold model Whole ≡ true → BreaksStep t k entries
  step_says model long holds =
      let most = most_progress t k in
      let le : e ≤ length model = omega (arith, long) in
      let n_le = enough model le in
      let from_is = readable_in n older model t from pair.from_coded n_le in
      let to_is = readable_in n older model t to pair.to_coded n_le in
      let last = parts_hold model (older ++ counting_clauses t most from g c h ++ no_case_clauses (unmet_cases from g entries))
      (some_case_clauses e (unmet_cases to h entries)) holds in
      let met = parts_hold model (older ++ counting_clauses t most from g c h) (no_case_clauses (unmet_cases from g entries)) last.0 in
      let count = parts_hold model older (counting_clauses t most from g c h) met.0 in
      let split = parts_hold model (each_below (falling_clauses g) most ++ each_below (fairness_clauses t from c) (length (fairness t)))
      (each_below (progress_clauses (length (fairness t)) g c h) (most + 1)) count.1 in
      let rows = parts_hold model (each_below (falling_clauses g) most) (each_below (fairness_clauses t from c) (length (fairness t))) split.0 in
      let turns = fairness_says model t from from_is closed c (omega (arith, le, at_h, at_e)) rows.1 in
      let counts = counting_says model (length (fairness t)) most g c h (there model le) (met_at t (layer_state model t from)) rows.0 turns split.1 in
      let cases : length (unmet_cases to h entries) ≡ length entries = length-map entries _ in
      record {
        from = layer_state model t from;
        to = layer_state model t to;
        progress = counts.0;
        from_is = pair.from_coded.state model n_le count.0;
        to_is = pair.to_coded.state model n_le count.0;
        step = pair.steps model n_le count.0;
        met = all_met model t from from_is g most counts.0 counts.1.over entries over within
            (not_false (some_holds model (unmet_cases from g entries))
            (sym (no_case_is model (unmet_cases from g entries) (from_known (length model) le)) ∙ met.1));
        unmet = some_unmet model t to to_is h most (progress_after t k (layer_state model t from) counts.0) counts.1.next entries over within
            (some_case_says model e (unmet_cases to h entries) (omega (arith, long, cases)) last.1);
      }

  -- a model that has the states and the rows, with the values of the last cases behind it
  fits_in : (model : List Bool) (s next : TableauState) (p : ℕ) → e ≡ length model → clauses_hold model older ≡ true
      → layer_state model t from ≡ s → layer_state model t to ≡ next
      → Counts model (length (fairness t)) (most_progress t k) (met_at t s) g c h p
      → MeetsAll s p entries → (MeetsAll next (progress_after t k s p) entries → ⊥)
      → (whole : List Bool) × (length whole ≡ e + length entries) × (clauses_hold whole Whole ≡ true)
  fits_in base s next p size older_holds is_s is_next rows met unmet =
      let most = most_progress t k in
      let m = length (fairness t) in
      let cases = unmet_cases to h entries in
      let values = case_values base e cases (sym size) (to_known e (omega arith)) in
      let model = base ++ values.0 in
      let longer : length model ≡ length base + length values.0 = length-append base values.0 in
      let le : e ≤ length model = omega (arith, longer, size) in
      let n_base : n ≤ length base = enough base (omega (arith, size)) in
      let n_le = enough model le in
      let from_is = readable_in n older model t from pair.from_coded n_le in
      let to_is = readable_in n older model t to pair.to_coded n_le in
      let at_s : layer_state model t from ≡ s = layer_stays n older base values.0 t from pair.from_coded n_base ∙ is_s in
      let at_next : layer_state model t to ≡ next = layer_stays n older base values.0 t to pair.to_coded n_base ∙ is_next in
      let counts : Counts model m most (met_at t s) g c h p = record {
        over = row_later base values.0 g (most + 1) _ (omega (arith, size, at_c, at_h, at_e)) rows.over;
        turns = row_later base values.0 c m _ (omega (arith, size, at_h, at_e)) rows.turns;
        next = row_later base values.0 h (most + 1) _ (omega (arith, size, at_e)) rows.next;
      } in
      let both = counting_fit model m most g c h (there model le) (met_at t s) p counts in
      let fair = fairness_fits model t from from_is closed c (omega (arith, le, at_h, at_e))
      (subst (λ (x : TableauState). IsRow model c m (met_at t x)) (sym at_s) counts.turns) in
      let none : some_holds model (unmet_cases from g entries) ≡ false = elim (cases_Bool (some_holds model (unmet_cases from g entries))) [
        | inl on ↦ absurd (some_unmet model t from from_is g most p counts.over entries over within on
            (subst (λ (x : TableauState). MeetsAll x p entries) (sym at_s) met))
        | inr off ↦ off
      ] in
      let any : some_holds model cases ≡ true = elim (cases_Bool (some_holds model cases)) [
        | inl on ↦ on
        | inr off ↦ absurd (unmet (subst (λ (x : TableauState). MeetsAll x (progress_after t k s p) entries) at_next
            (all_met model t to to_is h most (progress_after t k s p) counts.next entries over within off)))
      ] in
      let count_of : length cases ≡ length entries = length-map entries _ in (
        model,
        omega (arith, longer, size, values.1, count_of),
        both_hold model (older ++ counting_clauses t most from g c h ++ no_case_clauses (unmet_cases from g entries)) (some_case_clauses e cases)
            (both_hold model (older ++ counting_clauses t most from g c h) (no_case_clauses (unmet_cases from g entries))
            (both_hold model older (counting_clauses t most from g c h) (clauses_hold-more base values.0 older older_holds)
            (both_hold model (each_below (falling_clauses g) most ++ each_below (fairness_clauses t from c) m)
            (each_below (progress_clauses m g c h) (most + 1))
            (both_hold model (each_below (falling_clauses g) most) (each_below (fairness_clauses t from c) m) both.0 fair) both.1))
            (no_case_is model (unmet_cases from g entries) (from_known (length model) le) ∙ ap not none))
            (some_case_fits model e cases values.2 any),
      )

  step_fits : BreaksStep t k entries → (whole : List Bool) × (length whole ≡ e + length entries) × (clauses_hold whole Whole ≡ true)
  step_fits b =
      let most = most_progress t k in
      let m = length (fairness t) in
      let base = pair.reaches b.from b.to b.from_is b.to_is b.step in
      let turns = met_at t b.from in
      let p = b.progress in
      let after = counted p (nat_le p most && turns (p % m)) in
      let m0 = base.0 in
      let r1 = row_values (λ i. nat_lt i p) (most + 1) in
      let r2 = row_values turns m in
      let r3 = row_values (λ i. nat_lt i after) (most + 1) in
      let m1 = m0 ++ r1 in
      let m2 = m1 ++ r2 in
      let m3 = m2 ++ r3 in
      let z0 : length m0 ≡ g = base.1.vars ∙ sym at_g in
      let l1 : length r1 ≡ most + 1 = length-row_values (λ i. nat_lt i p) (most + 1) in
      let l2 : length r2 ≡ m = length-row_values turns m in
      let l3 : length r3 ≡ most + 1 = length-row_values (λ i. nat_lt i after) (most + 1) in
      let z1 : length m1 ≡ c = length-append m0 r1 ∙ ((λ j. z0 j + l1 j) ∙ sym at_c) in
      let z2 : length m2 ≡ h = length-append m1 r2 ∙ ((λ j. z1 j + l2 j) ∙ sym at_h) in
      let z3 : length m3 ≡ e = length-append m2 r3 ∙ ((λ j. z2 j + l3 j) ∙ sym at_e) in
      let n0 : n ≤ length m0 = omega (arith, z0, at_g) in
      let n1 : n ≤ length m1 = omega (arith, z1, at_g, at_c) in
      let n2 : n ≤ length m2 = omega (arith, z2, at_g, at_c, at_h) in
      fits_in m3 b.from b.to p (sym z3)
      (clauses_hold-more m2 r3 older (clauses_hold-more m1 r2 older (clauses_hold-more m0 r1 older base.1.holds)))
      (layer_stays n older m2 r3 t from pair.from_coded n2
      ∙ (layer_stays n older m1 r2 t from pair.from_coded n1 ∙ (layer_stays n older m0 r1 t from pair.from_coded n0 ∙ base.2)))
      (layer_stays n older m2 r3 t to pair.to_coded n2
      ∙ (layer_stays n older m1 r2 t to pair.to_coded n1 ∙ (layer_stays n older m0 r1 t to pair.to_coded n0 ∙ base.3)))
      (record {
        over = row_later m2 r3 g (most + 1) (λ i. nat_lt i p) (omega (arith, z2, at_c, at_h))
            (row_later m1 r2 g (most + 1) (λ i. nat_lt i p) (omega (arith, z1, at_c)) (row_made m0 g (λ i. nat_lt i p) (most + 1) z0));
        turns = row_later m2 r3 c m turns (omega (arith, z2, at_h)) (row_made m1 c turns m z1);
        next = row_made m2 h (λ i. nat_lt i after) (most + 1) z2;
      })
      b.met b.unmet

  pub step_models : (problem : Problem) → problem.vars ≡ e + length entries → problem.clauses ≡ Whole
      → HasModel problem ↔ BreaksStep t k entries
  step_models problem ev ec = (
    λ has. step_says has.model (has.is.vars ∙ ev) (sym (ap (clauses_hold has.model) ec) ∙ has.is.holds),
    λ breaks.
        let made = step_fits breaks in
        record { model = made.0; is = record { vars = made.1 ∙ sym ev; holds = ap (clauses_hold made.0) ec ∙ made.2 } },
  )

-- from the parts as they are built
pub built_models : (t : ClosureOverPorts) (k : ℕ) (entries : List GuardedBound) (n : ℕ) (older : List (List Lit)) (from to : LayerLits)
    → IsCodedPair n older t from to → IsClosure (members t.closure) → 0 < length (fairness t) → AreGuardsOver t entries
    → AreBoundsWithin (most_progress t k) entries → (problem : Problem) (listed : List GuardedBound) → listed ≡ entries
    → (mid met_by : List (List Lit)) (over met next last most : ℕ) → most ≡ most_progress t k → over ≡ n → met ≡ over + (most + 1)
    → next ≡ met + length (fairness t) → last ≡ next + (most + 1) → mid ≡ older
    → met_by ≡ mid ++ counting_clauses t most from over met next ++ no_case_clauses (unmet_cases from over listed)
    → problem.clauses ≡ met_by ++ some_case_clauses last (unmet_cases to next listed) → problem.vars ≡ last + length listed
    → HasModel problem ↔ BreaksStep t k entries
built_models t k entries n older from to pair closed some guards within problem listed el mid met_by over met next last most ek eo ea eh ee em ec ew ev =
    step_models t k entries n older from to pair closed some guards within over met next last eo
    (ea ∙ (λ j. over + (ek j + 1))) eh (ee ∙ (λ j. next + (ek j + 1))) problem
    (ev ∙ (λ j. last + length (el j)))
    (ew ∙ (λ j. (ec ∙ (λ i. em i ++ counting_clauses t (ek i) from over met next ++ no_case_clauses (unmet_cases from over (el i)))) j
    ++ some_case_clauses last (unmet_cases to next (el j))))
