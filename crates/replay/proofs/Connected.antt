use Rattle.std.proofs.Common.{◌≡◌, ℕ, ◌+◌, ◌-◌, ◌%◌, ◌<◌, false, List, [], map, length, get_or, sym, ap, ◌∙◌, subst, arith}
use Rattle.std.proofs.Math.Logic.{inl, inr}
use Rattle.std.proofs.lemmas.Bool.{cases_lt}
use Rattle.std.proofs.lemmas.List.{get_or-map, length-map}
use Rattle.std.proofs.lemmas.List.FromFn.{get_or-map-range_with_len}
use Rattle.std.proofs.lemmas.Nat.{mod_below}
use Rattle.port_types.specs.declared.types.Value.{Value}
use Rattle.port_types.specs.declared.types.Value.TheVariants as value
use Rattle.typed_ltl.specs.Traces.{assignment, lasso_place}
use Rattle.typed_ltl.proofs.Periodicity.{place_before, place_past}
use Rattle.spec_model.specs.Architecture.{ports_at}
use Rattle.connections.specs.Substitution.{port_value}
use Rattle.replay.specs.Judgements.{seen_values}
use Rattle.replay.specs.Laws.{SeenTracesAreConnected}

place_within : (n l i : ℕ) → l < n → lasso_place n l i < n
place_within n l i lt =
    elim (cases_lt i n) [
      | inl h ↦ subst (λ (k : ℕ). k < n) (sym (place_before n l i h)) h
      | inr h ↦
          let below : (i - l) % (n - l) < n - l = mod_below (i - l) (n - l) (omega arith) in
          let within : l + (i - l) % (n - l) < n = omega arith in
          subst (λ (k : ℕ). k < n) (sym (place_past n l i h)) within
    ]

pub seen_traces_are_connected : SeenTracesAreConnected
seen_traces_are_connected spec named s i k within =
    let c = named.component in
    let states = named.lasso.states in
    let l = named.lasso.loop_at in
    let F = seen_values spec c s in
    let n = length (ports_at spec c s) in
    let p = lasso_place (length states) l i in
    let z : 0 + k ≡ k = omega arith in
    ap (λ (m : ℕ). assignment (get_or (map F states) (lasso_place m l i) []) k) (length-map states F)
    ∙ ap (λ (values : List Value). assignment values k) (get_or-map F states p [] [] (place_within (length states) l i named.lasso.in_range))
    ∙ get_or-map-range_with_len (port_value spec c (assignment (get_or states p [])) s) 0 n k k (value.Bool false) within z
