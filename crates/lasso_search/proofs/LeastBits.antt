-- Where the bits of one model come no later than those of another, so do the values that they stand for.
use Rattle.std.proofs.Common.{◌≡◌, ℕ, suc, ◌+◌, ◌≤◌, Bool, true, false, cond, List, [], ◌∷◌, ◌++◌, reverse, length, inl, inr, refl, sym}
use Rattle.std.proofs.Common.{ap, ◌∙◌, subst₂, arith}
use Rattle.std.specs.Prelude.{All}
use Rattle.std.specs.List.{flat_map}
use Rattle.std.proofs.lemmas.Bool.{cases_lt}
use Rattle.std.proofs.lemmas.List.{length-map, map_push, map-append, reverse-append}
use Rattle.std.proofs.lemmas.List.Elements.{All-head, All-tail}
use Rattle.port_types.specs.declared.types.PortType.{PortType}
use Rattle.cnf.specs.declared.lit.Lit.{Lit}
use Rattle.cnf.specs.Clauses.{lit_holds, lit_values, clauses_hold}
use Rattle.cnf.specs.Bounds.{binary_number}
use Rattle.cnf.specs.Laws.{GatesAreRight}
use Rattle.state_coding.specs.Codes.{IsCodable, value_at, code_clauses}
use Rattle.state_coding.specs.States.{HasBits, state_clauses, state_values}
use Rattle.state_coding.proofs.CodeLaws.{code_below, code_is_place}
use Rattle.state_coding.proofs.StateLaws.{codable_few, parts_hold}
use Rattle.tableau.specs.TableauStates.{ClosureOverPorts}
use Rattle.tableau.specs.Copies.{LayerLits}
use Rattle.first_lasso.specs.FirstLassos.{state_ranks, value_rank}
use Rattle.first_lasso.specs.Laws.{PlacesAreRanks}
use Rattle.first_lasso.proofs.Order.{NotAfter, after_front, front_of, rest_of, same_fronts}
use Rattle.lasso_search.specs.TableauLassos.{shown_valuations}
use Rattle.lasso_search.specs.Paths.{path_states, bits_of_layers}
use Rattle.lasso_search.specs.LeastModels.{bit_numbers}
use Rattle.lasso_search.specs.Loops.{ranks_of}

abbrev bit : List Bool → Lit → ℕ
bit model lit = cond (lit_holds model lit) 1 0

bit_small : (b : Bool) → cond b 1 0 ≤ 1
bit_small true = omega arith
bit_small false = omega arith

turned : (model : List Bool) (x : Lit) (row : List Lit)
    → bit_numbers model (reverse (x ∷ row)) ≡ bit_numbers model (reverse row) ++ bit model x ∷ []
turned model x row = ap (bit_numbers model) (reverse-append (x ∷ []) row) ∙ map_push (bit model) (reverse row) x

as_many : (a b : List Bool) (lits : List Lit) → length (bit_numbers a lits) ≡ length (bit_numbers b lits)
as_many a b lits = length-map lits (bit a) ∙ sym (length-map lits (bit b))

-- the number of a row, from its highest bit down
row_down : (a b : List Bool) (row : List Lit) → NotAfter (bit_numbers a (reverse row)) (bit_numbers b (reverse row))
    → (binary_number (lit_values a row) ≤ binary_number (lit_values b row))
    × (binary_number (lit_values a row) ≡ binary_number (lit_values b row) → bit_numbers a (reverse row) ≡ bit_numbers b (reverse row))
row_down a b [] h = (omega arith, λ same. refl)
row_down a b (x ∷ row) h =
    let A = bit_numbers a (reverse row) in
    let B = bit_numbers b (reverse row) in
    let both : NotAfter (A ++ bit a x ∷ []) (B ++ bit b x ∷ []) = subst₂ NotAfter (turned a x row) (turned b x row) h in
    let long = as_many a b (reverse row) in
    let ih = row_down a b row (front_of A B (bit a x ∷ []) (bit b x ∷ []) long both) in
    let last = λ (e : A ≡ B). rest_of A B (bit a x ∷ []) (bit b x ∷ []) long both e in
    let small_a : bit a x ≤ 1 = bit_small (lit_holds a x) in
    let small_b : bit b x ≤ 1 = bit_small (lit_holds b x) in
    let na : ℕ = binary_number (lit_values a row) in
    let nb : ℕ = binary_number (lit_values b row) in (
      elim (cases_lt na nb) [
        | inl lt ↦ omega (arith, lt, small_a, small_b)
        | inr ge ↦
            let same : na ≡ nb = omega (arith, ge, ih.0) in
            let le : bit a x ≤ bit b x = (last (ih.1 same)).0 in
            omega (arith, same, le)
      ],
      λ same.
          let high : na ≡ nb = omega (arith, same, small_a, small_b) in
          let low : bit a x ≡ bit b x = omega (arith, same, small_a, small_b) in
          let fronts = ih.1 high in
          turned a x row ∙ ((λ j. fronts j ++ low j ∷ []) ∙ sym (turned b x row)),
    )

-- the bits of a state have values in a model, and its clauses hold
pub record ShowsState (model : List Bool) (ports : List PortType) (bits : List (List Lit)) : Type 0 where
  pub has : HasBits (length model) ports bits
  pub holds : clauses_hold model (state_clauses ports bits) ≡ true

pub record Ranking : Type 0 where
  pub gates : GatesAreRight
  pub places : PlacesAreRanks

rank_is : Ranking → (model : List Bool) (kind : PortType) (ports : List PortType) (row : List Lit) (bits : List (List Lit)) → IsCodable kind
    → ShowsState model (kind ∷ ports) (row ∷ bits) → value_rank kind (value_at kind (lit_values model row)) ≡ binary_number (lit_values model row)
rank_is r model kind ports row bits codable is =
    let both = parts_hold model (code_clauses kind row) (state_clauses ports bits) is.holds in
    let below = code_below r.gates model kind row is.has.0 is.has.1 codable.1 (codable_few kind codable) both.0 in
    r.places kind (value_at kind (lit_values model row)) (binary_number (lit_values model row)) codable.0
    (code_is_place kind (lit_values model row) below)

shows_rest : (model : List Bool) (kind : PortType) (ports : List PortType) (row : List Lit) (bits : List (List Lit))
    → ShowsState model (kind ∷ ports) (row ∷ bits) → ShowsState model ports bits
shows_rest model kind ports row bits is = record {
  has = is.has.2;
  holds = (parts_hold model (code_clauses kind row) (state_clauses ports bits) is.holds).1;
}

two_fronts : (a : List Bool) (xs ys : List Lit) → bit_numbers a (xs ++ ys) ≡ bit_numbers a xs ++ bit_numbers a ys
two_fronts a xs ys = map-append (bit a) xs ys

state_down : Ranking → (a b : List Bool) (ports : List PortType) (bits : List (List Lit)) → All IsCodable ports
    → ShowsState a ports bits → ShowsState b ports bits
    → NotAfter (bit_numbers a (flat_map reverse bits)) (bit_numbers b (flat_map reverse bits))
    → NotAfter (state_ranks ports (state_values a ports bits)) (state_ranks ports (state_values b ports bits))
    × (state_ranks ports (state_values a ports bits) ≡ state_ranks ports (state_values b ports bits)
    → bit_numbers a (flat_map reverse bits) ≡ bit_numbers b (flat_map reverse bits))
state_down r a b [] [] codable h k n = (tt, λ same. refl)
state_down r a b [] (row ∷ bits) codable h k n = absurd h.has
state_down r a b (kind ∷ ports) [] codable h k n = absurd h.has
state_down r a b (kind ∷ ports) (row ∷ bits) codable h k n =
    let this : IsCodable kind = All-head IsCodable kind ports codable in
    let A = bit_numbers a (reverse row) in
    let B = bit_numbers b (reverse row) in
    let more = bit_numbers a (flat_map reverse bits) in
    let rest = bit_numbers b (flat_map reverse bits) in
    let both : NotAfter (A ++ more) (B ++ rest) =
    subst₂ NotAfter (two_fronts a (reverse row) (flat_map reverse bits)) (two_fronts b (reverse row) (flat_map reverse bits)) n in
    let long = as_many a b (reverse row) in
    let first = row_down a b row (front_of A B more rest long both) in
    let ea = rank_is r a kind ports row bits this h in
    let eb = rank_is r b kind ports row bits this k in
    let later = λ (e : A ≡ B).
    state_down r a b ports bits (All-tail IsCodable kind ports codable) (shows_rest a kind ports row bits h) (shows_rest b kind ports row bits k)
    (rest_of A B more rest long both e) in (
      (
        omega (arith, ea, eb, first.0),
        λ same. (later (first.1 (omega (arith, ea, eb, same)))).0,
      ),
      λ same.
          let parts = same_fronts (value_rank kind (value_at kind (lit_values a row)) ∷ []) (value_rank kind (value_at kind (lit_values b row)) ∷ [])
          (state_ranks ports (state_values a ports bits)) (state_ranks ports (state_values b ports bits)) refl same in
          let head : value_rank kind (value_at kind (lit_values a row)) ≡ value_rank kind (value_at kind (lit_values b row)) =
          ap head_of parts.0 in
          let rows : A ≡ B = first.1 (omega (arith, ea, eb, head)) in
          let tails = (later rows).1 parts.1 in
          two_fronts a (reverse row) (flat_map reverse bits)
          ∙ ((λ j. rows j ++ tails j) ∙ sym (two_fronts b (reverse row) (flat_map reverse bits))),
    )
  where
    head_of : List ℕ → ℕ
    head_of [] = 0
    head_of (x ∷ xs) = x

rank_count : (a b : List Bool) (ports : List PortType) (bits : List (List Lit))
    → length (state_ranks ports (state_values a ports bits)) ≡ length (state_ranks ports (state_values b ports bits))
rank_count a b [] bits = refl
rank_count a b (kind ∷ ports) [] = refl
rank_count a b (kind ∷ ports) (row ∷ bits) = ap suc (rank_count a b ports bits)

pub layers_down : Ranking → (a b : List Bool) (t : ClosureOverPorts) (layers : List LayerLits) → All IsCodable t.ports
    → All (λ layer. ShowsState a t.ports layer.bits) layers → All (λ layer. ShowsState b t.ports layer.bits) layers
    → NotAfter (bit_numbers a (bits_of_layers layers)) (bit_numbers b (bits_of_layers layers))
    → NotAfter (ranks_of t.ports (shown_valuations (path_states a t layers))) (ranks_of t.ports (shown_valuations (path_states b t layers)))
layers_down r a b t [] codable h k n = tt
layers_down r a b t (layer ∷ layers) codable h k n =
    let A = bit_numbers a (flat_map reverse layer.bits) in
    let B = bit_numbers b (flat_map reverse layer.bits) in
    let more = bit_numbers a (bits_of_layers layers) in
    let rest = bit_numbers b (bits_of_layers layers) in
    let both : NotAfter (A ++ more) (B ++ rest) =
    subst₂ NotAfter (two_fronts a (flat_map reverse layer.bits) (bits_of_layers layers))
    (two_fronts b (flat_map reverse layer.bits) (bits_of_layers layers)) n in
    let long = as_many a b (flat_map reverse layer.bits) in
    let first = state_down r a b t.ports layer.bits codable (All-head (λ (y : LayerLits). ShowsState a t.ports y.bits) layer layers h)
    (All-head (λ (y : LayerLits). ShowsState b t.ports y.bits) layer layers k) (front_of A B more rest long both) in
    after_front (state_ranks t.ports (state_values a t.ports layer.bits)) (state_ranks t.ports (state_values b t.ports layer.bits))
    (ranks_of t.ports (shown_valuations (path_states a t layers))) (ranks_of t.ports (shown_valuations (path_states b t layers)))
    (rank_count a b t.ports layer.bits) first.0 (λ same.
    layers_down r a b t layers codable (All-tail (λ (y : LayerLits). ShowsState a t.ports y.bits) layer layers h)
    (All-tail (λ (y : LayerLits). ShowsState b t.ports y.bits) layer layers k) (rest_of A B more rest long both (first.1 same)))
