-- The first of all lassos of three ports.
use Rattle.std.proofs.Common.{◌≡◌, ℕ, zero, suc, List, [], ◌∷◌, length, get_or, All, flat_map, refl, sym, ap, subst, arith}
use Rattle.std.proofs.lemmas.List.Elements.{All-nil, All-cons}
use Rattle.port_types.specs.declared.types.Value.{Value}
use Rattle.typed_ltl.specs.declared.lasso.Lasso.{Lasso}
use Rattle.first_lasso.specs.Lassos.{IsStateOver}
use Rattle.first_lasso.specs.FirstLassos.{state_ranks, lasso_ranks, IsFirstLasso}
use Rattle.formula_vectors.specs.Examples.{three_ports, false_least_a, IsAny}
use Rattle.first_lasso.proofs.Order.{not_after_from_places}
use Rattle.first_lasso.proofs.Ranks.{as_many_ranks}

abbrev no_ranks : List ℕ
no_ranks = 0 ∷ 0 ∷ 0 ∷ []

no_rank : (k : ℕ) → get_or no_ranks k 0 ≡ 0
no_rank zero = refl
no_rank (suc zero) = refl
no_rank (suc (suc zero)) = refl
no_rank (suc (suc (suc k))) = refl

first_over : All (IsStateOver three_ports) (false_least_a ∷ [])
first_over =
    All-cons (IsStateOver three_ports) false_least_a [] (tt, ((omega arith, omega arith), ((0, omega arith, refl), tt))) (All-nil (IsStateOver three_ports))

ranks_of_first : (lasso : Lasso) → lasso.states ≡ false_least_a ∷ [] → lasso_ranks three_ports lasso ≡ no_ranks
ranks_of_first lasso e = ap (λ (states : List (List Value)). flat_map (state_ranks three_ports) states) e

pub first_of_all : (lasso : Lasso) → lasso.states ≡ false_least_a ∷ [] → IsFirstLasso three_ports IsAny 1 lasso
first_of_all lasso e =
    let size : length lasso.states ≡ 1 = ap (λ (states : List (List Value)). length states) e in
    let typed : All (IsStateOver three_ports) lasso.states =
    subst (λ (states : List (List Value)). All (IsStateOver three_ports) states) (sym e) first_over in
    record {
      witness = record { typed = typed; holds = tt };
      short = omega (arith, size);
      fewest = λ other w. omega (arith, size, other.in_range);
      greatest = λ other w f. omega (arith, size, f, other.in_range);
      least = λ other w f l.
          not_after_from_places (lasso_ranks three_ports lasso) (lasso_ranks three_ports other)
          (as_many_ranks three_ports lasso.states other.states typed w.typed (sym f)) (λ k lt agree.
          omega (arith, ap (λ (ranks : List ℕ). get_or ranks k 0) (ranks_of_first lasso e), no_rank k));
    }
