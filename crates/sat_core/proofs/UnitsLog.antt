-- The log that resolves the unit clauses of two opposite assumptions.
use Rattle.std.proofs.Common.{◌≡◌, ◌<◌, ℕ, zero, suc, List, [], ◌∷◌, ◌++◌, length, get_or, refl, sym, ap, ◌∙◌, subst, inl, inr, arith}
use Rattle.std.proofs.lemmas.List.{get_or-map, length-map, get_or_default}
use Rattle.sat_core.proofs.Chains.{Contains-head}
use Rattle.cnf.specs.declared.lit.Lit.{Lit}
use Rattle.cnf.specs.Clauses.{opposite}
use Rattle.clause_log.specs.declared.chain.Chain.{Chain}
use Rattle.clause_log.specs.Derivations.{Resolves, Derives}
use Rattle.sat_core.specs.declared.clause_ref.ClauseRef.TheVariants.{Assumed}
use Rattle.sat_core.specs.declared.chain.Resolution.{Resolution}
use Rattle.sat_core.specs.Search.{clause_lists, unit_clause, HasClause, clause_of, ResolvesTo, IsDerivation}
use Rattle.sat_core.specs.Numbering.{IsNeeded, AllNeeded, IsNumbered, clauses_with_units}
use Rattle.sat_core.specs.Outcomes.{StandsAt, AreOpposite}
use Rattle.sat_core.proofs.Members.{no_lits, any_lit}
use Rattle.sat_core.proofs.Searching.{in_unit}
use Rattle.sat_core.proofs.Logs.{IsChainOf, log_done, none_follow}

unit_is : (added : List (List Lit)) (assumed : List Lit) (place : ℕ) (lit : Lit) → StandsAt assumed place lit
    → clause_of (clause_lists added [] assumed) (Assumed place) ≡ unit_clause lit
unit_is added assumed place lit s = get_or-map unit_clause assumed place lit [] s.0 ∙ ap unit_clause s.1

unit_named : (added : List (List Lit)) (assumed : List Lit) (place : ℕ) (lit : Lit) → StandsAt assumed place lit
    → HasClause (clause_lists added [] assumed) (Assumed place)
unit_named added assumed place lit s = omega (arith, s.0, length-map assumed unit_clause)

units_resolve : (lit : Lit) → Resolves (unit_clause lit) (unit_clause (opposite lit)) lit []
units_resolve lit = record {
  on_left = Contains-head lit [];
  on_right = Contains-head (opposite lit) [];
  resolvent =
      λ m. (
        λ c. absurd (no_lits m c),
        λ s. elim s [
          | inl l ↦ absurd (l.1 (sym (in_unit lit m l.0)))
          | inr r ↦ absurd (r.1 (sym (in_unit (opposite lit) m r.0)))
        ],
      );
}

units_derived : (added : List (List Lit)) (assumed : List Lit) (place other : ℕ) (lit : Lit)
    → StandsAt assumed place lit → StandsAt assumed other (opposite lit) → IsDerivation (clause_lists added [] assumed)
    (Assumed place) (record { var = lit.var; reason = Assumed other } ∷ []) []
units_derived added assumed place other lit here there =
    let k = clause_lists added [] assumed in
    let resolution : Resolution = record { var = lit.var; reason = Assumed other } in
    let r = subst (λ (c : List Lit). Resolves (unit_clause lit) c lit []) (sym (unit_is added assumed other (opposite lit) there)) (units_resolve lit) in
    let reached : ResolvesTo k (unit_clause lit) (resolution ∷ []) [] =
    (unit_named added assumed other (opposite lit) there, (lit, [], refl, r, λ m. (λ c. c, λ c. c))) in
    record {
      named = unit_named added assumed place lit here;
      reached = subst (λ (c : List Lit). ResolvesTo k c (resolution ∷ []) []) (sym (unit_is added assumed place lit here)) reached;
    }

none_numbered : (added : List (List Lit)) (assumed : List Lit) → IsNumbered added [] assumed [] 0 [] []
none_numbered added assumed = record {
  counted = refl;
  follows = none_follow (clauses_with_units added assumed);
  numbered = λ place h need. absurd (omega arith);
}

one_needed : (var other p : ℕ) (none : Resolution) → p < 1 → IsNeeded []
    (get_or (record { var = var; reason = Assumed other } ∷ []) p none).reason
one_needed var other zero none h = tt
one_needed var other (suc p) none h = absurd (omega arith)

none_needed : (var place other : ℕ) → AllNeeded [] (Assumed place) (record { var = var; reason = Assumed other } ∷ [])
none_needed var place other = record {
  of_first = tt;
  of_rest = λ p none h. one_needed var other p none h;
}

pub units_done : (added : List (List Lit)) (assumed : List Lit) (place other : ℕ) (old items : List Resolution)
    (chain : Chain) (log longer : List Chain) → AreOpposite assumed place other → old ≡ []
    → items ≡ old ++ record { var = (get_or assumed place any_lit).var; reason = Assumed other } ∷ []
    → IsChainOf (length added) [] [] (Assumed place) items chain → log ≡ [] → longer ≡ log ++ chain ∷ []
    → Derives (clauses_with_units added assumed) longer
units_done added assumed place other old items chain log longer o old_is items_are made log_is longer_is =
    let lit = o.0 in
    let resolutions : List Resolution = record { var = lit.var; reason = Assumed other } ∷ [] in
    let same : get_or assumed place any_lit ≡ lit = get_or_default assumed place any_lit lit o.1.0 ∙ o.1.1 in
    let items_are1 : items ≡ record { var = (get_or assumed place any_lit).var; reason = Assumed other } ∷ [] = items_are ∙ ap
    (λ (ls : List Resolution). ls ++ record { var = (get_or assumed place any_lit).var; reason = Assumed other } ∷ []) old_is in
    let items_are2 : items ≡ resolutions = items_are1 ∙ ap (λ (l : Lit). record { var = l.var; reason = Assumed other } ∷ []) same in
    let made2 : IsChainOf (length added) [] [] (Assumed place) resolutions chain =
    subst (λ (ls : List Resolution). IsChainOf (length added) [] [] (Assumed place) ls chain) items_are2 made in
    let longer_is2 : longer ≡ [] ++ chain ∷ [] = longer_is ∙ ap (λ (ls : List Chain). ls ++ chain ∷ []) log_is in
    log_done added [] assumed [] [] [] longer chain (Assumed place) resolutions (none_numbered added assumed) (none_needed lit.var place other)
    (units_derived added assumed place other lit o.1 o.2) made2 longer_is2
