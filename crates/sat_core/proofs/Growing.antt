-- Derivations stay where clauses are added, learnt or assumed.
use Rattle.std.proofs.Common.{◌≡◌, List, [], ◌∷◌, ◌++◌, length, take, get_or, refl, sym, subst, inl, inr, arith}
use Rattle.std.proofs.lemmas.List.{get_or_append_left, get_or_push, length_push, take-append-le, take_at}
use Rattle.std.proofs.lemmas.Bool.{cases_lt}
use Rattle.cnf.specs.declared.lit.Lit.{Lit}
use Rattle.clause_log.specs.Derivations.{Resolves}
use Rattle.sat_core.specs.declared.clause_ref.ClauseRef.{ClauseRef}
use Rattle.sat_core.specs.declared.clause_ref.ClauseRef.TheVariants.{Added, Learnt, Assumed}
use Rattle.sat_core.specs.declared.chain.Resolution.{Resolution}
use Rattle.sat_core.specs.declared.chain.Derivation.{Derivation}
use Rattle.sat_core.specs.Search.{ClauseLists, clause_lists, HasClause, clause_of, ResolvesTo, IsDerivation}
use Rattle.sat_core.specs.Decisions.{AreDerivations}

-- each reason that names a clause names the same in the other
abbrev pub KeepsReferences : ClauseLists → ClauseLists → Type 0
KeepsReferences k more = (reason : ClauseRef) → HasClause k reason → HasClause more reason × (clause_of more reason ≡ clause_of k reason)

ResolvesTo-more : (k more : ClauseLists) → KeepsReferences k more
    → (so_far : List Lit) (resolutions : List Resolution) (clause : List Lit) → ResolvesTo k so_far resolutions clause
    → ResolvesTo more so_far resolutions clause
ResolvesTo-more k more x so_far [] clause r = r
ResolvesTo-more k more x so_far (resolution ∷ resolutions) clause r =
    let e = x resolution.reason r.0 in (
      e.0,
      (
        r.1.0,
        r.1.1,
        r.1.2,
        subst (λ (c : List Lit). Resolves so_far c r.1.0 r.1.1)
            (sym e.1) r.1.3,
        ResolvesTo-more k more x r.1.1 resolutions clause r.1.4,
      ),
    )

pub IsDerivation-more : (k more : ClauseLists) → KeepsReferences k more
    → (first : ClauseRef) (resolutions : List Resolution) (clause : List Lit)
    → IsDerivation k first resolutions clause → IsDerivation more first resolutions clause
IsDerivation-more k more x first resolutions clause d =
    let e = x first d.named in
    record {
      named = e.0;
      reached = subst (λ (c : List Lit). ResolvesTo more c resolutions clause) (sym e.1)
          (ResolvesTo-more k more x (clause_of k first) resolutions clause d.reached);
    }

pub extends_assumed : (added learnt : List (List Lit)) (assumed : List Lit)
    → KeepsReferences (clause_lists added learnt []) (clause_lists added learnt assumed)
extends_assumed added learnt assumed (Added p) n = (n, refl)
extends_assumed added learnt assumed (Learnt p) n = (n, refl)
extends_assumed added learnt assumed (Assumed p) n = absurd (omega arith)

pub extends_added : (added learnt : List (List Lit)) (assumed clause : List Lit)
    → KeepsReferences (clause_lists added learnt assumed) (clause_lists (added ++ clause ∷ []) learnt assumed)
extends_added added learnt assumed clause (Added p) n = (omega (arith, n, length_push added clause), get_or_append_left added (clause ∷ []) [] p n)
extends_added added learnt assumed clause (Learnt p) n = (n, refl)
extends_added added learnt assumed clause (Assumed p) n = (n, refl)

-- the clauses learnt stay derived where a clause is added
pub AreDerivations-added : (added learnt : List (List Lit)) (derivations : List Derivation) (clause : List Lit)
    → AreDerivations added learnt derivations → AreDerivations (added ++ clause ∷ []) learnt derivations
AreDerivations-added added learnt derivations clause a = record {
  same = a.same;
  each = λ place none h. IsDerivation-more _ _ (extends_added added (take place learnt) [] clause) _ _ _ (a.each place none h);
}

-- and where one more is learnt
pub AreDerivations-learnt : (added learnt : List (List Lit)) (derivations : List Derivation) (clause : List Lit)
    (derivation : Derivation)
    → AreDerivations added learnt derivations → IsDerivation
    (clause_lists added learnt []) derivation.first derivation.rest.items clause
    → AreDerivations added (learnt ++ clause ∷ []) (derivations ++ derivation ∷ [])
AreDerivations-learnt added learnt derivations clause derivation a d = record {
  same = omega (arith, a.same, length_push learnt clause, length_push derivations derivation);
  each = λ place none h. elim (cases_lt place (length learnt)) [
    | inl before ↦
        let old = a.each place none before in
        let t : take place (learnt ++ clause ∷ []) ≡ take place learnt = take-append-le place learnt (clause ∷ []) (omega arith) in
        let c : get_or (learnt ++ clause ∷ []) place [] ≡ get_or learnt place [] = get_or_append_left learnt (clause ∷ []) [] place before in
        let e : get_or (derivations ++ derivation ∷ []) place none ≡ get_or derivations place none = get_or_append_left derivations
        (derivation ∷ []) none place (omega (arith, a.same)) in
        subst (λ (s : Derivation). IsDerivation (clause_lists added (take place (learnt ++ clause ∷ [])) []) s.first s.rest.items
        (get_or (learnt ++ clause ∷ []) place [])) (sym e)
        (subst (λ (l : List Lit). IsDerivation (clause_lists added (take place (learnt ++ clause ∷ [])) []) (get_or derivations place none).first
        (get_or derivations place none).rest.items l) (sym c)
        (subst (λ (ls : List (List Lit)). IsDerivation (clause_lists added ls []) (get_or derivations place none).first
        (get_or derivations place none).rest.items (get_or learnt place [])) (sym t) old))
    | inr past ↦
        let at : place ≡ length learnt = omega (arith, length_push learnt clause) in
        let t : take place (learnt ++ clause ∷ []) ≡ learnt = take_at learnt (clause ∷ []) place (sym at) in
        let c : get_or (learnt ++ clause ∷ []) place [] ≡ clause = get_or_push learnt clause [] place (sym at) in
        let e : get_or (derivations ++ derivation ∷ []) place none ≡ derivation = get_or_push derivations derivation none place
        (omega (arith, at, a.same)) in
        subst (λ (s : Derivation). IsDerivation (clause_lists added (take place (learnt ++ clause ∷ [])) []) s.first s.rest.items
        (get_or (learnt ++ clause ∷ []) place [])) (sym e)
        (subst (λ (l : List Lit). IsDerivation (clause_lists added (take place (learnt ++ clause ∷ [])) []) derivation.first derivation.rest.items l)
        (sym c)
        (subst (λ (ls : List (List Lit)). IsDerivation (clause_lists added ls []) derivation.first derivation.rest.items clause) (sym t) d))
  ];
}
