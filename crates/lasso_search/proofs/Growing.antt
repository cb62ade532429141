-- Clauses that grow while paths and loops are searched: no model is lost in which a literal is false.
use Rattle.std.proofs.Common.{◌≡◌, ℕ, ◌+◌, ◌<◌, ◌≤◌, Bool, true, false, not, ◌||◌, List, [], ◌∷◌, ◌++◌, length, refl, sym, ap, ◌∙◌, subst}
use Rattle.std.proofs.Common.{append_assoc, subst₂, arith}
use Rattle.std.proofs.lemmas.Bool.{and_from, or_left}
use Rattle.std.proofs.lemmas.List.{length-append}
use Rattle.std.proofs.lemmas.List.Elements.{All-nil}
use Rattle.core_ltl.specs.declared.question.SignedNode.{SignedNode}
use Rattle.cnf.specs.declared.lit.Lit.{Lit}
use Rattle.cnf.specs.Clauses.{opposite, lit_holds, clauses_hold, IsModel, IsConservative}
use Rattle.cnf.specs.Gates.{literal}
use Rattle.cnf.proofs.ModelLaws.{IsConservative_refl, append_nil, lit_holds-append, lit_holds-last, lit_holds-opposite, clauses_hold-more}
use Rattle.state_coding.proofs.StateLaws.{both_hold}
use Rattle.tableau.specs.TableauStates.{ClosureOverPorts, TableauState, IsTableauState}
use Rattle.tableau.specs.Copies.{IsCodedLayer}
use Rattle.lasso_search.specs.Paths.{IsCodedPath, GrowsWhereOff}

-- ---- a path without layers

nothing : (states : List TableauState) → length states ≡ 0 → [] ≡ states
nothing [] e = refl
nothing (s ∷ states) e = absurd (omega (arith, e))

pub path_of_none : (n : ℕ) (clauses : List (List Lit)) (t : ClosureOverPorts) (question : List SignedNode) (under : Lit) → under.var < n
    → ((model : List Bool) × IsModel n clauses model × (lit_holds model under ≡ true)) → IsCodedPath n clauses t question under []
path_of_none n clauses t question under known m = record {
  under_known = known;
  coded = All-nil (IsCodedLayer n clauses t);
  path = λ model le h on. record {
    all_states = All-nil (IsTableauState t);
    steps = λ i lt. absurd (omega (arith, lt));
    start = λ some. absurd (omega (arith, some));
  };
  reaches = λ states p e. (m.0, m.1, m.2, nothing states e);
}

-- ---- one after the other

pub off_none : (under : Lit) (n : ℕ) (clauses : List (List Lit)) → GrowsWhereOff under n clauses n clauses
off_none under n clauses = record {
  vars = omega arith;
  added = ([], sym (append_nil clauses));
  off = λ model is off. ([], subst (IsModel n clauses) (sym (append_nil model)) is);
}

pub off_then : (under : Lit) (n m k : ℕ) (xs ys zs : List (List Lit)) → under.var < n → GrowsWhereOff under n xs m ys
    → GrowsWhereOff under m ys k zs → GrowsWhereOff under n xs k zs
off_then under n m k xs ys zs known f g = record {
  vars = omega (arith, f.vars, g.vars);
  added = (f.added.0 ++ g.added.0, g.added.1 ∙ (ap (λ l. l ++ g.added.0) f.added.1 ∙ append_assoc xs f.added.0 g.added.0));
  off = λ model is off.
      let first = f.off model is off in
      let long : under.var < length model = omega (arith, known, is.vars) in
      let second = g.off (model ++ first.0) first.1 (lit_holds-append model first.0 under long ∙ off) in
      (first.0 ++ second.0, subst (IsModel k zs) (append_assoc model first.0 second.0) second.1);
}

pub off_kept : (under : Lit) (n m : ℕ) (xs ys : List (List Lit)) → IsConservative n xs m ys → GrowsWhereOff under n xs m ys
off_kept under n m xs ys grows = record { vars = grows.vars; added = grows.clauses; off = λ model is off. grows.extends model is }

pub grows_as : (n m : ℕ) (older newer : List (List Lit)) → m ≡ n → newer ≡ older → IsConservative n older m newer
grows_as n m older newer en ec =
    subst₂ (λ (x : ℕ) (xs : List (List Lit)). IsConservative n older x xs) (sym en) (sym ec) (IsConservative_refl n older)

-- ---- under a new variable

pub with_value : (n : ℕ) (older : List (List Lit)) (model : List Bool) (value : Bool) → IsModel n older model
    → IsModel (n + 1) older (model ++ value ∷ [])
with_value n older model value is = record {
  vars = length-append model (value ∷ []) ∙ ap (λ k. k + 1) is.vars;
  holds = clauses_hold-more model (value ∷ []) older is.holds;
}

-- the clause that makes the variable false
abbrev pub off_clauses : ℕ → List (List Lit)
off_clauses n = (opposite (literal n) ∷ []) ∷ []

off_holds : (model : List Bool) (n : ℕ) → n < length model → lit_holds model (literal n) ≡ false → clauses_hold model (off_clauses n) ≡ true
off_holds model n known low =
    let off : lit_holds model (opposite (literal n)) ≡ true = lit_holds-opposite model (literal n) known ∙ ap not low in
    and_from (lit_holds model (opposite (literal n)) || false) true (or_left (lit_holds model (opposite (literal n))) false off) refl

module _ (n m : ℕ) (older newer : List (List Lit)) (grows : GrowsWhereOff (literal n) (n + 1) older m newer) where
  -- the model with the variable false, and what it grows to
  turned_off : (model : List Bool) → IsModel n older model
      → (more : List Bool) × IsModel m newer (model ++ false ∷ more) × (lit_holds (model ++ false ∷ more) (literal n) ≡ false)
  turned_off model is =
      let low : lit_holds (model ++ false ∷ []) (literal n) ≡ false = lit_holds-last model false n is.vars in
      let start : IsModel (n + 1) older (model ++ false ∷ []) = with_value n older model false is in
      let ext = grows.off (model ++ false ∷ []) start low in
      let same : (model ++ false ∷ []) ++ ext.0 ≡ model ++ false ∷ ext.0 = append_assoc model (false ∷ []) ext.0 in
      let known : n < length (model ++ false ∷ []) = omega (arith, start.vars) in (
        ext.0,
        subst (IsModel m newer) same ext.1,
        ap (λ l. lit_holds l (literal n)) (sym same) ∙ (lit_holds-append (model ++ false ∷ []) ext.0 (literal n) known ∙ low),
      )

  pub kept_by_off : IsConservative n older m newer
  kept_by_off = record {
    vars = omega (arith, grows.vars);
    clauses = grows.added;
    extends = λ model is. let ext = turned_off model is in (false ∷ ext.0, ext.1);
  }

  pub closed_by_off : IsConservative n older m (newer ++ off_clauses n)
  closed_by_off = record {
    vars = omega (arith, grows.vars);
    clauses = (grows.added.0 ++ off_clauses n, ap (λ l. l ++ off_clauses n) grows.added.1 ∙ append_assoc older grows.added.0 (off_clauses n));
    extends = λ model is.
        let ext = turned_off model is in
        let inside : n < length (model ++ false ∷ ext.0) = omega (arith, ext.1.vars, grows.vars) in (
          false ∷ ext.0,
          record {
            vars = ext.1.vars;
            holds = both_hold (model ++ false ∷ ext.0) newer (off_clauses n) ext.1.holds (off_holds (model ++ false ∷ ext.0) n inside ext.2);
          },
        );
  }

-- a loop under a new variable
pub loop_off : (n : ℕ) (older newer : List (List Lit)) → ((added : List (List Lit)) × (newer ≡ older ++ added))
    → ((model : List Bool) → IsModel (n + 1) older model → lit_holds model (literal n) ≡ false → IsModel (n + 1) newer model)
    → GrowsWhereOff (literal n) (n + 1) older (n + 1) newer
loop_off n older newer more kept = record {
  vars = omega arith;
  added = more;
  off = λ model is off. ([], subst (IsModel (n + 1) newer) (sym (append_nil model)) (kept model is off));
}

-- ---- a call under the variable that came last, by its own number

pub model_on : (n m v : ℕ) (older mid : List (List Lit)) → v ≡ n → m ≡ n + 1 → mid ≡ older
    → ((model : List Bool) × IsModel n older model)
    → (model : List Bool) × IsModel m mid model × (lit_holds model (literal v) ≡ true)
model_on n m v older mid ev em ec start =
    let is = with_value n older start.0 true start.1 in (
      start.0 ++ true ∷ [],
      record { vars = is.vars ∙ sym em; holds = ap (clauses_hold (start.0 ++ true ∷ [])) ec ∙ is.holds },
      ap (λ x. lit_holds (start.0 ++ true ∷ []) (literal x)) ev ∙ lit_holds-last start.0 true n start.1.vars,
    )

pub grows_from : (n m v k : ℕ) (older mid newer : List (List Lit)) → v ≡ n → m ≡ n + 1 → mid ≡ older
    → GrowsWhereOff (literal v) m mid k newer → GrowsWhereOff (literal n) (n + 1) older k newer
grows_from n m v k older mid newer ev em ec grows =
    subst₂ (λ (x : ℕ) (xs : List (List Lit)). GrowsWhereOff (literal n) x xs k newer) em ec
    (subst (λ (x : ℕ). GrowsWhereOff (literal x) m mid k newer) ev grows)

pub kept_as : (n k last : ℕ) (older newer whole : List (List Lit)) → GrowsWhereOff (literal n) (n + 1) older k newer → last ≡ k → whole ≡ newer
    → IsConservative n older last whole
kept_as n k last older newer whole grows el ew =
    subst₂ (λ (x : ℕ) (xs : List (List Lit)). IsConservative n older x xs) (sym el) (sym ew) (kept_by_off n k older newer grows)

pub closed_as : (n k v last : ℕ) (older newer whole : List (List Lit)) (lit : Lit) → GrowsWhereOff (literal n) (n + 1) older k newer → last ≡ k
    → v ≡ n → lit ≡ opposite (literal v) → whole ≡ newer ++ (lit ∷ []) ∷ [] → IsConservative n older last whole
closed_as n k v last older newer whole lit grows el ev en ew =
    let turned : lit ≡ opposite (literal n) = en ∙ ap (λ x. opposite (literal x)) ev in
    let same : whole ≡ newer ++ off_clauses n = ew ∙ (λ j. newer ++ (turned j ∷ []) ∷ []) in
    subst₂ (λ (x : ℕ) (xs : List (List Lit)). IsConservative n older x xs) (sym el) (sym same) (closed_by_off n k older newer grows)
