-- the gate of an until: in a model of its clauses the until has its value by the expansion law, and that value meets them
use Rattle.std.proofs.Common.{◌≡◌, ◌+◌, ◌<◌, ℕ, Bool, true, false, not, ◌&&◌, ◌||◌, List, [], ◌∷◌, ◌++◌, length, refl, sym, ◌∙◌, ap, arith}
use Rattle.std.proofs.Common.{append_assoc, length-append}
use Rattle.std.proofs.lemmas.Bool.{false≢true}
use Rattle.cnf.specs.declared.lit.Lit.{Lit}
use Rattle.cnf.specs.Clauses.{opposite, lit_holds, clauses_hold, IsModel, IsConservative}
use Rattle.cnf.specs.Gates.{literal}
use Rattle.std.proofs.Common.{take, drop}
use Rattle.std.proofs.lemmas.List.{take-append-drop}
use Rattle.cnf.proofs.ModelLaws.{append_nil, lit_holds-opposite, lit_holds-append, lit_holds-last, clauses_hold-append, clauses_hold-more}
use Rattle.state_coding.proofs.StateLaws.{both_hold, parts_hold}
use Rattle.tableau.specs.Copies.{until_clauses}

until_only : (u b a x : Bool)
    → ((not u || (b || (a || false))) && ((not u || (b || (x || false))) && ((u || (not a || (not x || false))) && ((u || (not b || false)) && true)))) ≡ true
    → u ≡ (b || (a && x))
until_only true true a x h = refl
until_only true false true true h = refl
until_only true false true false h = absurd (false≢true h)
until_only true false false x h = absurd (false≢true h)
until_only false true true true h = absurd (false≢true h)
until_only false true true false h = absurd (false≢true h)
until_only false true false true h = absurd (false≢true h)
until_only false true false false h = absurd (false≢true h)
until_only false false true true h = absurd (false≢true h)
until_only false false true false h = refl
until_only false false false x h = refl

until_met : (b a x : Bool)
    → ((not (b || (a && x)) || (b || (a || false))) && ((not (b || (a && x)) || (b || (x || false)))
    && (((b || (a && x)) || (not a || (not x || false))) && (((b || (a && x)) || (not b || false)) && true)))) ≡ true
until_met true a x = refl
until_met false true true = refl
until_met false true false = refl
until_met false false true = refl
until_met false false false = refl

until_only_at : (u nu b nb a na x nx : Bool) → nu ≡ not u → nb ≡ not b → na ≡ not a → nx ≡ not x
    → ((nu || (b || (a || false))) && ((nu || (b || (x || false))) && ((u || (na || (nx || false))) && ((u || (nb || false)) && true)))) ≡ true
    → u ≡ (b || (a && x))
until_only_at u nu b nb a na x nx eu eb ea ex h = until_only u b a x (rw (eu, eb, ea, ex) at h)

until_met_at : (u nu b nb a na x nx : Bool) → nu ≡ not u → nb ≡ not b → na ≡ not a → nx ≡ not x → u ≡ (b || (a && x))
    → ((nu || (b || (a || false))) && ((nu || (b || (x || false))) && ((u || (na || (nx || false))) && ((u || (nb || false)) && true)))) ≡ true
until_met_at u nu b nb a na x nx eu eb ea ex e = rw (eu, eb, ea, ex, e) (until_met b a x)

pub until_means : (model : List Bool) (n : ℕ) (a b : Lit) → n + 1 < length model → a.var < length model
    → b.var < length model → clauses_hold model (until_clauses n a b) ≡ true
    → lit_holds model (literal n) ≡ (lit_holds model b || (lit_holds model a && lit_holds model (literal (n + 1))))
until_means model n a b ln la lb h =
    until_only_at (lit_holds model (literal n)) (lit_holds model (opposite (literal n))) (lit_holds model b) (lit_holds model (opposite b))
    (lit_holds model a) (lit_holds model (opposite a)) (lit_holds model (literal (n + 1))) (lit_holds model (opposite (literal (n + 1))))
    (lit_holds-opposite model (literal n) (omega arith)) (lit_holds-opposite model b lb) (lit_holds-opposite model a la)
    (lit_holds-opposite model (literal (n + 1)) ln) h

-- the two new variables have these values
pub pair_reads : (model : List Bool) (u x : Bool) (n : ℕ) → length model ≡ n
    → (lit_holds (model ++ u ∷ x ∷ []) (literal n) ≡ u) × (lit_holds (model ++ u ∷ x ∷ []) (literal (n + 1)) ≡ x)
pair_reads model u x n e =
    let same : (model ++ u ∷ []) ++ x ∷ [] ≡ model ++ u ∷ x ∷ [] = append_assoc model (u ∷ []) (x ∷ []) in
    let wide : length (model ++ u ∷ []) ≡ n + 1 = length-append model (u ∷ []) ∙ ap (λ k. k + 1) e in
    let low : lit_holds (model ++ u ∷ []) (literal n) ≡ u = lit_holds-last model u n e in
    let kept : lit_holds ((model ++ u ∷ []) ++ x ∷ []) (literal n) ≡ lit_holds (model ++ u ∷ []) (literal n) =
    lit_holds-append (model ++ u ∷ []) (x ∷ []) (literal n) (omega arith) in (
      ap (λ l. lit_holds l (literal n)) (sym same) ∙ kept ∙ low,
      ap (λ l. lit_holds l (literal (n + 1))) (sym same) ∙ lit_holds-last (model ++ u ∷ []) x (n + 1) wide,
    )

-- whatever value the Next has, the value by the expansion law meets the clauses
pub until_fits : (n : ℕ) (a b : Lit) → a.var < n → b.var < n → (model : List Bool) → length model ≡ n
    → (u x : Bool) → u ≡ (lit_holds model b || (lit_holds model a && x))
    → clauses_hold (model ++ u ∷ x ∷ []) (until_clauses n a b) ≡ true
until_fits n a b la lb model e u x eu =
    let more : List Bool = model ++ u ∷ x ∷ [] in
    let wide : length more ≡ n + 2 = length-append model (u ∷ x ∷ []) ∙ ap (λ k. k + 2) e in
    let reads = pair_reads model u x n e in
    let same_a : lit_holds more a ≡ lit_holds model a = lit_holds-append model (u ∷ x ∷ []) a (omega arith) in
    let same_b : lit_holds more b ≡ lit_holds model b = lit_holds-append model (u ∷ x ∷ []) b (omega arith) in
    let value : lit_holds more (literal n) ≡ (lit_holds more b || (lit_holds more a && lit_holds more (literal (n + 1)))) =
    reads.0 ∙ eu ∙ sym (rw (same_a, same_b, reads.1) refl) in
    until_met_at (lit_holds more (literal n)) (lit_holds more (opposite (literal n))) (lit_holds more b) (lit_holds more (opposite b))
    (lit_holds more a) (lit_holds more (opposite a)) (lit_holds more (literal (n + 1))) (lit_holds more (opposite (literal (n + 1))))
    (lit_holds-opposite more (literal n) (omega arith)) (lit_holds-opposite more b (omega arith)) (lit_holds-opposite more a (omega arith))
    (lit_holds-opposite more (literal (n + 1)) (omega arith)) value

-- both variables and a part of the clauses
pub until_begun : (n m : ℕ) (older newer added rest : List (List Lit)) (a b : Lit) → a.var < n → b.var < n → m ≡ n + 2
    → newer ≡ older ++ added → added ++ rest ≡ until_clauses n a b → IsConservative n older m newer
until_begun n m older newer added rest a b la lb em en er = record {
  vars = omega arith;
  clauses = (added, en);
  extends = λ model is.
      let u : Bool = (lit_holds model b || (lit_holds model a && false)) in (
        u ∷ false ∷ [],
        record {
          vars = length-append model (u ∷ false ∷ []) ∙ ap (λ k. k + 2) is.vars ∙ sym em;
          holds = ap (clauses_hold (model ++ u ∷ false ∷ [])) en
              ∙ both_hold (model ++ u ∷ false ∷ []) older added (clauses_hold-more model (u ∷ false ∷ []) older is.holds)
              (parts_hold (model ++ u ∷ false ∷ []) added rest (ap (clauses_hold (model ++ u ∷ false ∷ [])) er
              ∙ until_fits n a b la lb model is.vars u false refl)).0;
        },
      );
}

-- ---- the exits of the gate's code

-- both variables have come, and no clause yet; the opposites are at hand
pub record IsUntilBegun (n m v w : ℕ) (older mid : List (List Lit)) (a b na nu nx : Lit) : Type 0 where
  pub known_left : a.var < n
  pub known_right : b.var < n
  pub vars : m ≡ n + 2
  pub first : v ≡ n
  pub second : w ≡ n + 1
  pub not_until : nu ≡ opposite (literal v)
  pub not_left : na ≡ opposite a
  pub not_next : nx ≡ opposite (literal w)
  pub clauses : mid ≡ older

-- the clauses but for the last
abbrev pub first_three : ℕ → Lit → Lit → List (List Lit)
first_three n a b =
    (opposite (literal n) ∷ b ∷ a ∷ [])
    ∷ (opposite (literal n) ∷ b ∷ literal (n + 1) ∷ [])
    ∷ (literal n ∷ opposite a ∷ opposite (literal (n + 1)) ∷ [])
    ∷ []

part_grows : (n k : ℕ) (older : List (List Lit)) (a b : Lit) → a.var < n → b.var < n
    → IsConservative n older (n + 2) (older ++ take k (first_three n a b))
part_grows n k older a b la lb =
    let last : List (List Lit) = (literal n ∷ opposite b ∷ []) ∷ [] in
    until_begun n (n + 2) older (older ++ take k (first_three n a b)) (take k (first_three n a b)) (drop k (first_three n a b) ++ last) a b la lb refl refl
    (sym (append_assoc (take k (first_three n a b)) (drop k (first_three n a b)) last) ∙ ap (λ l. l ++ last) (take-append-drop k (first_three n a b)))

pub until_begins : (n m v w k : ℕ) (older mid newer : List (List Lit)) (a b na nu nx : Lit)
    → IsUntilBegun n m v w older mid a b na nu nx
    → newer ≡ mid ++ take k ((nu ∷ b ∷ a ∷ []) ∷ (nu ∷ b ∷ literal w ∷ []) ∷ (literal v ∷ na ∷ nx ∷ []) ∷ []) → IsConservative n older m newer
until_begins n m v w k older mid newer a b na nu nx begun en =
    rw (begun.vars, en, begun.clauses, begun.not_until, begun.not_left, begun.not_next, begun.second, begun.first)
    (part_grows n k older a b begun.known_left begun.known_right)

pub until_ends : (n m v w : ℕ) (older mid then newer : List (List Lit)) (a b na nb nu nx : Lit)
    → IsUntilBegun n m v w older mid a b na nu nx → nb ≡ opposite b
    → then ≡ mid ++ (nu ∷ b ∷ a ∷ []) ∷ (nu ∷ b ∷ literal w ∷ []) ∷ (literal v ∷ na ∷ nx ∷ []) ∷ []
    → newer ≡ then ++ (literal v ∷ nb ∷ []) ∷ [] → IsConservative n older m newer
until_ends n m v w older mid then newer a b na nb nu nx begun eb et en =
    until_begun n m older newer (until_clauses n a b) [] a b begun.known_left begun.known_right begun.vars
    (en ∙ rw (et, begun.clauses, begun.not_until, begun.not_left, begun.not_next, eb, begun.second, begun.first)
    (append_assoc older (first_three n a b) ((literal n ∷ opposite b ∷ []) ∷ [])))
    (append_nil (until_clauses n a b))
