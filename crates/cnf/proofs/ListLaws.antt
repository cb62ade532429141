-- gates over lists of literals: in a model of their clauses the new variable is the function, and that
-- value meets them
use Rattle.std.proofs.Common.{◌≡◌, ◌+◌, ◌<◌, ◌≤◌, ℕ, zero, suc, Bool, true, false, not, ◌&&◌, ◌||◌, List, [], ◌∷◌, ◌++◌, length, take, get_or, refl, sym}
use Rattle.std.proofs.Common.{◌∙◌, ap, arith, length-append, append_assoc}
use Rattle.std.specs.Prelude.{map}
use Rattle.std.specs.List.{All, list_any, list_all}
use Rattle.std.proofs.lemmas.Bool.{false≢true}
use Rattle.std.proofs.lemmas.List.{take-append-le, take-map, map_more, length-map, take_all}
use Rattle.std.proofs.lemmas.List.Elements.{All-nil, All-cons, All-head, All-tail}
use Rattle.cnf.specs.declared.lit.Lit.{Lit}
use Rattle.cnf.specs.Clauses.{opposite, lit_holds, clause_holds, clauses_hold, IsModel, Represents, IsConservative}
use Rattle.cnf.specs.Gates.{literal, all_clauses, any_clauses}
use Rattle.cnf.proofs.ModelLaws.{lit_holds-opposite, lit_holds-append, lit_holds-last, clauses_hold-append, IsConservative-defined, IsConservative-var}
use Rattle.cnf.proofs.GateSteps.{All_later, last_hold}

-- a gate whose clauses say "the variable exactly where the function"
pub same_where_met : (c v f : Bool) → c ≡ ((not v || f) && (v || not f)) → c ≡ true → v ≡ f
same_where_met c true true e h = refl
same_where_met c true false e h = absurd (false≢true (sym e ∙ h))
same_where_met c false true e h = absurd (false≢true (sym e ∙ h))
same_where_met c false false e h = refl

both_met : (f : Bool) → ((not f || f) && (f || not f)) ≡ true
both_met true = refl
both_met false = refl

pub met_where_same : (c v f : Bool) → c ≡ ((not v || f) && (v || not f)) → v ≡ f → c ≡ true
met_where_same c v f e h = e ∙ rw h (both_met f)

or_true : (a : Bool) → (a || true) ≡ true
or_true true = refl
or_true false = refl

pair_joins : (n l a : Bool) → ((n || (l || false)) && (n || a)) ≡ (n || (l && a))
pair_joins true l a = refl
pair_joins false true a = refl
pair_joins false false a = refl

pair_step : (n l r a : Bool) → r ≡ (n || a) → ((n || (l || false)) && r) ≡ (n || (l && a))
pair_step n l r a e = rw e (pair_joins n l a)

-- the clauses of two literals of "all"
pub pairs_say : (model : List Bool) (nc : Lit) (lits : List Lit)
    → clauses_hold model (map (λ lit. nc ∷ lit ∷ []) lits) ≡ (lit_holds model nc || list_all (lit_holds model) lits)
pairs_say model nc [] = sym (or_true (lit_holds model nc))
pairs_say model nc (l ∷ ls) =
    pair_step (lit_holds model nc) (lit_holds model l) (clauses_hold model (map (λ lit. nc ∷ lit ∷ []) ls)) (list_all (lit_holds model) ls)
    (pairs_say model nc ls)

none_joins : (l a : Bool) → (not l || not a) ≡ not (l && a)
none_joins true a = refl
none_joins false a = refl

none_step : (o r l a : Bool) → o ≡ not l → r ≡ not a → (o || r) ≡ not (l && a)
none_step o r l a eo er = rw (eo, er) (none_joins l a)

-- some opposite holds exactly where not all do
pub any_opposite : (model : List Bool) (lits : List Lit) → All (λ lit. lit.var < length model) lits
    → list_any (lit_holds model) (map opposite lits) ≡ not (list_all (lit_holds model) lits)
any_opposite model [] h = refl
any_opposite model (l ∷ ls) h =
    none_step (lit_holds model (opposite l)) (list_any (lit_holds model) (map opposite ls)) (lit_holds model l) (list_all (lit_holds model) ls)
    (lit_holds-opposite model l (All-head (λ lit. lit.var < length model) l ls h))
    (any_opposite model ls (All-tail (λ lit. lit.var < length model) l ls h))

each_joins : (l a : Bool) → (not l && not a) ≡ not (l || a)
each_joins true a = refl
each_joins false a = refl

each_step : (o r l a : Bool) → o ≡ not l → r ≡ not a → (o && r) ≡ not (l || a)
each_step o r l a eo er = rw (eo, er) (each_joins l a)

-- all opposites hold exactly where none does
pub all_opposite : (model : List Bool) (lits : List Lit) → All (λ lit. lit.var < length model) lits
    → list_all (lit_holds model) (map opposite lits) ≡ not (list_any (lit_holds model) lits)
all_opposite model [] h = refl
all_opposite model (l ∷ ls) h =
    each_step (lit_holds model (opposite l)) (list_all (lit_holds model) (map opposite ls)) (lit_holds model l) (list_any (lit_holds model) ls)
    (lit_holds-opposite model l (All-head (λ lit. lit.var < length model) l ls h))
    (all_opposite model ls (All-tail (λ lit. lit.var < length model) l ls h))

all_joins : (v a : Bool) → ((not v || a) && ((v || not a) && true)) ≡ ((not v || a) && (v || not a))
all_joins true true = refl
all_joins true false = refl
all_joins false true = refl
all_joins false false = refl

all_step : (c p nv v y a : Bool) → c ≡ (p && ((v || y) && true)) → p ≡ (nv || a) → nv ≡ not v → y ≡ not a
    → c ≡ ((not v || a) && (v || not a))
all_step c p nv v y a ec ep en ey = ec ∙ rw (ep, en, ey) (all_joins v a)

pub all_say : (model : List Bool) (n : ℕ) (lits : List Lit) → n < length model
    → All (λ lit. lit.var < length model) lits
    → clauses_hold model (all_clauses n lits) ≡ ((not (lit_holds model (literal n)) || list_all (lit_holds model) lits) &&
    (lit_holds model (literal n) || not (list_all (lit_holds model) lits)))
all_say model n lits room known =
    all_step (clauses_hold model (all_clauses n lits)) (clauses_hold model (map (λ lit. opposite (literal n) ∷ lit ∷ []) lits))
    (lit_holds model (opposite (literal n))) (lit_holds model (literal n))
    (list_any (lit_holds model) (map opposite lits)) (list_all (lit_holds model) lits)
    (clauses_hold-append model (map (λ lit. opposite (literal n) ∷ lit ∷ []) lits) ((literal n ∷ map opposite lits) ∷ []))
    (pairs_say model (opposite (literal n)) lits)
    (lit_holds-opposite model (literal n) room)
    (any_opposite model lits known)

all_before : (model more : List Bool) (lits : List Lit) → All (λ lit. lit.var < length model) lits
    → list_all (lit_holds (model ++ more)) lits ≡ list_all (lit_holds model) lits
all_before model more [] h = refl
all_before model more (l ∷ ls) h =
    rw (
      lit_holds-append model more l (All-head (λ lit. lit.var < length model) l ls h),
      all_before model more ls
          (All-tail (λ lit. lit.var < length model) l ls h),
    ) refl

pub all_fits : (n : ℕ) (lits : List Lit) → All (λ lit. lit.var < n) lits → (model : List Bool) → length model ≡ n
    → (value : Bool) × (clauses_hold (model ++ value ∷ []) (all_clauses n lits) ≡ true)
all_fits n lits known model e =
    let value : Bool = list_all (lit_holds model) lits in
    let more : List Bool = model ++ value ∷ [] in
    let wide : length more ≡ n + 1 = length-append model (value ∷ []) ∙ ap (λ k. k + 1) e in
    let old : All (λ lit. lit.var < length model) lits = All_later n (length model) lits (omega arith) known in (
      value,
      met_where_same (clauses_hold more (all_clauses n lits)) (lit_holds more (literal n)) (list_all (lit_holds more) lits)
          (all_say more n lits (omega arith) (All_later n (length more) lits (omega arith) known))
          (lit_holds-last model value n e ∙ sym (all_before model (value ∷ []) lits old)),
    )

pub All-opposite : (n : ℕ) (lits : List Lit) → All (λ lit. lit.var < n) lits
    → All (λ lit. lit.var < n) (map opposite lits)
All-opposite n [] h = All-nil (λ lit. lit.var < n)
All-opposite n (l ∷ ls) h =
    All-cons (λ lit. lit.var < n) (opposite l) (map opposite ls) (All-head (λ lit. lit.var < n) l ls h)
    (All-opposite n ls (All-tail (λ lit. lit.var < n) l ls h))

pub all_says : (model : List Bool) (n : ℕ) (lits : List Lit) → n < length model
    → All (λ lit. lit.var < length model) lits → clauses_hold model (all_clauses n lits) ≡ true
    → lit_holds model (literal n) ≡ list_all (lit_holds model) lits
all_says model n lits room known h = same_where_met (clauses_hold model (all_clauses n lits)) (lit_holds model (literal n))
    (list_all (lit_holds model) lits) (all_say model n lits room known) h

not_not : (b : Bool) → not (not b) ≡ b
not_not true = refl
not_not false = refl

pub any_says : (model : List Bool) (n : ℕ) (lits : List Lit) → n < length model
    → All (λ lit. lit.var < length model) lits → clauses_hold model (any_clauses n lits) ≡ true
    → lit_holds model (opposite (literal n)) ≡ list_any (lit_holds model) lits
any_says model n lits room known h =
    lit_holds-opposite model (literal n) room
    ∙ ap not (all_says model n (map opposite lits) room (All-opposite (length model) lits known) h ∙ all_opposite model lits known)
    ∙ not_not (list_any (lit_holds model) lits)

pub all_gate_means : (n m : ℕ) (older newer : List (List Lit)) (lits : List Lit) (c : Lit)
    → All (λ lit. lit.var < n) lits → m ≡ n + 1 → newer ≡ older ++ all_clauses n lits → c ≡ literal n
    → Represents m newer c (λ model. list_all (lit_holds model) lits)
all_gate_means n m older newer lits c known em en ec =
    λ model is.
    let wide : length model ≡ n + 1 = is.vars ∙ em in
    ap (lit_holds model) ec
    ∙ same_where_met (clauses_hold model (all_clauses n lits)) (lit_holds model (literal n)) (list_all (lit_holds model) lits)
    (all_say model n lits (omega arith) (All_later n (length model) lits (omega arith) known))
    (last_hold model older (all_clauses n lits) newer en is.holds)

-- the opposite of "none" is "any"
pub any_from_none : (n m : ℕ) (newer : List (List Lit)) (lits others : List Lit) (none c : Lit)
    → All (λ lit. lit.var < n) lits → m ≡ n + 1 → others ≡ map opposite lits → none ≡ literal n → c ≡ opposite none
    → Represents m newer none (λ model. list_all (lit_holds model) others)
    → Represents m newer c (λ model. list_any (lit_holds model) lits)
any_from_none n m newer lits others none c known em eo en ec h =
    λ model is.
    let wide : length model ≡ n + 1 = is.vars ∙ em in
    ap (lit_holds model) ec
    ∙ lit_holds-opposite model none (rw en (omega arith))
    ∙ ap not (h model is ∙ ap (list_all (lit_holds model)) eo ∙ all_opposite model lits (All_later n (length model) lits (omega arith) known))
    ∙ not_not (list_any (lit_holds model) lits)

pub All-opposite-at : (n : ℕ) (lits others : List Lit) → others ≡ map opposite lits → All (λ lit. lit.var < n) lits
    → All (λ lit. lit.var < n) others
All-opposite-at n lits others e h = rw e (All-opposite n lits h)

-- the pairs so far are a front of the gate
pub pairs_front : (n i : ℕ) (older now : List (List Lit)) (lits : List Lit) (nc : Lit) → nc ≡ opposite (literal n)
    → i ≤ length lits → now ≡ older ++ map (λ lit. nc ∷ lit ∷ []) (take i lits)
    → now ≡ older ++ take i (all_clauses n lits)
pairs_front n i older now lits nc ec within en =
    en ∙ ap (λ front. older ++ front) (rw ec (sym (take-append-le i (map (λ lit. opposite (literal n) ∷ lit ∷ []) lits)
    ((literal n ∷ map opposite lits) ∷ []) (rw (length-map lits (λ lit. opposite (literal n) ∷ lit ∷ [])) within) ∙ take-map
    (λ lit. opposite (literal n) ∷ lit ∷ []) i lits)))

-- while the pairs are added
pub all_begun : (n m i : ℕ) (older now newer : List (List Lit)) (lits : List Lit) (nc : Lit)
    → All (λ lit. lit.var < n) lits → m ≡ n + 1 → nc ≡ opposite (literal n) → i ≤ length lits
    → now ≡ older ++ map (λ lit. nc ∷ lit ∷ []) (take i lits) → newer ≡ now → IsConservative n older m newer
all_begun n m i older now newer lits nc known em ec within en ew =
    rw (em, ew, pairs_front n i older now lits nc ec within en) (IsConservative-defined n older (all_clauses n lits) i (all_fits n lits known))

pub pairs_go_on : (i : ℕ) (older now newer : List (List Lit)) (lits : List Lit) (nc d : Lit) → i < length lits
    → now ≡ older ++ map (λ lit. nc ∷ lit ∷ []) (take i lits) → newer ≡ now ++ (nc ∷ get_or lits i d ∷ []) ∷ []
    → newer ≡ older ++ map (λ lit. nc ∷ lit ∷ []) (take (i + 1) lits)
pairs_go_on i older now newer lits nc d within en ew = ew ∙ rw (en, map_more (λ lit. nc ∷ lit ∷ []) lits i d within) (append_assoc older _ _)

pub opposites_go_on : (i : ℕ) (front now newer lits : List Lit) (d other : Lit) → i < length lits
    → now ≡ front ++ map opposite (take i lits) → newer ≡ now ++ other ∷ [] → other ≡ opposite (get_or lits i d)
    → newer ≡ front ++ map opposite (take (i + 1) lits)
opposites_go_on i front now newer lits d other within en ew eo = ew ∙ rw (en, eo, map_more opposite lits i d within) (append_assoc front _ _)

pub all_whole : (n i : ℕ) (older now newer : List (List Lit)) (lits last : List Lit) (c nc : Lit) → c ≡ literal n
    → nc ≡ opposite (literal n) → length lits ≤ i → now ≡ older ++ map (λ lit. nc ∷ lit ∷ []) (take i lits)
    → last ≡ c ∷ map opposite (take i lits)
    → newer ≡ now ++ last ∷ [] → newer ≡ older ++ all_clauses n lits
all_whole n i older now newer lits last c nc ec env past en el ew = ew ∙ rw (en, el, env, ec, take_all i lits past) (append_assoc older _ _)

pub last_known : (n m i : ℕ) (lits last : List Lit) (c : Lit) → c ≡ literal n → m ≡ n + 1
    → All (λ lit. lit.var < n) lits → length lits ≤ i → last ≡ c ∷ map opposite (take i lits)
    → All (λ lit. lit.var < m) last
last_known n m i lits last c ec em known past el =
    rw (el, ec, take_all i lits past) (All-cons (λ lit. lit.var < m) (literal n) (map opposite lits) (omega arith)
    (All_later n m (map opposite lits) (omega arith) (All-opposite n lits known)))

-- a new variable, and no clause yet
pub new_var_grows : (n m : ℕ) (older newer : List (List Lit)) → m ≡ n + 1 → newer ≡ older
    → IsConservative n older m newer
new_var_grows n m older newer em en = rw (em, en) (IsConservative-var n older)
