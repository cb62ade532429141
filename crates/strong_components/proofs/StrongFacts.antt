-- The search for strongly connected components keeps its facts.
use Rattle.std.proofs.Common.{◌≡◌, ℕ, ◌+◌, ◌-◌, ◌<◌, ◌≤◌, ◌⊎◌, inl, inr, List, [], ◌∷◌, ◌++◌, length, take, drop, get_or, set, refl, sym, ap, subst, ◌∙◌, arith}
use Rattle.std.proofs.lemmas.Bool.{cases_lt, cases_eq}
use Rattle.std.proofs.lemmas.List.{length-append, length-take, length-drop, length-map, length-set, get_or_append_left, get_or-append-add, get_or-take}
use Rattle.std.proofs.lemmas.List.{get_or-drop, get_or-map, get_or-set_same, get_or-set_other}
use Rattle.std.proofs.lemmas.List.Elements.{Contains-get_or, Contains-append_left, Contains-append_right, Contains-append_cases, Contains-push_cases}
use Rattle.std.proofs.lemmas.Grind.{get_or_default_zero}
use Rattle.std.proofs.Math.Seq.{get_or-append_seam}
use Rattle.std.specs.Prelude.{Contains}
use Rattle.strong_components.specs.declared.strong.Mark.{Mark}
use Rattle.strong_components.specs.declared.strong.Mark.TheVariants as mark
use Rattle.strong_components.specs.Strong.{targets, HasEdge, RunsThrough, LeadsTo}
use Rattle.strong_components.specs.StrongSearch.{Search, search_mark, node_at, bound_at, IsTogether, IsNodeSettled, IsSearchBut, IsStrongSearch, edges_from}
use Rattle.strong_components.specs.StrongSearch.{opened, JoinsAt}
use Rattle.strong_components.specs.StrongSearch.{closed_marks, closed_at}

-- walks along edges

pub leads_self : (g : List (List ℕ)) (u : ℕ) → LeadsTo g u u
leads_self g u = ([], refl)

pub leads_edge : (g : List (List ℕ)) (u v : ℕ) → HasEdge g u v → LeadsTo g u v
leads_edge g u v e = (v ∷ [], (e, refl))

runs_on : (g : List (List ℕ)) (u : ℕ) (xs : List ℕ) (v : ℕ) (ys : List ℕ) (w : ℕ) → RunsThrough g u xs v
    → RunsThrough g v ys w → RunsThrough g u (xs ++ ys) w
runs_on g u [] v ys w e h = subst (λ (x : ℕ). RunsThrough g x ys w) (sym e) h
runs_on g u (x ∷ xs) v ys w e h = (e.0, runs_on g x xs v ys w e.1 h)

pub leads_on : (g : List (List ℕ)) (u v w : ℕ) → LeadsTo g u v → LeadsTo g v w → LeadsTo g u w
leads_on g u v w a b = (a.0 ++ b.0, runs_on g u a.0 v b.0 w a.1 b.1)

leads_at : (g : List (List ℕ)) (u v x y : ℕ) → u ≡ x → v ≡ y → LeadsTo g x y → LeadsTo g u v
leads_at g u v x y eu ev h = subst (λ (a : ℕ). LeadsTo g a v) (sym eu) (subst (λ (b : ℕ). LeadsTo g x b) (sym ev) h)

edge_at : (g : List (List ℕ)) (u x v : ℕ) → u ≡ x → HasEdge g u v → HasEdge g x v
edge_at g u x v e h = subst (λ (a : ℕ). HasEdge g a v) e h

-- marks that differ

not_closed : (c : ℕ) → mark.Unseen ≡ mark.Closed c → ⊥
not_closed c e = cc

not_open : (i : ℕ) → mark.Unseen ≡ mark.Open i → ⊥
not_open i e = cc

open_closed : (i c : ℕ) → mark.Open i ≡ mark.Closed c → ⊥
open_closed i c e = cc

same_open : (i j : ℕ) → mark.Open i ≡ mark.Open j → i ≡ j
same_open i j e = cc

same_closed : (c d : ℕ) → mark.Closed c ≡ mark.Closed d → c ≡ d
same_closed c d e = cc

-- edges of one node at a place

edges_have : (place : ℕ) (nodes : List ℕ) (v : ℕ) → Contains nodes v → Contains (edges_from place nodes) (place, v)
edges_have place nodes v h =
    let l : h.0 < length (edges_from place nodes) = subst (λ n. h.0 < n) (sym (length-map nodes (λ x. (place, x)))) h.1 in
    (h.0, l, get_or-map (λ x. (place, x)) nodes h.0 v (place, v) h.1 ∙ ap (λ x. (place, x)) h.2)

edges_are : (place : ℕ) (nodes : List ℕ) (i v : ℕ) → Contains (edges_from place nodes) (i, v)
    → (place ≡ i) × Contains nodes v
edges_are place nodes i v h =
    let l : h.0 < length nodes = subst (λ n. h.0 < n) (length-map nodes (λ x. (place, x))) h.1 in
    let e : (place, get_or nodes h.0 v) ≡ (i, v) = sym (get_or-map (λ x. (place, x)) nodes h.0 v (i, v) l) ∙ h.2 in
    (ap (λ (p : ℕ × ℕ). p.0) e, (h.0, l, ap (λ (p : ℕ × ℕ). p.1) e))

-- an index of a list with one more

last_or_less : (i n : ℕ) → i < n + 1 → (i < n) ⊎ (i ≡ n)
last_or_less i n l = elim (cases_lt i n) [ inl h ↦ inl h | inr h ↦ inr (omega arith) ]

-- the edges that were excepted are settled
pub settled : (E : ℕ → ℕ → Type 0) (g : List (List ℕ)) (s : Search) → IsSearchBut E g s
    → ((i v : ℕ) → E i v → IsNodeSettled s i v) → IsStrongSearch g s
settled E g s k h = record {
  count = k.count;
  closed_edge = k.closed_edge;
  closed_leads = k.closed_leads;
  closed_bound = k.closed_bound;
  node_inside = k.node_inside;
  node_mark = k.node_mark;
  mark_node = k.mark_node;
  chain = k.chain;
  back = k.back;
  followed = λ i v l e. elim (k.followed i v l e) [ inl f ↦ inl f | inr x ↦ inl (inr (h i v x)) ];
  pending_edge = k.pending_edge;
  pending_rises = k.pending_rises;
  bounds_rise = k.bounds_rise;
  bounds_inside = k.bounds_inside;
  bounds_begin = k.bounds_begin;
}

-- the edge is this one
abbrev pub IsEdge : ℕ → ℕ → ℕ → ℕ → Type 0
IsEdge p w i v = (p ≡ i) × (w ≡ v)

-- the last edge is taken away
pub popped : (g : List (List ℕ)) (s : Search) (ps : List (ℕ × ℕ)) (p w : ℕ) → s.pending ≡ ps ++ (p, w) ∷ []
    → IsStrongSearch g s
    → IsSearchBut (IsEdge p w) g (record s { pending = ps })
popped g s ps p w is k = record {
  count = k.count;
  closed_edge = k.closed_edge;
  closed_leads = k.closed_leads;
  closed_bound = k.closed_bound;
  node_inside = k.node_inside;
  node_mark = k.node_mark;
  mark_node = k.mark_node;
  chain = k.chain;
  back = k.back;
  followed = λ i v l e.
      elim (k.followed i v l e) [
        | inl f ↦ elim f [
          | inl here ↦ elim (Contains-push_cases ps (p, w) (i, v) (subst (λ list. Contains list (i, v)) is here))
              [ inl old ↦ inl (inl old) | inr same ↦ inr (ap (λ (x : ℕ × ℕ). x.0) same, ap (λ (x : ℕ × ℕ). x.1) same) ]
          | inr there ↦ inl (inr there)
        ]
        | inr never ↦ absurd never
      ];
  pending_edge = λ i v h. k.pending_edge i v (subst (λ list. Contains list (i, v)) (sym is) (Contains-append_left ps ((p, w) ∷ []) (i, v) h));
  pending_rises = λ a b le l.
      let whole : length s.pending ≡ length ps + 1 = ap length is ∙ length-append ps ((p, w) ∷ []) in
      let at : (i : ℕ) → i < length ps → get_or s.pending i (0, 0) ≡ get_or ps i (0, 0) = λ i h. ap (λ list. get_or list i (0, 0)) is ∙ get_or_append_left ps
      ((p, w) ∷ []) (0, 0) i h in
      let old = k.pending_rises a b le (omega (arith, whole, l)) in
      subst (λ (x : ℕ × ℕ). x.0 ≤ (get_or ps b (0, 0)).0) (at a (omega (arith, le, l)))
      (subst (λ (y : ℕ × ℕ). (get_or s.pending a (0, 0)).0 ≤ y.0) (at b l) old);
  bounds_rise = k.bounds_rise;
  bounds_inside = k.bounds_inside;
  bounds_begin = k.bounds_begin;
}

-- all bounds but the last are less than a later one
pub bounds_le : (E : ℕ → ℕ → Type 0) (g : List (List ℕ)) (s : Search) → IsSearchBut E g s → (a b : ℕ) → a ≤ b
    → b < length s.bounds → bound_at s a ≤ bound_at s b
bounds_le E g s k a b le l =
    elim (cases_lt a b) [
      | inl less ↦ let r = k.bounds_rise a b less l in omega (arith, r)
      | inr more ↦ let e : a ≡ b = omega (arith, le, more) in subst (λ (x : ℕ). bound_at s a ≤ bound_at s x) e (omega arith)
    ]

-- a node is opened

module _ (E : ℕ → ℕ → Type 0) (g : List (List ℕ)) (t : Search) (w : ℕ) (k : IsSearchBut E g t)
    (unseen : search_mark t w ≡ mark.Unseen) (inside : w < length g) where
  abbrev place : ℕ
  place = length t.stack

  abbrev now : Search
  now = opened t g w

  stack_length : length (t.stack ++ w ∷ []) ≡ place + 1
  stack_length = length-append t.stack (w ∷ [])

  bounds_length : length (t.bounds ++ place ∷ []) ≡ length t.bounds + 1
  bounds_length = length-append t.bounds (place ∷ [])

  pub mark_same : (u : ℕ) → (u ≡ w → ⊥) → search_mark now u ≡ search_mark t u
  mark_same u d = get_or-set_other t.marks w u (mark.Open place) mark.Unseen d

  mark_new : search_mark now w ≡ mark.Open place
  mark_new = get_or-set_same t.marks w (mark.Open place) mark.Unseen (subst (λ n. w < n) (sym k.count) inside)

  node_old : (i : ℕ) → i < place → node_at now i ≡ node_at t i
  node_old i l = get_or_append_left t.stack (w ∷ []) 0 i l

  node_new : node_at now place ≡ w
  node_new = get_or-append_seam t.stack w [] 0

  bound_old : (a : ℕ) → a < length t.bounds → bound_at now a ≡ bound_at t a
  bound_old a l = get_or_append_left t.bounds (place ∷ []) 0 a l

  bound_new : bound_at now (length t.bounds) ≡ place
  bound_new = get_or-append_seam t.bounds place [] 0

  closed_before : (u c : ℕ) → search_mark now u ≡ mark.Closed c → search_mark t u ≡ mark.Closed c
  closed_before u c h =
      elim (cases_eq u w) [
        | inl e ↦ absurd (open_closed place c (sym (ap (search_mark now) e ∙ mark_new) ∙ h))
        | inr d ↦ sym (mark_same u d) ∙ h
      ]

  closed_after : (u c : ℕ) → search_mark t u ≡ mark.Closed c → search_mark now u ≡ mark.Closed c
  closed_after u c h = mark_same u (λ e. not_closed c (sym (ap (search_mark t) e ∙ unseen) ∙ h)) ∙ h

  open_before : (u i : ℕ) → search_mark now u ≡ mark.Open i → (search_mark t u ≡ mark.Open i) ⊎ ((u ≡ w) × (place ≡ i))
  open_before u i h =
      elim (cases_eq u w) [
        | inl e ↦ inr (e, same_open place i (sym (ap (search_mark now) e ∙ mark_new) ∙ h))
        | inr d ↦ inl (sym (mark_same u d) ∙ h)
      ]

  open_after : (u i : ℕ) → search_mark t u ≡ mark.Open i → search_mark now u ≡ mark.Open i
  open_after u i h = mark_same u (λ e. not_open i (sym (ap (search_mark t) e ∙ unseen) ∙ h)) ∙ h

  together_before : (i j : ℕ) → IsTogether now i j → IsTogether t i j
  together_before i j h = λ a l le.
      subst (λ (x : ℕ). x ≤ i) (bound_old a l) (h a (omega (arith, bounds_length, l)) (subst (λ (x : ℕ). x ≤ j) (sym (bound_old a l)) le))

  together_after : (q i : ℕ) → i < place → IsTogether t q i → IsTogether now q i
  together_after q i li h = λ a l le.
      elim (last_or_less a (length t.bounds) (subst (λ n. a < n) bounds_length l)) [
        | inl la ↦ subst (λ (x : ℕ). x ≤ q) (sym (bound_old a la)) (h a la (subst (λ (x : ℕ). x ≤ i) (bound_old a la) le))
        | inr e ↦ let b : bound_at now a ≡ place = ap (bound_at now) e ∙ bound_new in absurd (omega (arith, b, le, li))
      ]

  pending_place : (a : ℕ) → a < length (t.pending ++ edges_from place (targets g w))
      → (get_or (t.pending ++ edges_from place (targets g w)) a (0, 0)).0 ≤ place
  pending_place a l =
      elim (cases_lt a (length t.pending)) [
        | inl la ↦
            let e : get_or (t.pending ++ edges_from place (targets g w)) a (0, 0) ≡ get_or t.pending a (0, 0) = get_or_append_left t.pending
            (edges_from place (targets g w)) (0, 0) a la in
            let h = (k.pending_edge (get_or t.pending a (0, 0)).0 (get_or t.pending a (0, 0)).1 (Contains-get_or t.pending a (0, 0) la)).0 in
            subst (λ (x : ℕ × ℕ). x.0 ≤ place) (sym e) (omega (arith, h))
        | inr le ↦
            let whole = length-append t.pending (edges_from place (targets g w)) in
            let some : length (edges_from place (targets g w)) ≡ length (targets g w) = length-map (targets g w) (λ x. (place, x)) in
            let at : length t.pending + (a - length t.pending) ≡ a = omega (arith, le) in
            let within : a - length t.pending < length (targets g w) = omega (arith, whole, some, l, le) in
            let e : get_or (t.pending ++ edges_from place (targets g w)) a (0, 0) ≡ (place, get_or (targets g w) (a - length t.pending) 0) =
            ap (λ i. get_or (t.pending ++ edges_from place (targets g w)) i (0, 0)) (sym at)
            ∙ (get_or-append-add t.pending (edges_from place (targets g w)) (a - length t.pending) (0, 0)
            ∙ get_or-map (λ x. (place, x)) (targets g w) (a - length t.pending) 0 (0, 0) within) in
            subst (λ (x : ℕ × ℕ). x.0 ≤ place) (sym e) (omega arith)
      ]

  pub opened_keeps : ((i v : ℕ) → E i v → v ≡ w) → ((i : ℕ) → i < place → LeadsTo g (node_at t i) w) → IsStrongSearch g now
  opened_keeps excepted leads = record {
    count = length-set t.marks w (mark.Open place) ∙ k.count;
    closed_edge = λ u v c hu e. let old = k.closed_edge u v c (closed_before u c hu) e in (old.0, closed_after v old.0 old.1, old.2);
    closed_leads = λ u v c hu hv. k.closed_leads u v c (closed_before u c hu) (closed_before v c hv);
    closed_bound = λ u c h. k.closed_bound u c (closed_before u c h);
    node_inside = λ i l.
        elim (last_or_less i place (subst (λ n. i < n) stack_length l)) [
          | inl h ↦ subst (λ (x : ℕ). x < length g) (sym (node_old i h)) (k.node_inside i h)
          | inr e ↦ subst (λ (x : ℕ). x < length g) (sym (ap (node_at now) e ∙ node_new)) inside
        ];
    node_mark = λ i l.
        elim (last_or_less i place (subst (λ n. i < n) stack_length l)) [
          | inl h ↦ ap (search_mark now) (node_old i h) ∙ open_after (node_at t i) i (k.node_mark i h)
          | inr e ↦ ap (search_mark now) (ap (node_at now) e ∙ node_new) ∙ (mark_new ∙ ap (λ (x : ℕ). mark.Open x) (sym e))
        ];
    mark_node = λ u i h.
        elim (open_before u i h) [
          | inl o ↦ let old = k.mark_node u i o in (subst (λ n. i < n) (sym stack_length) (omega (arith, old.0)), node_old i old.0 ∙ old.1)
          | inr e ↦ (subst (λ n. i < n) (sym stack_length) (omega (arith, e.1)), ap (node_at now) (sym e.1) ∙ (node_new ∙ sym e.0))
        ];
    chain = λ i j le l.
        elim (last_or_less j place (subst (λ n. j < n) stack_length l)) [
          | inl h ↦ leads_at g _ _ (node_at t i) (node_at t j) (node_old i (omega (arith, le, h))) (node_old j h) (k.chain i j le h)
          | inr e ↦ elim (last_or_less i place (omega (arith, le, e))) [
            | inl h ↦ leads_at g _ _ (node_at t i) w (node_old i h) (ap (node_at now) e ∙ node_new) (leads i h)
            | inr d ↦ leads_at g _ _ w w (ap (node_at now) d ∙ node_new) (ap (node_at now) e ∙ node_new) (leads_self g w)
          ]
        ];
    back = λ i j le l together.
        elim (last_or_less j place (subst (λ n. j < n) stack_length l)) [
          | inl h ↦ leads_at g _ _ (node_at t j) (node_at t i) (node_old j h) (node_old i (omega (arith, le, h)))
              (k.back i j le h (together_before i j together))
          | inr e ↦
              let low = together (length t.bounds) (omega (arith, bounds_length)) (omega (arith, bound_new, e)) in
              let d : i ≡ place = omega (arith, low, bound_new, le, e) in
              leads_at g _ _ w w (ap (node_at now) e ∙ node_new) (ap (node_at now) d ∙ node_new) (leads_self g w)
        ];
    followed = λ i v l e.
        elim (last_or_less i place (subst (λ n. i < n) stack_length l)) [
          | inl h ↦ elim (k.followed i v h (edge_at g _ _ v (node_old i h) e)) [
            | inl f ↦ elim f [
              | inl here ↦ inl (inl (Contains-append_left t.pending (edges_from place (targets g w)) (i, v) here))
              | inr there ↦ elim there [
                | inl c ↦ inl (inr (inl (c.0, closed_after v c.0 c.1)))
                | inr o ↦ inl (inr (inr (o.0, open_after v o.0 o.1, together_after o.0 i h o.2)))
              ]
            ]
            | inr x ↦ inl (inr (inr (place, ap (search_mark now) (excepted i v x) ∙ mark_new, λ a la le. omega (arith, le, h))))
          ]
          | inr d ↦
              let at : (place, v) ≡ (i, v) = ap (λ (x : ℕ). (x, v)) (sym d) in
              inl (inl (subst (λ (x : ℕ × ℕ). Contains (t.pending ++ edges_from place (targets g w)) x) at
              (Contains-append_right t.pending (edges_from place (targets g w)) (place, v)
              (edges_have place (targets g w) v (edge_at g _ w v (ap (node_at now) d ∙ node_new) e)))))
        ];
    pending_edge = λ i v h.
        elim (Contains-append_cases t.pending (edges_from place (targets g w)) (i, v) h) [
          | inl old ↦
              let p = k.pending_edge i v old in
              (subst (λ n. i < n) (sym stack_length) (omega (arith, p.0)), edge_at g _ _ v (sym (node_old i p.0)) p.1)
          | inr new ↦
              let p = edges_are place (targets g w) i v new in
              (subst (λ n. i < n) (sym stack_length) (omega (arith, p.0)), edge_at g w _ v (sym (ap (node_at now) (sym p.0) ∙ node_new)) p.1)
        ];
    pending_rises = λ a b le l.
        elim (cases_lt b (length t.pending)) [
          | inl lb ↦
              let ea : get_or (t.pending ++ edges_from place (targets g w)) a (0, 0) ≡ get_or t.pending a (0, 0) = get_or_append_left t.pending
              (edges_from place (targets g w)) (0, 0) a (omega (arith, le, lb)) in
              let eb : get_or (t.pending ++ edges_from place (targets g w)) b (0, 0) ≡ get_or t.pending b (0, 0) = get_or_append_left t.pending
              (edges_from place (targets g w)) (0, 0) b lb in
              subst (λ (x : ℕ × ℕ). x.0 ≤ (get_or (t.pending ++ edges_from place (targets g w)) b (0, 0)).0) (sym ea)
              (subst (λ (y : ℕ × ℕ). (get_or t.pending a (0, 0)).0 ≤ y.0) (sym eb) (k.pending_rises a b le lb))
          | inr past ↦
              let low = pending_place a (omega (arith, le, l)) in
              let whole = length-append t.pending (edges_from place (targets g w)) in
              let some : length (edges_from place (targets g w)) ≡ length (targets g w) = length-map (targets g w) (λ x. (place, x)) in
              let at : length t.pending + (b - length t.pending) ≡ b = omega (arith, past) in
              let within : b - length t.pending < length (targets g w) = omega (arith, whole, some, l, past) in
              let e : get_or (t.pending ++ edges_from place (targets g w)) b (0, 0) ≡ (place, get_or (targets g w) (b - length t.pending) 0) =
              ap (λ i. get_or (t.pending ++ edges_from place (targets g w)) i (0, 0)) (sym at)
              ∙ (get_or-append-add t.pending (edges_from place (targets g w)) (b - length t.pending) (0, 0)
              ∙ get_or-map (λ x. (place, x)) (targets g w) (b - length t.pending) 0 (0, 0) within) in
              subst (λ (y : ℕ × ℕ). (get_or (t.pending ++ edges_from place (targets g w)) a (0, 0)).0 ≤ y.0) (sym e) low
        ];
    bounds_rise = λ a b less l.
        elim (last_or_less b (length t.bounds) (subst (λ n. b < n) bounds_length l)) [
          | inl h ↦ let r = k.bounds_rise a b less h in let ea = bound_old a (omega (arith, less, h)) in let eb = bound_old b h in omega (arith, r, ea, eb)
          | inr e ↦
              let la : a < length t.bounds = omega (arith, less, e) in
              let r = k.bounds_inside a la in let ea = bound_old a la in let eb : bound_at now b ≡ place = ap (bound_at now) e ∙ bound_new in omega
              (arith, r, ea, eb)
        ];
    bounds_inside = λ a l.
        elim (last_or_less a (length t.bounds) (subst (λ n. a < n) bounds_length l)) [
          | inl h ↦ let r = k.bounds_inside a h in let ea = bound_old a h in omega (arith, r, ea, stack_length)
          | inr e ↦ let ea : bound_at now a ≡ place = ap (bound_at now) e ∙ bound_new in omega (arith, ea, stack_length)
        ];
    bounds_begin = λ some.
        elim (cases_lt 0 place) [
          | inl h ↦ let r = k.bounds_begin h in (omega (arith, bounds_length), bound_old 0 r.0 ∙ r.1)
          | inr none ↦ elim (cases_lt 0 (length t.bounds)) [
            | inl h ↦ let r = k.bounds_inside 0 h in absurd (omega (arith, r, none))
            | inr empty ↦
                let z : 0 ≡ length t.bounds = omega (arith, empty) in
                let p : place ≡ 0 = omega (arith, none) in
                (omega (arith, bounds_length), ap (bound_at now) z ∙ (bound_new ∙ p))
          ]
        ];
  }

-- segments are joined: an edge from the last segment leads to an open node

module _ (E : ℕ → ℕ → Type 0) (g : List (List ℕ)) (t : Search) (p w q : ℕ) (bs : List ℕ) (k : IsSearchBut E g t)
    (last : (a : ℕ) → a < length t.bounds → bound_at t a ≤ p) (from : p < length t.stack)
    (edge : HasEdge g (node_at t p) w)
    (open_at : search_mark t w ≡ mark.Open q) (j : JoinsAt q t.bounds bs) where
  abbrev joined : Search
  joined = record t { bounds = bs }

  bound_same : (a : ℕ) → a < length bs → bound_at joined a ≡ bound_at t a
  bound_same a l = ap (λ list. get_or list a 0) j.front ∙ get_or-take (length bs) t.bounds a 0 l

  some_bound : 0 < length bs
  some_bound =
      elim (cases_lt 0 (length bs)) [
        | inl h ↦ h
        | inr none ↦
            let begin = k.bounds_begin (omega (arith, from)) in
            let gone = j.gone 0 none begin.0 in
            absurd (omega (arith, gone, begin.1))
      ]

  abbrev top : ℕ
  top = length bs - 1

  top_low : bound_at t top ≤ q
  top_low = j.last some_bound

  kept_low : (a : ℕ) → a < length bs → bound_at t a ≤ bound_at t top
  kept_low a l = let few = j.fewer in bounds_le E g t k a top (omega (arith, l)) (omega (arith, few, some_bound))

  kept_if : (a : ℕ) → a < length t.bounds → bound_at t a ≤ q → a < length bs
  kept_if a l le = elim (cases_lt a (length bs)) [ inl h ↦ h | inr past ↦ let gone = j.gone a past l in absurd (omega (arith, gone, le)) ]

  target_at : (q < length t.stack) × (node_at t q ≡ w)
  target_at = k.mark_node w q open_at

  leads_from : (b : ℕ) → b < length t.stack → LeadsTo g (node_at t b) (node_at t p)
  leads_from b l =
      elim (cases_lt p b) [
        | inl after ↦ k.back p b (omega (arith, after)) l (λ a la le. last a la)
        | inr before ↦ k.chain b p before from
      ]

  leads_down : (i : ℕ) → i < length t.stack → bound_at t top ≤ i → LeadsTo g (node_at t q) (node_at t i)
  leads_down i l high =
      elim (cases_lt i q) [
        | inl before ↦ k.back i q (omega (arith, before)) target_at.0 (λ a la le. let low = kept_low a (kept_if a la le) in omega (arith, low, high))
        | inr after ↦ k.chain q i after l
      ]

  pub joined_keeps : ((i v : ℕ) → E i v → IsEdge p w i v) → IsStrongSearch g joined
  joined_keeps excepted = record {
    count = k.count;
    closed_edge = k.closed_edge;
    closed_leads = k.closed_leads;
    closed_bound = k.closed_bound;
    node_inside = k.node_inside;
    node_mark = k.node_mark;
    mark_node = k.mark_node;
    chain = k.chain;
    back = λ i b le l together.
        elim (cases_lt i (bound_at t top)) [
          | inl low ↦ k.back i b le l (λ a la lb.
              elim (cases_lt a (length bs)) [
                | inl h ↦ subst (λ (x : ℕ). x ≤ i) (bound_same a h) (together a h (subst (λ (x : ℕ). x ≤ b) (sym (bound_same a h)) lb))
                | inr past ↦
                    let gone = j.gone a past la in
                    let tl = together top (omega (arith, some_bound)) in
                    let same = bound_same top (omega (arith, some_bound)) in
                    let high : bound_at joined top ≤ b = omega (arith, gone, lb, same, top_low) in
                    let r = tl high in
                    absurd (omega (arith, r, same, low))
              ])
          | inr high ↦
              leads_on g (node_at t b) (node_at t q) (node_at t i)
              (leads_on g (node_at t b) (node_at t p) (node_at t q) (leads_from b l)
              (subst (λ (x : ℕ). LeadsTo g (node_at t p) x) (sym target_at.1) (leads_edge g (node_at t p) w edge)))
              (leads_down i (omega (arith, le, l)) high)
        ];
    followed = λ i v l e.
        elim (k.followed i v l e) [
          | inl f ↦ elim f [
            | inl here ↦ inl (inl here)
            | inr there ↦ elim there [
              | inl c ↦ inl (inr (inl c))
              | inr o ↦ inl (inr (inr (
                o.0,
                o.1,
                λ a la le.
                    let few = j.fewer in
                    subst (λ (x : ℕ). x ≤ o.0) (sym (bound_same a la)) (o.2 a (omega (arith, la, few)) (subst (λ (x : ℕ). x ≤ i) (bound_same a la) le)),
              )))
            ]
          ]
          | inr x ↦
              let same = excepted i v x in
              inl (inr (inr (
                q,
                subst (λ (y : ℕ). search_mark t y ≡ mark.Open q) same.1 open_at,
                λ a la le.
                    let low = kept_low a la in let at = bound_same a la in omega (arith, low, at, top_low),
              )))
        ];
    pending_edge = k.pending_edge;
    pending_rises = k.pending_rises;
    bounds_rise = λ a b less l.
        let few = j.fewer in
        let r = k.bounds_rise a b less (omega (arith, l, few)) in
        let ea = bound_same a (omega (arith, less, l)) in
        let eb = bound_same b l in
        omega (arith, r, ea, eb);
    bounds_inside = λ a l. let few = j.fewer in let r = k.bounds_inside a (omega (arith, l, few)) in let ea = bound_same a l in omega (arith, r, ea);
    bounds_begin = λ some. (some_bound, bound_same 0 some_bound ∙ (k.bounds_begin some).1);
  }

-- nodes are closed

marks_closed_length : (marks : List Mark) (nodes : List ℕ) (c : ℕ) → length (closed_marks marks nodes c) ≡ length marks
marks_closed_length marks [] c = refl
marks_closed_length marks (u ∷ nodes) c = marks_closed_length (set marks u (mark.Closed c)) nodes c ∙ length-set marks u (mark.Closed c)

contains_head : (x : ℕ) (xs : List ℕ) → Contains (x ∷ xs) x
contains_head x xs = (0, omega arith, refl)

marks_closed : (marks : List Mark) (nodes : List ℕ) (c u : ℕ) → ((x : ℕ) → Contains nodes x → x < length marks)
    → ((get_or (closed_marks marks nodes c) u mark.Unseen ≡ mark.Closed c) × Contains nodes u)
    ⊎ ((get_or (closed_marks marks nodes c) u mark.Unseen ≡ get_or marks u mark.Unseen) × (Contains nodes u → ⊥))
marks_closed marks [] c u within = inr (refl, λ h. omega (arith, h.1))
marks_closed marks (x ∷ nodes) c u within =
    elim (marks_closed (set marks x (mark.Closed c)) nodes c u (λ y h. subst (λ n. y < n) (sym (length-set marks x (mark.Closed c)))
    (within y (Contains-append_right (x ∷ []) nodes y h)))) [
      | inl h ↦ inl (h.0, Contains-append_right (x ∷ []) nodes u h.1)
      | inr h ↦ elim (cases_eq u x) [
        | inl e ↦
            let at : get_or (set marks x (mark.Closed c)) u mark.Unseen ≡ mark.Closed c =
            ap (λ i. get_or (set marks x (mark.Closed c)) i mark.Unseen) e ∙ get_or-set_same marks x (mark.Closed c) mark.Unseen
            (within x (contains_head x nodes)) in
            inl (h.0 ∙ at, subst (λ (y : ℕ). Contains (x ∷ nodes) y) (sym e) (contains_head x nodes))
        | inr d ↦ inr (
          h.0 ∙ get_or-set_other marks x u (mark.Closed c) mark.Unseen d,
          λ has.
              elim (Contains-append_cases (x ∷ []) nodes u has) [ inl one ↦ d (only u x one) | inr more ↦ h.1 more ],
        )
      ]
    ]
  where
    only : (a b : ℕ) → Contains (b ∷ []) a → a ≡ b
    only a b h =
        let zero_at : h.0 ≡ 0 = omega (arith, h.1) in
        sym h.2 ∙ ap (λ i. get_or (b ∷ []) i a) zero_at

module _ (g : List (List ℕ)) (s : Search) (start : ℕ) (k : IsStrongSearch g s) (some : 0 < length s.bounds) (begins : bound_at s (length s.bounds - 1) ≡ start)
    (none : (i v : ℕ) → Contains s.pending (i, v) → i < start) where
  abbrev final : ℕ
  final = length s.bounds - 1

  abbrev done : Search
  done = closed_at s start

  start_inside : start < length s.stack
  start_inside = let r = k.bounds_inside final (omega (arith, some)) in omega (arith, r, begins)

  stack_taken : length (take start s.stack) ≡ start
  stack_taken = let e = length-take start s.stack in omega (arith, e, start_inside)

  bounds_taken : length (take final s.bounds) ≡ final
  bounds_taken = let e = length-take final s.bounds in omega (arith, e, some)

  node_kept : (i : ℕ) → i < start → node_at done i ≡ node_at s i
  node_kept i l = get_or-take start s.stack i 0 l

  bound_kept : (a : ℕ) → a < final → bound_at done a ≡ bound_at s a
  bound_kept a l = get_or-take final s.bounds a 0 l

  bound_low : (a : ℕ) → a < length s.bounds → bound_at s a ≤ start
  bound_low a l = let r = bounds_le (λ i v. ⊥) g s k a final (omega (arith, l)) (omega (arith, some)) in omega (arith, r, begins)

  -- a node of the last segment
  abbrev InSegment : ℕ → Type 0
  InSegment u = (i : ℕ) × (start ≤ i) × (i < length s.stack) × (node_at s i ≡ u)

  segment_has : (u : ℕ) → InSegment u → Contains (drop start s.stack) u
  segment_has u h =
      let whole = length-drop start s.stack in
      let l : h.0 - start < length (drop start s.stack) = omega (arith, whole, h.1, h.2) in
      let at : start + (h.0 - start) ≡ h.0 = omega (arith, h.1) in
      let read : get_or (drop start s.stack) (h.0 - start) 0 ≡ u = get_or-drop start s.stack (h.0 - start) 0 ∙ (ap (node_at s) at ∙ h.3) in
      subst (λ (x : ℕ). Contains (drop start s.stack) x) read (Contains-get_or (drop start s.stack) (h.0 - start) 0 l)

  segment_is : (u : ℕ) → Contains (drop start s.stack) u → InSegment u
  segment_is u h =
      let whole = length-drop start s.stack in
      let l : start + h.0 < length s.stack = omega (arith, whole, h.1) in
      let read : node_at s (start + h.0) ≡ u = sym (get_or-drop start s.stack h.0 0) ∙ (default (drop start s.stack) h.0 u h.1 ∙ h.2) in
      (start + h.0, omega arith, l, read)
    where
      default : (xs : List ℕ) (i d : ℕ) → i < length xs → get_or xs i 0 ≡ get_or xs i d
      default xs i d l = sym (get_or_default_zero xs i d l)

  pub was : (u : ℕ) → ((search_mark done u ≡ mark.Closed s.closed) × InSegment u) ⊎
      ((search_mark done u ≡ search_mark s u) × (InSegment u → ⊥))
  was u =
      elim (marks_closed s.marks (drop start s.stack) s.closed u (λ x h.
      let i = segment_is x h in
      subst (λ (y : ℕ). y < length s.marks) i.3 (subst (λ n. node_at s i.0 < n) (sym k.count) (k.node_inside i.0 i.2)))) [
        | inl h ↦ inl (h.0, segment_is u h.1)
        | inr h ↦ inr (h.0, λ i. h.1 (segment_has u i))
      ]

  in_segment : (u : ℕ) → InSegment u → search_mark done u ≡ mark.Closed s.closed
  in_segment u h = elim (was u) [ inl w ↦ w.0 | inr w ↦ absurd (w.1 h) ]

  segment_open : (u : ℕ) (h : InSegment u) → search_mark s u ≡ mark.Open h.0
  segment_open u h = subst (λ (x : ℕ). search_mark s x ≡ mark.Open h.0) h.3 (k.node_mark h.0 h.2)

  closed_stays : (u c : ℕ) → search_mark s u ≡ mark.Closed c → search_mark done u ≡ mark.Closed c
  closed_stays u c h = elim (was u) [ inl w ↦ absurd (open_closed w.1.0 c (sym (segment_open u w.1) ∙ h)) | inr w ↦ w.0 ∙ h ]

  segment_leads : (u v : ℕ) → InSegment u → InSegment v → LeadsTo g u v
  segment_leads u v hu hv =
      leads_at g u v (node_at s hu.0) (node_at s hv.0) (sym hu.3) (sym hv.3)
      (elim (cases_lt hv.0 hu.0) [
        | inl before ↦ k.back hv.0 hu.0 (omega (arith, before)) hu.2 (λ a la le. let r = bound_low a la in omega (arith, r, hv.1))
        | inr after ↦ k.chain hu.0 hv.0 after hv.2
      ])

  pub closed_keeps : IsStrongSearch g done
  closed_keeps = record {
    count = marks_closed_length s.marks (drop start s.stack) s.closed ∙ k.count;
    closed_edge = λ u v c hu e.
        elim (was u) [
          | inl w ↦
              let same : s.closed ≡ c = same_closed s.closed c (sym w.0 ∙ hu) in
              elim (k.followed w.1.0 v w.1.2 (edge_at g u (node_at s w.1.0) v (sym w.1.3) e)) [
                | inl f ↦ elim f [
                  | inl here ↦ let r = none w.1.0 v here in absurd (omega (arith, r, w.1.1))
                  | inr there ↦ elim there [
                    | inl d ↦ let r = k.closed_bound v d.0 d.1 in (d.0, closed_stays v d.0 d.1, omega (arith, r, same))
                    | inr o ↦
                        let high = o.2 final (omega (arith, some)) (omega (arith, begins, w.1.1)) in
                        let at = k.mark_node v o.0 o.1 in
                        (s.closed, in_segment v (o.0, omega (arith, high, begins), at.0, at.1), omega (arith, same))
                  ]
                ]
                | inr never ↦ absurd never
              ]
          | inr w ↦ let old = k.closed_edge u v c (sym w.0 ∙ hu) e in (old.0, closed_stays v old.0 old.1, old.2)
        ];
    closed_leads = λ u v c hu hv.
        elim (was u) [
          | inl a ↦ elim (was v) [
            | inl b ↦ segment_leads u v a.1 b.1
            | inr b ↦
                let same : s.closed ≡ c = same_closed s.closed c (sym a.0 ∙ hu) in
                let r = k.closed_bound v c (sym b.0 ∙ hv) in absurd (omega (arith, r, same))
          ]
          | inr a ↦ elim (was v) [
            | inl b ↦
                let same : s.closed ≡ c = same_closed s.closed c (sym b.0 ∙ hv) in
                let r = k.closed_bound u c (sym a.0 ∙ hu) in absurd (omega (arith, r, same))
            | inr b ↦ k.closed_leads u v c (sym a.0 ∙ hu) (sym b.0 ∙ hv)
          ]
        ];
    closed_bound = λ u c h.
        elim (was u) [
          | inl w ↦ let same : s.closed ≡ c = same_closed s.closed c (sym w.0 ∙ h) in omega (arith, same)
          | inr w ↦ let r = k.closed_bound u c (sym w.0 ∙ h) in omega (arith, r)
        ];
    node_inside = λ i l. let li : i < start = omega (arith, l, stack_taken) in
        subst (λ (x : ℕ). x < length g) (sym (node_kept i li)) (k.node_inside i (omega (arith, li, start_inside)));
    node_mark = λ i l.
        let li : i < start = omega (arith, l, stack_taken) in
        let old = k.node_mark i (omega (arith, li, start_inside)) in
        ap (search_mark done) (node_kept i li)
        ∙ elim (was (node_at s i)) [
          | inl w ↦ let same = same_open i w.1.0 (sym old ∙ segment_open (node_at s i) w.1) in absurd (omega (arith, same, w.1.1, li))
          | inr w ↦ w.0 ∙ old
        ];
    mark_node = λ u i h.
        elim (was u) [
          | inl w ↦ absurd (open_closed i s.closed (sym h ∙ w.0))
          | inr w ↦
              let old = k.mark_node u i (sym w.0 ∙ h) in
              elim (cases_lt i start) [
                | inl li ↦ (omega (arith, li, stack_taken), node_kept i li ∙ old.1)
                | inr high ↦ absurd (w.1 (i, high, old.0, old.1))
              ]
        ];
    chain = λ i j le l.
        let lj : j < start = omega (arith, l, stack_taken) in
        leads_at g _ _ (node_at s i) (node_at s j) (node_kept i (omega (arith, le, lj))) (node_kept j lj) (k.chain i j le (omega (arith, lj, start_inside)));
    back = λ i j le l together.
        let lj : j < start = omega (arith, l, stack_taken) in
        leads_at g _ _ (node_at s j) (node_at s i) (node_kept j lj) (node_kept i (omega (arith, le, lj)))
        (k.back i j le (omega (arith, lj, start_inside)) (λ a la lb.
        elim (cases_lt a final) [
          | inl h ↦ subst (λ (x : ℕ). x ≤ i) (bound_kept a h) (together a (omega (arith, h, bounds_taken))
              (subst (λ (x : ℕ). x ≤ j) (sym (bound_kept a h)) lb))
          | inr past ↦
              let e : a ≡ final = omega (arith, past, la, some) in
              let b : bound_at s a ≡ start = ap (bound_at s) e ∙ begins in
              absurd (omega (arith, b, lb, lj))
        ]));
    followed = λ i v l e.
        let li : i < start = omega (arith, l, stack_taken) in
        elim (k.followed i v (omega (arith, li, start_inside)) (edge_at g _ _ v (node_kept i li) e)) [
          | inl f ↦ elim f [
            | inl here ↦ inl (inl here)
            | inr there ↦ elim there [
              | inl d ↦ inl (inr (inl (d.0, closed_stays v d.0 d.1)))
              | inr o ↦ elim (was v) [
                | inl w ↦ inl (inr (inl (s.closed, w.0)))
                | inr w ↦ inl (inr (inr (
                  o.0,
                  w.0 ∙ o.1,
                  λ a la le.
                      let h : a < final = omega (arith, la, bounds_taken) in
                      subst (λ (x : ℕ). x ≤ o.0) (sym (bound_kept a h)) (o.2 a (omega (arith, h)) (subst (λ (x : ℕ). x ≤ i) (bound_kept a h) le)),
                )))
              ]
            ]
          ]
          | inr never ↦ absurd never
        ];
    pending_edge = λ i v h.
        let li = none i v h in
        let p = k.pending_edge i v h in
        (omega (arith, li, stack_taken), edge_at g _ _ v (sym (node_kept i li)) p.1);
    pending_rises = k.pending_rises;
    bounds_rise = λ a b less l.
        let lb : b < final = omega (arith, l, bounds_taken) in
        let r = k.bounds_rise a b less (omega (arith, lb)) in
        let ea = bound_kept a (omega (arith, less, lb)) in
        let eb = bound_kept b lb in
        omega (arith, r, ea, eb);
    bounds_inside = λ a l.
        let la : a < final = omega (arith, l, bounds_taken) in
        let r = k.bounds_rise a final la (omega (arith, some)) in
        let ea = bound_kept a la in
        omega (arith, r, ea, begins, stack_taken);
    bounds_begin = λ some_left.
        let begin = k.bounds_begin (omega (arith, start_inside)) in
        let high : 0 < start = omega (arith, some_left, stack_taken) in
        let more : 0 < final = elim (cases_lt 0 final) [
          | inl h ↦ h
          | inr zero_final ↦
              let e : final ≡ 0 = omega (arith, zero_final) in
              let b : start ≡ bound_at s 0 = sym begins ∙ ap (bound_at s) e in
              absurd (omega (arith, b, begin.1, high))
        ] in
        (omega (arith, more, bounds_taken), bound_kept 0 more ∙ begin.1);
  }
