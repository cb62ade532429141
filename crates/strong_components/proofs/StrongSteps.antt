-- Each step of the search for strongly connected components keeps its facts and leaves less to do.
use Rattle.std.proofs.Common.{◌≡◌, ℕ, zero, suc, ◌+◌, ◌-◌, ◌<◌, ◌≤◌, inl, inr, List, [], ◌∷◌, ◌++◌, length, map, drop, get_or, set, replicate, refl, sym, ap}
use Rattle.std.proofs.Common.{subst, ◌∙◌, arith}
use Rattle.std.specs.Prelude.{Contains}
use Rattle.std.proofs.lemmas.Bool.{cases_lt, cases_eq}
use Rattle.std.proofs.lemmas.List.{length-append, length-take, length-map, get_or-map, get_or-set_same, get_or-replicate, length-replicate}
use Rattle.std.proofs.lemmas.List.Elements.{Contains-push}
use Rattle.std.proofs.Math.ListN.{get_or-eq_default}
use Rattle.strong_components.specs.declared.strong.Mark.{Mark}
use Rattle.strong_components.specs.declared.strong.Mark.TheVariants as mark
use Rattle.strong_components.specs.Strong.{targets, HasEdge, IsInside, LeadsTo, IsRanking}
use Rattle.strong_components.specs.StrongSearch.{Search, search_mark, node_at, bound_at, IsSearchBut, IsStrongSearch, edges_from, opened, closed_marks}
use Rattle.strong_components.specs.StrongSearch.{closed_at}
use Rattle.strong_components.specs.StrongSearch.{class_of, unseen_weight, unseen, FollowsBy, GoesOn, IsLastBound, StaysSeen, IsStep, IsAtRest, IsSeen}
use Rattle.strong_components.proofs.StrongFacts.{IsEdge, leads_edge, leads_on, popped, settled, opened_keeps, joined_keeps, closed_keeps, was, mark_same}
use Rattle.strong_components.proofs.StrongFacts.{bounds_le}

-- what is left to do

unseen_opened : (marks : List Mark) (g : List (List ℕ)) (w k : ℕ) → get_or marks w mark.Unseen ≡ mark.Unseen
    → w < length marks → length marks ≡ length g
    → unseen (set marks w (mark.Open k)) g + (2 + length (targets g w)) ≡ unseen marks g
unseen_opened [] g w k h l e = absurd (omega (arith, l))
unseen_opened (m ∷ marks) [] w k h l e = absurd (omega (arith, e))
unseen_opened (m ∷ marks) (nodes ∷ g) zero k h l e =
    let same : unseen_weight m nodes ≡ 2 + length nodes = ap (λ (x : Mark). unseen_weight x nodes) h in
    omega (arith, same)
unseen_opened (m ∷ marks) (nodes ∷ g) (suc w) k h l e = let r = unseen_opened marks g w k h (omega (arith, l)) (omega (arith, e)) in omega (arith, r)

unseen_set : (marks : List Mark) (g : List (List ℕ)) (u c : ℕ) → unseen (set marks u (mark.Closed c)) g ≤ unseen marks g
unseen_set [] g u c = omega arith
unseen_set (m ∷ marks) [] zero c = omega arith
unseen_set (m ∷ marks) [] (suc u) c = omega arith
unseen_set (m ∷ marks) (nodes ∷ g) zero c = omega arith
unseen_set (m ∷ marks) (nodes ∷ g) (suc u) c = let r = unseen_set marks g u c in omega (arith, r)

unseen_closed : (marks : List Mark) (nodes : List ℕ) (g : List (List ℕ)) (c : ℕ)
    → unseen (closed_marks marks nodes c) g ≤ unseen marks g
unseen_closed marks [] g c = omega arith
unseen_closed marks (u ∷ nodes) g c =
    let r = unseen_closed (set marks u (mark.Closed c)) nodes g c in let o = unseen_set marks g u c in omega (arith, r, o)

-- marks that differ

open_unseen : (i : ℕ) → mark.Open i ≡ mark.Unseen → ⊥
open_unseen i e = cc

closed_unseen : (c : ℕ) → mark.Closed c ≡ mark.Unseen → ⊥
closed_unseen c e = cc

-- the last segment is closed

none_left : (g : List (List ℕ)) (s : Search) (start : ℕ) → IsStrongSearch g s
    → (0 < length s.pending → (get_or s.pending (length s.pending - 1) (0, 0)).0 < start)
    → (i v : ℕ) → Contains s.pending (i, v) → i < start
none_left g s start k low i v h =
    let last = low (omega (arith, h.1)) in
    let rises = k.pending_rises h.0 (length s.pending - 1) (omega (arith, h.1)) (omega (arith, h.1)) in
    let at : get_or s.pending h.0 (0, 0) ≡ (i, v) = pair_default s.pending h.0 (0, 0) (i, v) h.1 ∙ h.2 in
    let place : (get_or s.pending h.0 (0, 0)).0 ≡ i = ap (λ (x : ℕ × ℕ). x.0) at in
    omega (arith, last, rises, place)
  where
    pair_default : (xs : List (ℕ × ℕ)) (n : ℕ) (c d : ℕ × ℕ) → n < length xs → get_or xs n c ≡ get_or xs n d
    pair_default [] n c d l = absurd (omega (arith, l))
    pair_default (x ∷ xs) zero c d l = refl
    pair_default (x ∷ xs) (suc n) c d l = pair_default xs n c d (omega (arith, l))

pub closing_step : (g : List (List ℕ)) (s : Search) (start : ℕ) → IsStrongSearch g s → IsLastBound s.bounds start
    → (0 < length s.pending → (get_or s.pending (length s.pending - 1) (0, 0)).0 < start)
    → IsStep g s (closed_at s start)
closing_step g s start k last low =
    let none = none_left g s start k low in
    record {
      search = closed_keeps g s start k last.0 last.1 none;
      seen = λ u h.
          elim (was g s start k last.0 last.1 none u) [
            | inl w ↦ absurd (closed_unseen s.closed (sym w.0 ∙ h))
            | inr w ↦ sym w.0 ∙ h
          ];
      less =
          let marks = unseen_closed s.marks (drop start s.stack) g s.closed in
          let taken = length-take (length s.bounds - 1) s.bounds in
          let some = last.0 in
          omega (arith, marks, taken, some);
    }

-- an edge is followed

module _ (g : List (List ℕ)) (s : Search) (ps : List (ℕ × ℕ)) (p w start : ℕ) (k : IsStrongSearch g s) (inside : IsInside g) (last : IsLastBound s.bounds start)
    (taken : s.pending ≡ ps ++ (p, w) ∷ []) (high : start ≤ p) where
  abbrev rest : Search
  rest = record s { pending = ps }

  but : IsSearchBut (IsEdge p w) g rest
  but = popped g s ps p w taken k

  edge : (p < length s.stack) × HasEdge g (node_at s p) w
  edge = k.pending_edge p w (subst (λ list. Contains list (p, w)) (sym taken) (contains_last ps (p, w)))
    where
      contains_last : (xs : List (ℕ × ℕ)) (x : ℕ × ℕ) → Contains (xs ++ x ∷ []) x
      contains_last xs x = Contains-push xs x

  low_bounds : (a : ℕ) → a < length s.bounds → bound_at s a ≤ p
  low_bounds a l =
      let few = last.0 in
      let at = last.1 in
      let r = bounds_le (λ i v. ⊥) g s k a (length s.bounds - 1) (omega (arith, l)) (omega (arith, few)) in
      omega (arith, r, at, high)

  leads_here : (i : ℕ) → i < length s.stack → LeadsTo g (node_at s i) w
  leads_here i l =
      leads_on g (node_at s i) (node_at s p) w
      (elim (cases_lt p i) [
        | inl after ↦ k.back p i (omega (arith, after)) l (λ a la le. low_bounds a la)
        | inr before ↦ k.chain i p before edge.0
      ])
      (leads_edge g (node_at s p) w edge.1)

  pending_length : length s.pending ≡ length ps + 1
  pending_length = ap length taken ∙ length-append ps ((p, w) ∷ [])

  step_by : (m : Mark) → search_mark s w ≡ m → (new : Search) → FollowsBy m g rest w new → IsStep g s new
  step_by mark.Unseen unseen_is new is =
      subst (λ (n : Search). IsStep g s n) (sym is) (record {
        search = opened_keeps (IsEdge p w) g rest w but unseen_is (inside (node_at s p) w edge.1) (λ i v e. sym e.1) leads_here;
        seen = λ u h.
            elim (cases_eq u w) [
              | inl e ↦ ap (search_mark s) e ∙ unseen_is
              | inr d ↦ sym (mark_same (IsEdge p w) g rest w but unseen_is (inside (node_at s p) w edge.1) u d) ∙ h
            ];
        less =
            let target : w < length s.marks = subst (λ n. w < n) (sym k.count) (inside (node_at s p) w edge.1) in
            let marks = unseen_opened s.marks g w (length s.stack) unseen_is target k.count in
            let edges = length-append ps (edges_from (length s.stack) (targets g w)) in
            let some : length (edges_from (length s.stack) (targets g w)) ≡ length (targets g w) = length-map (targets g w) (λ x. (length s.stack, x)) in
            let bounds = length-append s.bounds (length s.stack ∷ []) in
            omega (arith, marks, edges, some, bounds, pending_length);
      })
  step_by (mark.Open q) open_is new is =
      subst (λ (n : Search). IsStep g s n) (sym is.0) (record {
        search = joined_keeps (IsEdge p w) g rest p w q new.bounds but low_bounds edge.0 edge.1 open_is is.1 (λ i v e. e);
        seen = λ u h. h;
        less = let fewer = is.1.fewer in omega (arith, fewer, pending_length);
      })
  step_by (mark.Closed c) closed_is new is =
      subst (λ (n : Search). IsStep g s n) (sym is) (record {
        search = settled (IsEdge p w) g rest but (λ i v e. inl (c, ap (search_mark s) (sym e.1) ∙ closed_is));
        seen = λ u h. h;
        less = omega (arith, pending_length);
      })

  pub following_step : (new : Search) → GoesOn g rest w new → IsStep g s new
  following_step new is = step_by (search_mark s w) refl new is

-- the first node of a search is opened

pub first_opened : (g : List (List ℕ)) (s : Search) (w : ℕ) → IsAtRest g s → search_mark s w ≡ mark.Unseen → w < length g
    → IsStrongSearch g (opened s g w)
first_opened g s w k unseen_is inside =
    opened_keeps (λ i v. ⊥) g s w k.search unseen_is inside (λ i v never. absurd never)
    (λ i l. let begin = k.search.bounds_begin (omega (arith, l)) in let none = k.empty in absurd (omega (arith, none, begin.0)))

pub first_seen_stays : (g : List (List ℕ)) (s : Search) (w : ℕ) → IsAtRest g s → search_mark s w ≡ mark.Unseen
    → w < length g → StaysSeen s (opened s g w)
first_seen_stays g s w k unseen_is inside u h =
    elim (cases_eq u w) [
      | inl e ↦ ap (search_mark s) e ∙ unseen_is
      | inr d ↦ sym (mark_same (λ i v. ⊥) g s w k.search unseen_is inside u d) ∙ h
    ]

pub opened_seen : (g : List (List ℕ)) (s : Search) (w : ℕ) → w < length s.marks → IsSeen (opened s g w) w
opened_seen g s w l h = open_unseen (length s.stack) (sym (get_or-set_same s.marks w (mark.Open (length s.stack)) mark.Unseen l) ∙ h)

-- the beginning and the end

pub search_begins : (g : List (List ℕ)) (n : ℕ) → n ≡ length g → IsAtRest g
    (record { marks = replicate n mark.Unseen; stack = []; bounds = []; pending = []; closed = 0 })
search_begins g n e =
    let unseen_all : (u : ℕ) → get_or (replicate n mark.Unseen) u mark.Unseen ≡ mark.Unseen = λ u.
    elim (cases_lt u n) [
      | inl l ↦ get_or-replicate n u mark.Unseen mark.Unseen l
      | inr past ↦ get_or-eq_default (replicate n mark.Unseen) mark.Unseen (subst (λ m. m ≤ u) (sym (length-replicate n mark.Unseen)) past)
    ] in
    record {
      search = record {
        count = length-replicate n mark.Unseen ∙ e;
        closed_edge = λ u v c h x. absurd (closed_unseen c (sym h ∙ unseen_all u));
        closed_leads = λ u v c h x. absurd (closed_unseen c (sym h ∙ unseen_all u));
        closed_bound = λ u c h. absurd (closed_unseen c (sym h ∙ unseen_all u));
        node_inside = λ i l. absurd (omega (arith, l));
        node_mark = λ i l. absurd (omega (arith, l));
        mark_node = λ u i h. absurd (open_unseen i (sym h ∙ unseen_all u));
        chain = λ i j le l. absurd (omega (arith, l));
        back = λ i j le l t. absurd (omega (arith, l));
        followed = λ i v l x. absurd (omega (arith, l));
        pending_edge = λ i v h. absurd (omega (arith, h.1));
        pending_rises = λ a b le l. absurd (omega (arith, l));
        bounds_rise = λ a b le l. absurd (omega (arith, l));
        bounds_inside = λ a l. absurd (omega (arith, l));
        bounds_begin = λ some. absurd (omega (arith, some));
      };
      empty = refl;
    }

-- all nodes are closed where none is left and all were seen
all_closed : (g : List (List ℕ)) (s : Search) → IsAtRest g s → (u : ℕ) → IsSeen s u
    → (c : ℕ) × (search_mark s u ≡ mark.Closed c)
all_closed g s k u seen = by (search_mark s u) refl
  where
    by : (m : Mark) → search_mark s u ≡ m → (c : ℕ) × (search_mark s u ≡ mark.Closed c)
    by mark.Unseen e = absurd (seen e)
    by (mark.Open i) e =
        let at = k.search.mark_node u i e in
        let begin = k.search.bounds_begin (omega (arith, at.0)) in
        let none = k.empty in
        absurd (omega (arith, none, begin.0))
    by (mark.Closed c) e = (c, e)

pub ranking : (g : List (List ℕ)) (s : Search) (ranks : List ℕ) → IsAtRest g s → IsInside g
    → ((u : ℕ) → u < length g → IsSeen s u) → ranks ≡ map class_of s.marks → IsRanking g ranks
ranking g s ranks k inside seen is = record {
  count = ap length is ∙ (length-map s.marks class_of ∙ k.search.count);
  falls = λ u v l e.
      let cu = all_closed g s k u (seen u l) in
      let cv = k.search.closed_edge u v cu.0 cu.1 e in
      let ru = rank_is u cu.0 l cu.1 in
      let rv = rank_is v cv.0 (inside u v e) cv.1 in
      let down = cv.2 in
      omega (arith, ru, rv, down);
  same = λ u v lu lv e.
      let cu = all_closed g s k u (seen u lu) in
      let cv = all_closed g s k v (seen v lv) in
      let ru = rank_is u cu.0 lu cu.1 in
      let rv = rank_is v cv.0 lv cv.1 in
      let one : cv.0 ≡ cu.0 = omega (arith, ru, rv, e) in
      k.search.closed_leads u v cu.0 cu.1 (cv.1 ∙ ap (λ (c : ℕ). mark.Closed c) one);
}
  where
    rank_is : (u c : ℕ) → u < length g → search_mark s u ≡ mark.Closed c → get_or ranks u 0 ≡ c
    rank_is u c l h =
        ap (λ list. get_or list u 0) is
        ∙ (get_or-map class_of s.marks u mark.Unseen 0 (subst (λ n. u < n) (sym k.search.count) l) ∙ ap class_of h)

-- the node that an edge to be followed leads to
pub taken_inside : (g : List (List ℕ)) (s : Search) (ps : List (ℕ × ℕ)) (p w : ℕ) → IsStrongSearch g s → IsInside g
    → s.pending ≡ ps ++ (p, w) ∷ [] → w < length g
taken_inside g s ps p w k inside taken =
    let e = k.pending_edge p w (subst (λ list. Contains list (p, w)) (sym taken) (Contains-push ps (p, w))) in
    inside (node_at s p) w e.1

pub begins_at : (g : List (List ℕ)) (marks : List Mark) (stack bounds : List ℕ) (pending : List (ℕ × ℕ))
    → marks ≡ replicate (length g) mark.Unseen → stack ≡ [] → bounds ≡ [] → pending ≡ []
    → IsAtRest g (record { marks = marks; stack = stack; bounds = bounds; pending = pending; closed = 0 })
begins_at g marks stack bounds pending em es eb ep =
    subst (λ (s : Search). IsAtRest g s) (λ j. record { marks = sym em j; stack = sym es j; bounds = sym eb j; pending = sym ep j; closed = 0 })
    (search_begins g (length g) refl)

-- one more node was seen
pub seen_more : (old new : Search) (n : ℕ) → ((u : ℕ) → u < n → IsSeen old u) → StaysSeen old new → IsSeen new n
    → (u : ℕ) → u < n + 1 → IsSeen new u
seen_more old new n seen stays last u l =
    elim (cases_lt u n) [
      | inl less ↦ λ h. seen u less (stays u h)
      | inr more ↦ let e : n ≡ u = omega (arith, l, more) in subst (λ (x : ℕ). IsSeen new x) e last
    ]
