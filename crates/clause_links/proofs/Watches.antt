-- Which literals a record watches, and where its links lead, before and after a change.
use Rattle.std.proofs.Common.{◌≡◌, ◌≢◌, ◌<◌, ◌+◌, ◌⊎◌, ℕ, Bool, true, false, not, List, [], ◌∷◌, length, get_or, Option, Some, None, refl, sym, ◌∙◌, ap}
use Rattle.std.proofs.Common.{subst, inl, inr, arith}
use Rattle.std.specs.Prelude.{◌==◌, ◌&&◌, if◌then◌else◌}
use Rattle.std.specs.List.{Contains}
use Rattle.std.proofs.lemmas.Bool.{true≢false, false≢true}
use Rattle.std.proofs.lemmas.Bool.Decides.{eqb_tells}
use Rattle.cnf.specs.declared.lit.Lit.{Lit}
use Rattle.clause_links.specs.declared.records.Record.{Record}
use Rattle.clause_links.specs.declared.records.Watch.{Watch}
use Rattle.clause_links.specs.Records.{same_sign, same_lit, IsWatchedBy, link_of, with_link, with_watch, pair_of, IsRecord}

lit_from_parts : (a b : Lit) → a.var ≡ b.var → a.positive ≡ b.positive → a ≡ b
lit_from_parts a b e f = λ i. record { var = e i; positive = f i }

sign_tells : (a b : Bool) → ((same_sign a b ≡ true) × (a ≡ b)) ⊎ ((same_sign a b ≡ false) × (a ≢ b))
sign_tells true true = inl (refl, refl)
sign_tells true false = inr (refl, true≢false)
sign_tells false true = inr (refl, false≢true)
sign_tells false false = inl (refl, refl)

-- the test of two literals tells whether they are the same
pub lit_tells : (a b : Lit) → ((same_lit a b ≡ true) × (a ≡ b)) ⊎ ((same_lit a b ≡ false) × (a ≢ b))
lit_tells a b =
    let sign : Bool = same_sign a.positive b.positive in
    elim (eqb_tells a.var b.var) [
      | inl v ↦ elim (sign_tells a.positive b.positive) [
        | inl s ↦ inl (ap (λ (x : Bool). x && sign) v.0 ∙ s.0, lit_from_parts a b v.1 s.1)
        | inr s ↦ inr (ap (λ (x : Bool). x && sign) v.0 ∙ s.0, λ q. s.1 (ap (λ (l : Lit). l.positive) q))
      ]
      | inr v ↦ inr (ap (λ (x : Bool). x && sign) v.0, λ q. v.1 (ap (λ (l : Lit). l.var) q))
    ]

yes : (a b : Lit) → a ≡ b → same_lit a b ≡ true
yes a b e = elim (lit_tells a b) [ inl p ↦ p.0 | inr p ↦ absurd (p.1 e) ]

no : (a b : Lit) → a ≢ b → same_lit a b ≡ false
no a b n = elim (lit_tells a b) [ inl p ↦ absurd (n p.1) | inr p ↦ p.0 ]

pub lit_cases : (a b : Lit) → (a ≡ b) ⊎ (a ≢ b)
lit_cases a b = elim (lit_tells a b) [ inl p ↦ inl p.1 | inr p ↦ inr p.1 ]

-- ---- a link, by the watch that it belongs to

-- the link of the second watch along a list, if that is the list of its literal
second_link : Watch → Lit → Option ℕ
second_link watch lit = if same_lit watch.lit lit then watch.next else None

pub link_first : (r : Record) (lit : Lit) → r.first.lit ≡ lit → link_of r lit ≡ r.first.next
unfolding second_link
link_first r lit e = ap (λ (b : Bool). if b then r.first.next else second_link r.second lit) (yes r.first.lit lit e)

past_first : (r : Record) (lit : Lit) → r.first.lit ≢ lit → link_of r lit ≡ second_link r.second lit
unfolding second_link
past_first r lit n = ap (λ (b : Bool). if b then r.first.next else second_link r.second lit) (no r.first.lit lit n)

at_second : (watch : Watch) (lit : Lit) → watch.lit ≡ lit → second_link watch lit ≡ watch.next
unfolding second_link
at_second watch lit e = ap (λ (b : Bool). if b then watch.next else None) (yes watch.lit lit e)

past_second : (watch : Watch) (lit : Lit) → watch.lit ≢ lit → second_link watch lit ≡ None
unfolding second_link
past_second watch lit n = ap (λ (b : Bool). if b then watch.next else None) (no watch.lit lit n)

pub link_second : (r : Record) (lit : Lit) → r.first.lit ≢ lit → r.second.lit ≡ lit → link_of r lit ≡ r.second.next
link_second r lit n e = past_first r lit n ∙ at_second r.second lit e

-- ---- the forms of a changed record

with_first : Record → Lit → Option ℕ → Record
with_first r lit next = record r { first = record { lit = lit; next = next } }

with_second : Record → Lit → Option ℕ → Record
with_second r lit next = record r { second = record { lit = lit; next = next } }

with_link_first : (r : Record) (lit : Lit) (next : Option ℕ) → same_lit r.first.lit lit ≡ true → with_link r lit next
    ≡ with_first r r.first.lit next
unfolding with_first with_second
with_link_first r lit next e = ap (λ (b : Bool). if b then with_first r r.first.lit next else with_second r r.second.lit next) e

with_link_second : (r : Record) (lit : Lit) (next : Option ℕ) → same_lit r.first.lit lit ≡ false → with_link r lit next
    ≡ with_second r r.second.lit next
unfolding with_first with_second
with_link_second r lit next e = ap (λ (b : Bool). if b then with_first r r.first.lit next else with_second r r.second.lit next) e

with_watch_first : (r : Record) (from to : Lit) (next : Option ℕ) → same_lit r.first.lit from ≡ true
    → with_watch r from to next ≡ with_first r to next
unfolding with_first with_second
with_watch_first r from to next e = ap (λ (b : Bool). if b then with_first r to next else with_second r to next) e

with_watch_second : (r : Record) (from to : Lit) (next : Option ℕ) → same_lit r.first.lit from ≡ false
    → with_watch r from to next ≡ with_second r to next
unfolding with_first with_second
with_watch_second r from to next e = ap (λ (b : Bool). if b then with_first r to next else with_second r to next) e

-- a watched literal that isn't the first is the second
the_second : (r : Record) (lit : Lit) → IsWatchedBy r lit → r.first.lit ≢ lit → r.second.lit ≡ lit
the_second r lit w n = elim w [ inl e ↦ absurd (n e) | inr e ↦ e ]

-- a fact of a record of either form
with_link_by : (P : Record → Type 0) (r : Record) (lit : Lit) (next : Option ℕ)
    → (r.first.lit ≡ lit → P (with_first r r.first.lit next))
    → (r.first.lit ≢ lit → P (with_second r r.second.lit next))
    → P (with_link r lit next)
with_link_by P r lit next first second =
    elim (lit_tells r.first.lit lit) [
      | inl p ↦ subst P (sym (with_link_first r lit next p.0)) (first p.1)
      | inr p ↦ subst P (sym (with_link_second r lit next p.0)) (second p.1)
    ]

with_watch_by : (P : Record → Type 0) (r : Record) (from to : Lit) (next : Option ℕ)
    → (r.first.lit ≡ from → P (with_first r to next))
    → (r.first.lit ≢ from → P (with_second r to next))
    → P (with_watch r from to next)
with_watch_by P r from to next first second =
    elim (lit_tells r.first.lit from) [
      | inl p ↦ subst P (sym (with_watch_first r from to next p.0)) (first p.1)
      | inr p ↦ subst P (sym (with_watch_second r from to next p.0)) (second p.1)
    ]

-- ---- another link

pub link-with_link : (r : Record) (lit : Lit) (next : Option ℕ) → IsWatchedBy r lit → link_of (with_link r lit next) lit
    ≡ next
unfolding with_first with_second
link-with_link r lit next w =
    with_link_by (λ (q : Record). link_of q lit ≡ next) r lit next
    (λ e. link_first (with_first r r.first.lit next) lit e)
    (λ n. link_second (with_second r r.second.lit next) lit n (the_second r lit w n))

pub link-with_link_other : (r : Record) (lit : Lit) (next : Option ℕ) (other : Lit) → IsWatchedBy r lit → other ≢ lit
    → link_of (with_link r lit next) other ≡ link_of r other
unfolding with_first with_second
link-with_link_other r lit next other w unlike =
    with_link_by (λ (q : Record). link_of q other ≡ link_of r other) r lit next
    (λ e. let n : r.first.lit ≢ other = λ q. unlike (sym q ∙ e) in
    past_first (with_first r r.first.lit next) other n ∙ sym (past_first r other n))
    (λ n. let s : r.second.lit ≢ other = λ q. unlike (sym q ∙ the_second r lit w n) in
    elim (lit_cases r.first.lit other) [
      | inl e ↦ link_first (with_second r r.second.lit next) other e ∙ sym (link_first r other e)
      | inr m ↦
          past_first (with_second r r.second.lit next) other m ∙ past_second (record { lit = r.second.lit; next = next }) other s
          ∙ sym (past_first r other m ∙ past_second r.second other s)
    ])

pub pair-with_link : (r : Record) (lit : Lit) (next : Option ℕ) → pair_of (with_link r lit next) ≡ pair_of r
unfolding with_first with_second
pair-with_link r lit next = with_link_by (λ (q : Record). pair_of q ≡ pair_of r) r lit next (λ e. refl) (λ n. refl)

pub clause-with_link : (r : Record) (lit : Lit) (next : Option ℕ) → (with_link r lit next).clause ≡ r.clause
unfolding with_first with_second
clause-with_link r lit next = with_link_by (λ (q : Record). q.clause ≡ r.clause) r lit next (λ e. refl) (λ n. refl)

-- ---- another literal

pub link-with_watch : (r : Record) (from to : Lit) (next : Option ℕ) → (IsWatchedBy r to → ⊥)
    → link_of (with_watch r from to next) to ≡ next
unfolding with_first with_second
link-with_watch r from to next unwatched =
    with_watch_by (λ (q : Record). link_of q to ≡ next) r from to next
    (λ e. link_first (with_first r to next) to refl)
    (λ n. link_second (with_second r to next) to (λ q. unwatched (inl q)) refl)

pub link-with_watch_other : (r : Record) (from to : Lit) (next : Option ℕ) (lit : Lit) → IsWatchedBy r from → lit ≢ from
    → lit ≢ to → link_of (with_watch r from to next) lit ≡ link_of r lit
unfolding with_first with_second
link-with_watch_other r from to next lit w unlike_from unlike_to =
    let t : to ≢ lit = λ q. unlike_to (sym q) in
    with_watch_by (λ (q : Record). link_of q lit ≡ link_of r lit) r from to next
    (λ e. past_first (with_first r to next) lit t ∙ sym (past_first r lit (λ q. unlike_from (sym q ∙ e))))
    (λ n. let s : r.second.lit ≢ lit = λ q. unlike_from (sym q ∙ the_second r from w n) in
    elim (lit_cases r.first.lit lit) [
      | inl e ↦ link_first (with_second r to next) lit e ∙ sym (link_first r lit e)
      | inr m ↦
          past_first (with_second r to next) lit m ∙ past_second (record { lit = to; next = next }) lit t
          ∙ sym (past_first r lit m ∙ past_second r.second lit s)
    ])

pub clause-with_watch : (r : Record) (from to : Lit) (next : Option ℕ) → (with_watch r from to next).clause ≡ r.clause
unfolding with_first with_second
clause-with_watch r from to next = with_watch_by (λ (q : Record). q.clause ≡ r.clause) r from to next (λ e. refl) (λ n. refl)

-- a record watches another literal, and beside it the same one
pub watched-with_watch : (r : Record) (from to : Lit) (next : Option ℕ) → IsWatchedBy (with_watch r from to next) to
unfolding with_first with_second
watched-with_watch r from to next = with_watch_by (λ (q : Record). IsWatchedBy q to) r from to next (λ e. inl refl) (λ n. inr refl)

pub with_watch_cases : (r : Record) (from to : Lit) (next : Option ℕ) (lit : Lit) → r.first.lit ≢ r.second.lit
    → IsWatchedBy r from
    → IsWatchedBy (with_watch r from to next) lit → (to ≡ lit) ⊎ (IsWatchedBy r lit × (from ≢ lit))
unfolding with_first with_second
with_watch_cases r from to next lit apart w =
    with_watch_by (λ (q : Record). IsWatchedBy q lit → (to ≡ lit) ⊎ (IsWatchedBy r lit × (from ≢ lit))) r from to next
    (λ e h. elim h [ inl t ↦ inl t | inr s ↦ inr (inr s, λ q. apart (e ∙ q ∙ sym s)) ])
    (λ n h. elim h [ inl f ↦ inr (inl f, λ q. n (f ∙ sym q)) | inr t ↦ inl t ])

pub still_watched : (r : Record) (from to : Lit) (next : Option ℕ) (lit : Lit) → IsWatchedBy r from → from ≢ lit
    → IsWatchedBy r lit → IsWatchedBy (with_watch r from to next) lit
unfolding with_first with_second
still_watched r from to next lit w unlike h =
    with_watch_by (λ (q : Record). IsWatchedBy q lit) r from to next
    (λ e. elim h [ inl f ↦ absurd (unlike (sym e ∙ f)) | inr s ↦ inr s ])
    (λ n. elim h [ inl f ↦ inl f | inr s ↦ absurd (unlike (sym (the_second r from w n) ∙ s)) ])

-- the pair, in either order
pub pair-with_watch : (r : Record) (from to : Lit) (next : Option ℕ) (other : Lit) → r.first.lit ≢ r.second.lit
    → (pair_of r ≡ (from, other)) ⊎ (pair_of r ≡ (other, from))
    → (pair_of (with_watch r from to next) ≡ (to, other)) ⊎ (pair_of (with_watch r from to next) ≡ (other, to))
unfolding with_first with_second
pair-with_watch r from to next other apart pair =
    with_watch_by (λ (q : Record). (pair_of q ≡ (to, other)) ⊎ (pair_of q ≡ (other, to))) r from to next
    (λ e. elim pair [
      | inl p ↦ inl (ap (λ (l : Lit). (to, l)) (ap (λ (q : Lit × Lit). q.1) p))
      | inr p ↦ absurd (apart (e ∙ sym (ap (λ (q : Lit × Lit). q.1) p)))
    ])
    (λ n. elim pair [
      | inl p ↦ absurd (n (ap (λ (q : Lit × Lit). q.0) p))
      | inr p ↦ inr (ap (λ (l : Lit). (l, to)) (ap (λ (q : Lit × Lit). q.0) p))
    ])

-- a record stays one
pub IsRecord-with_link : (n : ℕ) (r : Record) (lit : Lit) (next : Option ℕ) → IsRecord n r
    → IsRecord n (with_link r lit next)
unfolding with_first with_second
IsRecord-with_link n r lit next h =
    with_link_by (λ (q : Record). IsRecord n q) r lit next
    (λ e. record { apart = h.apart; first = h.first; second = h.second; known = h.known })
    (λ n. record { apart = h.apart; first = h.first; second = h.second; known = h.known })

pub IsRecord-with_watch : (n : ℕ) (r : Record) (from to : Lit) (next : Option ℕ) → (IsWatchedBy r to → ⊥)
    → Contains r.clause to → IsRecord n r → IsRecord n (with_watch r from to next)
unfolding with_first with_second
IsRecord-with_watch n r from to next unwatched own h =
    with_watch_by (λ (q : Record). IsRecord n q) r from to next
    (λ e. record { apart = λ q. unwatched (inr (sym q)); first = own; second = h.second; known = h.known })
    (λ n. record { apart = λ q. unwatched (inl q); first = h.first; second = own; known = h.known })
