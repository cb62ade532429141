use Rattle.std.proofs.Common.{◌≡◌, ℕ, zero, suc, ◌+◌, Bool, true, false, ◌||◌, List, [], ◌∷◌, ◌++◌, length, take, get_or, ◌<◌, slice_get, Some, refl, sym}
use Rattle.std.proofs.Common.{ap, ◌∙◌, arith, append_assoc, subst}
use Rattle.std.specs.Prelude.{if◌then◌else◌}
use Rattle.std.specs.List.{list_any, list_all}
use Rattle.std.proofs.lemmas.Bool.{false≢true}
use Rattle.std.proofs.lemmas.List.{append-nil, take_more}
use Rattle.oss_base.specs.declared.ids.ItemId.{ItemId}
use Rattle.spec_model.specs.declared.spec.Spec.{Spec}
use Rattle.spec_model.specs.declared.item.Item.{Item}
use Rattle.typed_ltl.specs.declared.lasso.Verdict.{Verdict}
use Rattle.typed_ltl.specs.declared.lasso.Verdict.TheVariants as verdict
use Rattle.obligations.specs.declared.name.ObligationName.{ObligationName}
use Rattle.level_verdicts.specs.Safety.{AreProved, AllAreProved, ProvedSystemsAreSafe}
use Rattle.level_verdicts.specs.Verdicts.{AreVerdicts}
use Rattle.report.specs.declared.answers.Answer.{Answer}
use Rattle.report.specs.Answers.{says_proved, says_refuted, says_undecided, is_proved, is_refuted, is_undecided, status}
use Rattle.report.specs.AllAnswers.{answer, obligation_of, answers_from, level_answers, AreAnswersFrom, SuccessIsSafe}

-- Answers that are pushed one after the other.

pub answers_pushed : (item : ItemId) (k : ℕ) (vs : List Verdict) (v : Verdict)
    → answers_from item k (vs ++ v ∷ []) ≡ answers_from item k vs ++ answer (obligation_of item (k + length vs)) v ∷ []
answers_pushed item k [] v = let z : k + 0 ≡ k = omega arith in rw z refl
answers_pushed item k (u ∷ vs) v =
    let z : k + suc (length vs) ≡ k + 1 + length vs = omega arith in
    rw z (ap (λ (xs : List Answer). answer (obligation_of item k) u ∷ xs) (answers_pushed item (k + 1) vs v))

-- one more level
pub level_pushed : (spec : Spec) (depth n : ℕ) (items : List Item) (answers : List Answer) (item : Item) (vs : List Verdict)
    → AreAnswersFrom spec depth n items answers → AreVerdicts spec item depth vs
    → AreAnswersFrom spec depth n (items ++ item ∷ []) (answers ++ level_answers (n + length items) vs)
level_pushed spec depth n [] answers item vs h v =
    let z : n + 0 ≡ n = omega arith in
    (vs, [], v, rw h (rw z (sym (append-nil (level_answers n vs)))), refl)
level_pushed spec depth n (x ∷ items) answers item vs h v =
    let z : n + suc (length items) ≡ n + 1 + length items = omega arith in (
      h.0,
      h.1 ++ level_answers (n + 1 + length items) vs,
      h.2,
      rw z (rw h.3 (append_assoc (level_answers n h.0) h.1 (level_answers (n + 1 + length items) vs))),
      level_pushed spec depth (n + 1) items h.1 item vs h.4 v,
    )

taken : {X : Type 0} (xs : List X) (i : ℕ) (x : X) → i < length xs → x ≡ get_or xs i x
    → take (i + 1) xs ≡ take i xs ++ x ∷ []
taken xs i x l e = take_more xs i x l ∙ ap (λ u. take i xs ++ u ∷ []) (sym e)

length_taken : {X : Type 0} (xs : List X) (i : ℕ) → i < length xs → length (take i xs) ≡ i
length_taken [] i l = absurd (omega arith)
length_taken (x ∷ xs) zero l = refl
length_taken (x ∷ xs) (suc i) l = ap suc (length_taken xs i (omega arith))

-- the answers of a level, one more
pub level_step : (item : ItemId) (vs : List Verdict) (i : ℕ) (v : Verdict) (name : ObligationName) (old now new : List Answer) → i < length vs
    → v ≡ get_or vs i v
    → name ≡ obligation_of item i → now ≡ old ++ answers_from item 0 (take i vs) → new ≡ now ++ answer name v ∷ []
    → new ≡ old ++ answers_from item 0 (take (i + 1) vs)
level_step item vs i v name old now new l e n h p =
    let t : length (take i vs) ≡ i = length_taken vs i l in
    let z : 0 + length (take i vs) ≡ i = omega arith in
    let pushed : answers_from item 0 (take (i + 1) vs) ≡ answers_from item 0 (take i vs) ++ answer name v ∷ [] =
    ap (answers_from item 0) (taken vs i v l e) ∙ answers_pushed item 0 (take i vs) v ∙ rw z (rw n refl) in
    rw p (rw h (rw pushed (append_assoc old (answers_from item 0 (take i vs)) (answer name v ∷ []))))

-- one more level of those of a list
pub levels_step : (spec : Spec) (depth : ℕ) (items : List Item) (i : ℕ) (item : Item) (vs : List Verdict) (n : ℕ) (old new : List Answer) → i < length items
    → item ≡ get_or items i item → n ≡ i
    → AreAnswersFrom spec depth 0 (take i items) old → AreVerdicts spec item depth vs → new ≡ old ++ level_answers n vs
    → AreAnswersFrom spec depth 0 (take (i + 1) items) new
levels_step spec depth items i item vs n old new l e same h v p =
    let t : length (take i items) ≡ i = length_taken items i l in
    let z : 0 + length (take i items) ≡ i = omega arith in
    rw (taken items i item l e) (rw p (rw same (rw z at (level_pushed spec depth 0 (take i items) old item vs h v))))

-- The status 0 says that all is proved.

zero_parts : (a b : Bool) → ◌≡◌ {A = ℕ} (if a then 1 else (if b then 2 else 0)) 0 → (a ≡ false) × (b ≡ false)
zero_parts true b e = absurd (omega arith)
zero_parts false true e = absurd (omega arith)
zero_parts false false e = (refl, refl)

one_left : (v : Verdict) (r u : Bool) → (says_refuted v || r) ≡ false → (says_undecided v || u) ≡ false
    → (says_proved v ≡ true) × (r ≡ false) × (u ≡ false)
one_left verdict.Proved r u e f = (refl, e, f)
one_left verdict.Undecided r u e f = absurd (false≢true (sym f))
one_left (verdict.Refuted lasso) r u e f = absurd (false≢true (sym e))

none_left : (answers : List Answer) → list_any is_refuted answers ≡ false → list_any is_undecided answers ≡ false
    → list_all is_proved answers ≡ true
none_left [] e f = refl
none_left (a ∷ answers) e f =
    let p = one_left a.verdict (list_any is_refuted answers) (list_any is_undecided answers) e f in
    rw p.0 (none_left answers p.1 p.2)

all_proved : (answers : List Answer) → status answers ≡ 0 → list_all is_proved answers ≡ true
all_proved answers e = let p = zero_parts (list_any is_refuted answers) (list_any is_undecided answers) e in none_left answers p.0 p.1

proved_from : (item : ItemId) (k : ℕ) (vs : List Verdict) (rest : List Answer)
    → list_all is_proved (answers_from item k vs ++ rest) ≡ true
    → AreProved vs × (list_all is_proved rest ≡ true)
proved_from item k [] rest e = (tt, e)
proved_from item k (verdict.Proved ∷ vs) rest e = proved_from item (k + 1) vs rest e
proved_from item k (verdict.Undecided ∷ vs) rest e = absurd (false≢true e)
proved_from item k (verdict.Refuted lasso ∷ vs) rest e = absurd (false≢true e)

levels_proved : (spec : Spec) (depth n : ℕ) (items : List Item) (answers : List Answer)
    → AreAnswersFrom spec depth n items answers → list_all is_proved answers ≡ true
    → (m : ℕ) (item : Item) → slice_get items m ≡ Some item
    → (vs : List Verdict) × AreVerdicts spec item depth vs × AreProved vs
levels_proved spec depth n [] answers h p m item e = cc
levels_proved spec depth n (x ∷ items) answers h p zero item e =
    let same : x ≡ item = cc in
    let q = proved_from (record { 0 = n }) 0 h.0 h.1 (rw h.3 at p) in
    subst (λ (i : Item). (vs : List Verdict) × AreVerdicts spec i depth vs × AreProved vs) same (h.0, h.2, q.0)
levels_proved spec depth n (x ∷ items) answers h p (suc m) item e =
    let q = proved_from (record { 0 = n }) 0 h.0 h.1 (rw h.3 at p) in
    levels_proved spec depth (n + 1) items h.1 h.4 q.1 m item e

pub success_is_safe : ProvedSystemsAreSafe → SuccessIsSafe
success_is_safe safe spec depth ok deep answers h e k w trace leaves x =
    let proved : AllAreProved spec depth = λ n item s. levels_proved spec depth 0 spec.items answers h (all_proved answers e) n item s in
    safe spec depth ok deep proved k w trace leaves x
