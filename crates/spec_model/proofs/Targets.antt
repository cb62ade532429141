use Rattle.std.proofs.Common.{◌≡◌, ℕ, Bool, true, false, ◌&&◌, Option, Some, None, eqb, refl, ap}
use Rattle.std.proofs.lemmas.Bool.{false≢true, eqb-true, eq-eqb}
use Rattle.oss_base.specs.declared.ids.SubId.{SubId}
use Rattle.spec_model.specs.declared.wire.Target.{Target}
use Rattle.spec_model.specs.Architecture.{target, same_sub, same_target}

-- Two targets are the same exactly where the test says so.

pub same_sub_is : (a b : Option SubId) → same_sub a b ≡ true → a ≡ b
same_sub_is None None h = refl
same_sub_is None (Some s) h = absurd (false≢true h)
same_sub_is (Some s) None h = absurd (false≢true h)
same_sub_is (Some s) (Some r) h = ap (λ (n : ℕ). Some (record { 0 = n })) (eqb-true s.0 r.0 h)

pub same_sub_itself : (a : Option SubId) → same_sub a a ≡ true
same_sub_itself None = refl
same_sub_itself (Some s) = eq-eqb s.0 s.0 refl

and_first : (a b : Bool) → (a && b) ≡ true → a ≡ true
and_first true b h = refl
and_first false b h = absurd (false≢true h)

and_second : (a b : Bool) → (a && b) ≡ true → b ≡ true
and_second true b h = h
and_second false b h = absurd (false≢true h)

and_both : (a b : Bool) → a ≡ true → b ≡ true → (a && b) ≡ true
and_both true b h k = k
and_both false b h k = absurd (false≢true h)

same_parts : (a b : Option SubId) (m n : ℕ) → a ≡ b → m ≡ n → target a m ≡ target b n
same_parts a b m n e f = cc

pub same_target_is : (t u : Target) → same_target t u ≡ true → t ≡ u
same_target_is t u h =
    same_parts t.sub u.sub t.port.0 u.port.0 (same_sub_is t.sub u.sub (and_first _ _ h)) (eqb-true _ _ (and_second (same_sub t.sub u.sub) _ h))

pub same_target_itself : (t : Target) → same_target t t ≡ true
same_target_itself t = and_both _ _ (same_sub_itself t.sub) (eq-eqb _ _ refl)

false_unless : (b : Bool) → (b ≡ true → ⊥) → b ≡ false
false_unless true h = absurd (h refl)
false_unless false h = refl

-- targets that differ are told apart
pub other_target : (t u : Target) → (t ≡ u → ⊥) → same_target t u ≡ false
other_target t u h = false_unless (same_target t u) (λ e. h (same_target_is t u e))
