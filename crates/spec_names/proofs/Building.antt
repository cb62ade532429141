use Rattle.std.proofs.Common.{◌≡◌, ℕ, ◌+◌, ◌<◌, ◌≤◌, List, [], ◌∷◌, ◌++◌, length, get_or, take, drop, map, filter_map, Option, Some, None, refl, sym, ap, ◌∙◌}
use Rattle.std.proofs.Common.{append_assoc}
use Rattle.std.proofs.lemmas.List.{at_drop_more, at_drop_all, append-nil, map_more}
use Rattle.std.specs.List.{cons_option}

-- Lists that are built of what `f` gives of each item, in turn: what is built, and what is still to
-- come, are all.
pub record Built {X A : Type 0} (f : X → Option A) (items : List X) (made : List A) (i : ℕ) : Type 0 where
  pub joined : made ++ filter_map f (drop i items) ≡ filter_map f items

pub built_start : {X A : Type 0} (f : X → Option A) (items : List X) → Built f items [] 0
built_start f items = record { joined = refl }

put_option : {A : Type 0} (o : Option A) (made rest : List A)
    → (made ++ cons_option o []) ++ rest ≡ made ++ cons_option o rest
put_option None made rest = ap (λ list. list ++ rest) (append-nil made)
put_option (Some a) made rest = append_assoc made (a ∷ []) rest

pub built_more : {X A : Type 0} (f : X → Option A) (items : List X) (made more : List A) (i : ℕ) (x : X)
    → i < length items → x ≡ get_or items i x → more ≡ made ++ cons_option (f x) [] → Built f items made i
    → Built f items more (i + 1)
built_more f items made more i x within is put built = record {
  joined = ap (λ list. list ++ filter_map f (drop (i + 1) items)) put
      ∙ put_option (f x) made (filter_map f (drop (i + 1) items))
      ∙ ap (λ list. made ++ list) (sym (at_drop_more (filter_map f) items i x within ∙ ap (λ y. cons_option (f y) (filter_map f (drop (i + 1) items)))
      (sym is)))
      ∙ built.joined;
}

pub built_all : {X A : Type 0} (f : X → Option A) (items : List X) (made : List A) (i : ℕ)
    → length items ≤ i → Built f items made i → made ≡ filter_map f items
built_all f items made i past built =
    sym (append-nil made) ∙ ap (λ rest. made ++ rest) (sym (at_drop_all (filter_map f) items i past)) ∙ built.joined

-- the same where each item gives one
pub mapped_more : {X A : Type 0} (f : X → A) (items : List X) (made more : List A) (i : ℕ) (x : X) (a : A)
    → i < length items → x ≡ get_or items i x → a ≡ f x → more ≡ made ++ a ∷ [] → made ≡ map f (take i items)
    → more ≡ map f (take (i + 1) items)
mapped_more f items made more i x a within is gives put so =
    put
    ∙ (ap (λ list. list ++ a ∷ []) so
    ∙ (ap (λ y. map f (take i items) ++ y ∷ []) (gives ∙ ap f is) ∙ sym (map_more f items i x within)))
