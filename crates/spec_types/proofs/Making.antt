-- Lists that are made of what each item of another gives, and notes that each item makes.

use Rattle.std.proofs.Common.{◌≡◌, ℕ, ◌+◌, ◌<◌, ◌≤◌, List, [], ◌∷◌, ◌++◌, length, get_or, take, drop, map, filter_map, option_map, Option, Some, None, refl}
use Rattle.std.proofs.Common.{sym, ap, ◌∙◌, append_assoc}
use Rattle.std.proofs.lemmas.List.{at_drop_more, at_drop_all, append-nil, map_more}
use Rattle.std.specs.List.{cons_option, flat_map}
use Rattle.oss_base.specs.declared.sites.FaultSite.{FaultSite}
use Rattle.spec_names.specs.Noting.{noted}
use Rattle.std.proofs.lemmas.List.{map-append}
use Rattle.oss_syntax.specs.declared.interface.InterfaceItem.{InterfaceItem}
use Rattle.oss_syntax.specs.declared.interface.InterfaceItem.TheVariants as interface
use Rattle.oss_syntax.specs.Trees.{item_tree}
use Rattle.spec_types.specs.TreeComponents.{typed_port, own_ports, range_faults, range_faults_in}
use Rattle.spec_types.specs.Making.{port_in, range_faults_at}
use Rattle.spec_types.proofs.Walking.{noted-append}

-- Lists that are built of what `f` gives of each item, in turn: what is built, and what is still to
-- come, are all.
pub record Built {X A : Type 0} (f : X → Option A) (items : List X) (made : List A) (i : ℕ) : Type 0 where
  pub joined : made ++ filter_map f (drop i items) ≡ filter_map f items

pub built_start : {X A : Type 0} (f : X → Option A) (items : List X) → Built f items [] 0
built_start f items = record { joined = refl }

put_option : {A : Type 0} (o : Option A) (made rest : List A)
    → (made ++ cons_option o []) ++ rest ≡ made ++ cons_option o rest
put_option None made rest = ap (λ list. list ++ rest) (append-nil made)
put_option (Some a) made rest = append_assoc made (a ∷ []) rest

pub built_more : {X A : Type 0} (f : X → Option A) (items : List X) (made more : List A) (i : ℕ) (x : X)
    → i < length items → x ≡ get_or items i x → more ≡ made ++ cons_option (f x) [] → Built f items made i
    → Built f items more (i + 1)
built_more f items made more i x within is put built = record {
  joined = ap (λ list. list ++ filter_map f (drop (i + 1) items)) put
      ∙ put_option (f x) made (filter_map f (drop (i + 1) items))
      ∙ ap (λ list. made ++ list) (sym (at_drop_more (filter_map f) items i x within
      ∙ ap (λ y. cons_option (f y) (filter_map f (drop (i + 1) items))) (sym is)))
      ∙ built.joined;
}

pub built_all : {X A : Type 0} (f : X → Option A) (items : List X) (made : List A) (i : ℕ)
    → length items ≤ i → Built f items made i → made ≡ filter_map f items
built_all f items made i past built =
    sym (append-nil made) ∙ ap (λ rest. made ++ rest) (sym (at_drop_all (filter_map f) items i past)) ∙ built.joined

-- the same where each item gives one
pub mapped_more : {X A : Type 0} (f : X → A) (items : List X) (made more : List A) (i : ℕ) (x : X) (a : A)
    → i < length items → x ≡ get_or items i x → a ≡ f x → more ≡ made ++ a ∷ [] → made ≡ map f (take i items)
    → more ≡ map f (take (i + 1) items)
mapped_more f items made more i x a within is gives put so =
    put
    ∙ (ap (λ list. list ++ a ∷ []) so
    ∙ (ap (λ y. map f (take i items) ++ y ∷ []) (gives ∙ ap f is) ∙ sym (map_more f items i x within)))

-- what each item notes, in turn: what is noted and what is still to come is all
pub record Noted {X : Type 0} (f : X → List FaultSite) (items : List X) (before now : Option FaultSite)
    (i : ℕ) : Type 0 where
  pub all : noted (flat_map f (drop i items)) now ≡ noted (flat_map f items) before

pub noted_start : {X : Type 0} (f : X → List FaultSite) (items : List X) (before : Option FaultSite)
    → Noted f items before before 0
noted_start f items before = record { all = refl }

pub noted_more : {X : Type 0} (f : X → List FaultSite) (items : List X) (before now next : Option FaultSite) (i : ℕ)
    (x : X)
    → i < length items → x ≡ get_or items i x → next ≡ noted (f x) now → Noted f items before now i
    → Noted f items before next (i + 1)
noted_more f items before now next i x within is notes so = record {
  all = ap (noted (flat_map f (drop (i + 1) items))) notes
      ∙ (sym (noted-append (f x) (flat_map f (drop (i + 1) items)) now)
      ∙ (ap (λ list. noted list now) (sym (at_drop_more (flat_map f) items i x within ∙ ap (λ y. f y ++ flat_map f (drop (i + 1) items)) (sym is)))
      ∙ so.all));
}

pub noted_all : {X : Type 0} (f : X → List FaultSite) (items : List X) (before now : Option FaultSite) (i : ℕ)
    → length items ≤ i → Noted f items before now i → now ≡ noted (flat_map f items) before
noted_all f items before now i past so = ap (λ list. noted list now) (sym (at_drop_all (flat_map f) items i past)) ∙ so.all

-- lists over lists

pub filter_map-map : {X Y Z : Type 0} (f : Y → Option Z) (g : X → Y) (xs : List X)
    → filter_map f (map g xs) ≡ filter_map (λ x. f (g x)) xs
filter_map-map f g [] = refl
filter_map-map f g (x ∷ xs) = ap (cons_option (f (g x))) (filter_map-map f g xs)

mapped_option : {Y Z : Type 0} (f : Y → Z) (o : Option Y) (ys : List Y) (zs : List Z) → map f ys ≡ zs
    → map f (cons_option o ys)
    ≡ cons_option (option_map f o) zs
mapped_option f None ys zs e = e
mapped_option f (Some y) ys zs e = ap (λ list. f y ∷ list) e

pub map-filter_map : {X Y Z : Type 0} (f : Y → Z) (g : X → Option Y) (xs : List X)
    → map f (filter_map g xs) ≡ filter_map (λ x. option_map f (g x)) xs
map-filter_map f g [] = refl
map-filter_map f g (x ∷ xs) = mapped_option f (g x) (filter_map g xs) _ (map-filter_map f g xs)

pub flat_map-map : {X Y Z : Type 0} (f : Y → List Z) (g : X → Y) (xs : List X)
    → flat_map f (map g xs) ≡ flat_map (λ x. f (g x)) xs
flat_map-map f g [] = refl
flat_map-map f g (x ∷ xs) = ap (λ list. f (g x) ++ list) (flat_map-map f g xs)

-- one more, by what it means
pub put_meaning : {A B : Type 0} (f : A → B) (old new : List A) (a : A) (o : Option B) → new ≡ old ++ a ∷ []
    → Some (f a) ≡ o
    → map f new ≡ map f old ++ cons_option o []
put_meaning f old new a o put is = ap (map f) put ∙ (map-append f old (a ∷ []) ∙ ap (λ p. map f old ++ cons_option p []) is)

-- the ports of an interface and their empty ranges

ports_step : (item : InterfaceItem) (items : List InterfaceItem)
    → filter_map port_in items ≡ own_ports (map item_tree items)
    → filter_map port_in (item ∷ items) ≡ own_ports (map item_tree (item ∷ items))
ports_step (interface.Port input name kind) items e = ap (λ list. typed_port (record { input = input; name = name; kind = kind }) ∷ list) e
ports_step (interface.Contract name assume guarantee) items e = e

pub own_ports_are : (items : List InterfaceItem) → filter_map port_in items ≡ own_ports (map item_tree items)
own_ports_are [] = refl
own_ports_are (item ∷ items) = ports_step item items (own_ports_are items)

ranges_step : (item : InterfaceItem) (items : List InterfaceItem)
    → flat_map range_faults_at items ≡ range_faults_in (map item_tree items)
    → flat_map range_faults_at (item ∷ items) ≡ range_faults_in (map item_tree (item ∷ items))
ranges_step (interface.Port input name kind) items e = ap (λ list. range_faults kind ++ list) e
ranges_step (interface.Contract name assume guarantee) items e = e

pub ranges_are : (items : List InterfaceItem) → flat_map range_faults_at items ≡ range_faults_in (map item_tree items)
ranges_are [] = refl
ranges_are (item ∷ items) = ranges_step item items (ranges_are items)
