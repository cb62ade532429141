-- Lists that are made item by item.
use Rattle.std.proofs.Common.{◌≡◌, ℕ, ◌+◌, ◌<◌, ◌≤◌, List, [], ◌∷◌, ◌++◌, length, get_or, take, drop, map, filter_map, Option, Some, None, sym, ap}
use Rattle.std.proofs.Common.{◌∙◌, append_assoc}
use Rattle.std.proofs.lemmas.List.{at_drop_more, at_drop_all, append-nil, map_more}
use Rattle.std.proofs.Math.ListN.{drop_of_length-le}
use Rattle.std.specs.List.{cons_option}
use Rattle.oss_syntax.specs.Trees.{component_tree}
use Rattle.oss_syntax.specs.declared.component.TreeComponent.{TreeComponent}
use Rattle.spec_model.specs.declared.item.Item.{Item}
use Rattle.spec_names.proofs.Lists.{drop_here}
use Rattle.spec_names.specs.Scopes.{refinement_parts}
use Rattle.spec_names.specs.declared.directory.Directory.{Directory}
use Rattle.architecture.specs.Assembling.{item_by, items_by}

-- What `f` gives of each item is put after what was there: what is put, and what is still to come, are all.
pub record Put {X A : Type 0} (f : X → Option A) (items : List X) (first made : List A) (i : ℕ) : Type 0 where
  pub joined : made ++ filter_map f (drop i items) ≡ first ++ filter_map f items

put_one : {A : Type 0} (o : Option A) (made rest : List A) → (made ++ cons_option o []) ++ rest ≡ made
    ++ cons_option o rest
put_one None made rest = ap (λ list. list ++ rest) (append-nil made)
put_one (Some a) made rest = append_assoc made (a ∷ []) rest

pub put_more : {X A : Type 0} (f : X → Option A) (items : List X) (first made more : List A) (i : ℕ) (x : X)
    → i < length items → x ≡ get_or items i x → more ≡ made ++ cons_option (f x) [] → Put f items first made i
    → Put f items first more (i + 1)
put_more f items first made more i x within is put so = record {
  joined = ap (λ list. list ++ filter_map f (drop (i + 1) items)) put
      ∙ put_one (f x) made (filter_map f (drop (i + 1) items))
      ∙ ap (λ list. made ++ list) (sym (at_drop_more (filter_map f) items i x within
      ∙ ap (λ y. cons_option (f y) (filter_map f (drop (i + 1) items))) (sym is)))
      ∙ so.joined;
}

pub put_all : {X A : Type 0} (f : X → Option A) (items : List X) (first made : List A) (i : ℕ)
    → length items ≤ i → Put f items first made i → made ≡ first ++ filter_map f items
put_all f items first made i past so =
    sym (append-nil made) ∙ ap (λ rest. made ++ rest) (sym (at_drop_all (filter_map f) items i past)) ∙ so.joined

-- the same where each item gives one
pub mapped_more : {X A : Type 0} (f : X → A) (items : List X) (made more : List A) (i : ℕ) (x : X) (a : A)
    → i < length items → x ≡ get_or items i x → a ≡ f x → more ≡ made ++ a ∷ [] → made ≡ map f (take i items)
    → more ≡ map f (take (i + 1) items)
mapped_more f items made more i x a within is gives put so =
    put
    ∙ (ap (λ list. list ++ a ∷ []) so
    ∙ (ap (λ y. map f (take i items) ++ y ∷ []) (gives ∙ ap f is) ∙ sym (map_more f items i x within)))

-- the refined contracts of one more component
module _ (bytes : List ℕ) (d : Directory) (cs : List TreeComponent) where
  pub items_more : (i : ℕ) (c : TreeComponent) (made more : List Item) → i < length cs → c ≡ get_or cs i c
      → more ≡ made ++ filter_map (item_by bytes d i) (refinement_parts (component_tree c))
      → made ++ items_by bytes d i (drop i cs) ≡ items_by bytes d 0 cs
      → more ++ items_by bytes d (i + 1) (drop (i + 1) cs) ≡ items_by bytes d 0 cs
  items_more i c made more within is put so =
      ap (λ list. list ++ items_by bytes d (i + 1) (drop (i + 1) cs)) put
      ∙ (append_assoc made (filter_map (item_by bytes d i) (refinement_parts (component_tree c))) (items_by bytes d (i + 1) (drop (i + 1) cs))
      ∙ (ap (λ list. made ++ items_by bytes d i list) (sym (drop_here cs i c within is)) ∙ so))

  pub items_all : (i : ℕ) (made : List Item) → length cs ≤ i
      → made ++ items_by bytes d i (drop i cs) ≡ items_by bytes d 0 cs → made ≡ items_by bytes d 0 cs
  items_all i made past so =
      sym (append-nil made) ∙ (ap (λ list. made ++ items_by bytes d i list) (sym (drop_of_length-le cs past)) ∙ so)
