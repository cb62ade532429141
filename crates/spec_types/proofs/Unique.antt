-- The ports, contracts and connections of a text are made again from what they mean, so a text has one typing.

use Rattle.std.proofs.Common.{◌≡◌, List, [], ◌∷◌, map, ap, sym, refl, ◌∙◌}
use Rattle.oss_syntax.specs.Trees.{Component}
use Rattle.spec_model.specs.Meanings.{contract_meaning, wire_meaning}
use Rattle.spec_model.proofs.MadeAgain.{contract_from, contract_again, wire_from, wire_again}
use Rattle.spec_types.specs.declared.components.TypedComponents.{TypedComponents}
use Rattle.spec_types.specs.TreeComponents.{AreTyped}

map_again : {A B : Type 0} (f : A → B) (g : B → A) → ((x : A) → g (f x) ≡ x) → (xs : List A) → map g (map f xs) ≡ xs
map_again f g again [] = refl
map_again f g again (x ∷ xs) = λ j. again x j ∷ map_again f g again xs j

-- lists of lists of one meaning are equal
lists_are : {A B : Type 0} (f : A → B) (g : B → A) → ((x : A) → g (f x) ≡ x) → (xs ys : List (List A))
    → map (map f) xs ≡ map (map f) ys → xs ≡ ys
lists_are f g again xs ys same =
    sym (map_again (map f) (map g) (map_again f g again) xs) ∙ (ap (map (map g)) same ∙ map_again (map f) (map g) (map_again f g again) ys)

pub typing_is_unique : (all : List Component) (a b : TypedComponents) → AreTyped all a → AreTyped all b → a ≡ b
typing_is_unique all a b h k =
    let contracts : a.contracts ≡ b.contracts =
    lists_are contract_meaning contract_from contract_again a.contracts b.contracts (h.contracts_are ∙ sym k.contracts_are) in
    let wires : a.wires ≡ b.wires = lists_are wire_meaning wire_from wire_again a.wires b.wires (h.wires_are ∙ sym k.wires_are) in
    λ j. record { ports = (h.ports_are ∙ sym k.ports_are) j; contracts = contracts j; wires = wires j }
