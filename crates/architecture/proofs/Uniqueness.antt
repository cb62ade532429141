-- A specification is made again from what it means, so a tree of a text stands for one alone.
use Rattle.std.proofs.Common.{◌≡◌, ℕ, List, [], ◌∷◌, map, refl, sym, ap, ◌∙◌}
use Rattle.std.proofs.lemmas.Option.{same_Some}
use Rattle.oss_syntax.specs.Trees as trees
use Rattle.spec_model.specs.declared.spec.Spec.{Spec}
use Rattle.spec_model.specs.declared.spec.Component.{Component}
use Rattle.spec_model.specs.Meanings.{contract_meaning, wire_meaning}
use Rattle.spec_model.proofs.MadeAgain.{contract_from, contract_again, wire_from, wire_again}
use Rattle.architecture.specs.Standing.{ComponentMeaning, component_meaning, Stands}

all_again : {A B : Type 0} (f : A → B) (g : B → A) → ((x : A) → g (f x) ≡ x) → (xs : List A) → map g (map f xs) ≡ xs
all_again f g again [] = refl
all_again f g again (x ∷ xs) = λ j. again x j ∷ all_again f g again xs j

abbrev component_from : ComponentMeaning → Component
component_from m = record {
  name = m.name;
  ports = m.ports;
  contracts = map contract_from m.contracts;
  subs = m.subs;
  wires = map wire_from m.wires;
}

component_again : (c : Component) → component_from (component_meaning c) ≡ c
component_again c = λ j. record {
  name = c.name;
  ports = c.ports;
  contracts = all_again contract_meaning contract_from contract_again c.contracts j;
  subs = c.subs;
  wires = all_again wire_meaning wire_from wire_again c.wires j;
}

pub stands_once : (bytes : List ℕ) (all : List trees.Component) (a b : Spec) → Stands bytes all a → Stands bytes all b
    → a ≡ b
stands_once bytes all a b h k =
    let components : a.components ≡ b.components =
    sym (all_again component_meaning component_from component_again a.components)
    ∙ (ap (map component_from) (h.components ∙ sym k.components)
    ∙ all_again component_meaning component_from component_again b.components) in
    let items : a.items ≡ b.items = h.items ∙ sym k.items in
    let system : a.system.0 ≡ b.system.0 = same_Some a.system.0 b.system.0 (sym h.system ∙ k.system) in
    λ j. record { components = components j; items = items j; system = record { 0 = system j } }
