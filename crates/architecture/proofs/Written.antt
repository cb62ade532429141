-- The expressions of connections in a text have no temporal words.
use Rattle.std.proofs.Common.{List, [], ◌∷◌, Option, Some, None}
use Rattle.std.specs.Prelude.{All}
use Rattle.std.specs.Option.{option_map_or}
use Rattle.oss_syntax.specs.Alphabet.{Terminal}
use Rattle.oss_syntax.specs.Expressions.{Tree, Name, Dotted, Numeral, Truth, Brackets, OfPort, Prefix, Binary}
use Rattle.oss_syntax.specs.Formulas.{Spells}
use Rattle.oss_syntax.specs.Items.{IsRefinementItem}
use Rattle.oss_syntax.specs.Steps.{Many}
use Rattle.oss_syntax.specs.Texts.{IsRefinement, IsComponent, IsText}
use Rattle.oss_syntax.specs.Trees.{RefinementItemTree, Sub, Connection, Refined, Component}
use Rattle.oss_syntax.specs.declared.expression.Role.TheVariants as roles
use Rattle.spec_names.specs.Scopes.{refinement_parts}
use Rattle.architecture.specs.StateSources.{IsStateTree, HasStateSource, HasStateSources}
use Rattle.architecture.proofs.Listing.{Each, all_of_each}

state_spelt : (ts : List Terminal) (e : Tree) (rest : List Terminal) → Spells roles.State ts e rest → IsStateTree e
state_spelt ts (Name word) rest h = tt
state_spelt ts (Dotted sub port) rest h = tt
state_spelt ts (Numeral value span) rest h = tt
state_spelt ts (Truth value span) rest h = tt
state_spelt ts (Brackets inside span) rest h = state_spelt h.1 inside _ h.3
state_spelt ts (OfPort word port span) rest h = cc
state_spelt ts (Prefix word operand span) rest h = (h.0, state_spelt h.2 operand rest h.4)
state_spelt ts (Binary word left right span) rest h = (h.0, state_spelt ts left _ h.4, state_spelt h.3 right rest h.5)

item_source : (ts : List Terminal) (p : RefinementItemTree) (rest : List Terminal) → IsRefinementItem ts p rest
    → HasStateSource p
item_source ts (Sub name component) rest h = tt
item_source ts (Connection target source) rest h = state_spelt _ source _ h.next.next.holds.1
item_source ts (Refined name listed) rest h = tt

item_sources : (ts : List Terminal) (parts : List RefinementItemTree) (rest : List Terminal)
    → Many IsRefinementItem ts parts rest
    → Each HasStateSource parts
item_sources ts [] rest h = tt
item_sources ts (p ∷ parts) rest h = (item_source ts p h.0 h.1, item_sources h.0 parts rest h.2)

part_sources : (ts : List Terminal) (o : Option (List RefinementItemTree)) (rest : List Terminal)
    → IsRefinement ts o rest
    → Each HasStateSource (option_map_or (λ (parts : List RefinementItemTree). parts) o [])
part_sources ts None rest h = tt
part_sources ts (Some parts) rest h = item_sources h.left parts h.next.left h.next.holds

component_sources : (ts : List Terminal) (c : Component) (rest : List Terminal) → IsComponent ts c rest
    → All HasStateSource (refinement_parts c)
component_sources ts c rest h =
    let refinement = h.next.next.next.next.next in
    all_of_each HasStateSource (refinement_parts c) (part_sources h.next.next.next.next.left c.refinement refinement.left refinement.holds)

all_sources : (ts : List Terminal) (all : List Component) (rest : List Terminal) → Many IsComponent ts all rest
    → Each (λ (c : Component). All HasStateSource (refinement_parts c)) all
all_sources ts [] rest h = tt
all_sources ts (c ∷ all) rest h = (component_sources ts c h.0 h.1, all_sources h.0 all rest h.2)

pub text_sources : (ts : List Terminal) (all : List Component) → IsText ts all → HasStateSources all
text_sources ts all h = all_of_each (λ (c : Component). All HasStateSource (refinement_parts c)) all (all_sources h.0 all [] h.2)
