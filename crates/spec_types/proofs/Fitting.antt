-- Ports that are told by places, and pairs of ports that fit.

use Rattle.std.proofs.Common.{◌≡◌, ℕ, Bool, true, false, cond, List, [], ◌∷◌, ◌++◌, map, slice_get, Option, Some, None, option_map, option_and_then}
use Rattle.std.proofs.Common.{◌&&◌, nat_eq, IfSome, refl, sym, ap, subst, ◌∙◌}
use Rattle.std.proofs.lemmas.Bool.{and_parts, eqb-true}
use Rattle.std.specs.List.{All}
use Rattle.std.proofs.lemmas.List.Elements.{All-nil, All-get_or, All-push}
use Rattle.std.proofs.lemmas.Option.{none-some, same_Some, slice_get-map, slice_get_within, get_or_from_slice_get}
use Rattle.oss_base.specs.declared.ids.SubId.{SubId}
use Rattle.port_types.specs.declared.types.PortType.{PortType}
use Rattle.port_types.specs.declared.types.PortType.TheVariants as kind
use Rattle.spec_model.specs.declared.port.OwnPort.{OwnPort}
use Rattle.spec_model.specs.declared.wire.Target.{Target}
use Rattle.spec_model.specs.Architecture.{target}
use Rattle.oss_syntax.specs.declared.expression.PortWord.{PortWord}
use Rattle.oss_syntax.specs.declared.expression.PortWord.TheVariants as port_word
use Rattle.oss_syntax.specs.declared.refinement.TargetTree.{TargetTree}
use Rattle.oss_syntax.specs.declared.refinement.TargetTree.TheVariants as targets
use Rattle.oss_syntax.specs.Expressions.{Tree, Name, Dotted, Numeral, Truth, Brackets, OfPort, Prefix, Binary}
use Rattle.spec_names.specs.Tables.{entry_place}
use Rattle.spec_types.specs.declared.scope.PortScope.{PortScope}
use Rattle.spec_types.specs.declared.port_places.PortPlace.{PortPlace}
use Rattle.spec_types.specs.declared.known_fits.FittingPorts.{FittingPorts}
use Rattle.spec_types.specs.Typing.{Typed, port_as, read_name, of_wanted, typed_of}
use Rattle.spec_types.specs.TypeFaults.{admits_source}
use Rattle.spec_types.specs.TreeComponents.{free_number}
use Rattle.spec_types.specs.Walks.{Placed, Interface, interface, placed_at, find_port, Refinement, component_ports, PlacedInSub, placed_in}
use Rattle.spec_types.specs.Walks.{placed_in_sub, find_sub_port, same_direction, free_port_read, free_sub_port, connection_reading_by, directed_kind, kind_by}
use Rattle.spec_types.specs.Fitting.{kind_in_interface, kind_of_place, kind_in, admits_kind, AreFitting, IsFitting, is_same_port}
use Rattle.spec_types.specs.Fitting.{find_if_there, IsPortAt, IsPortRead}
use Rattle.spec_types.specs.Fitting.{placed_port, found_target, wants_input, found_under, found_source, reads_input}

-- what is kept

pub all_at : {X : Type 0} (P : X → Type 0) (xs : List X) (i : ℕ) (x : X) → slice_get xs i ≡ Some x → All P xs → P x
all_at P xs i x is all =
    subst P (get_or_from_slice_get xs i x x is) (All-get_or P xs i x (slice_get_within xs i x is) all)

pub record SamePorts (pair : FittingPorts) (wanted given : PortPlace) : Type 0 where
  pub wanted_component : pair.target.component ≡ wanted.component
  pub wanted_port : pair.target.port ≡ wanted.port
  pub given_component : pair.source.component ≡ given.component
  pub given_port : pair.source.port ≡ given.port

same_ports : (pair : FittingPorts) (wanted given : PortPlace)
    → (is_same_port pair.target wanted && is_same_port pair.source given) ≡ true → SamePorts pair wanted given
same_ports pair wanted given h =
    let both = and_parts (is_same_port pair.target wanted) (is_same_port pair.source given) h in
    let w = and_parts (nat_eq pair.target.component wanted.component) (nat_eq pair.target.port wanted.port) both.0 in
    let g = and_parts (nat_eq pair.source.component given.component) (nat_eq pair.source.port given.port) both.1 in
    record {
      wanted_component = eqb-true pair.target.component wanted.component w.0;
      wanted_port = eqb-true pair.target.port wanted.port w.1;
      given_component = eqb-true pair.source.component given.component g.0;
      given_port = eqb-true pair.source.port given.port g.1;
    }

pub same_fit : (scopes : List Interface) (pair : FittingPorts) (wanted given : PortPlace) → SamePorts pair wanted given
    → IsFitting scopes pair → AreFitting scopes wanted given
same_fit scopes pair wanted given same fit k l k_is l_is =
    fit k l ((λ j. kind_of_place scopes (same.wanted_component j) (same.wanted_port j)) ∙ k_is)
    ((λ j. kind_of_place scopes (same.given_component j) (same.given_port j)) ∙ l_is)

-- the pair that is kept at a place is this one
pub kept_fits : (scopes : List Interface) (kept : List FittingPorts) (place : ℕ) (pair : FittingPorts) (wanted given : PortPlace)
    → slice_get kept place ≡ Some pair → (is_same_port pair.target wanted && is_same_port pair.source given) ≡ true
    → All (IsFitting scopes) kept → AreFitting scopes wanted given
kept_fits scopes kept place pair wanted given is same all =
    same_fit scopes pair wanted given (same_ports pair wanted given same) (all_at (IsFitting scopes) kept place pair is all)

pub one_more_fits : (scopes : List Interface) (kept more : List FittingPorts) (pair : FittingPorts)
    → more ≡ kept ++ pair ∷ [] → All (IsFitting scopes) kept → IsFitting scopes pair → All (IsFitting scopes) more
one_more_fits scopes kept more pair put all fit =
    subst (All (IsFitting scopes)) (sym put) (All-push (IsFitting scopes) kept pair all fit)

-- a port that was found stands at its place

placed_by : (ports : List OwnPort) (place : ℕ) (o : Option OwnPort) (f : Placed) → slice_get ports place ≡ o
    → Some f ≡ option_map (λ (p : OwnPort). record { place = place; port = p }) o
    → slice_get ports f.place ≡ Some f.port
placed_by ports place None f is h = absurd (none-some f (sym h))
placed_by ports place (Some p) f is h =
    let same : f ≡ record { place = place; port = p } = same_Some f (record { place = place; port = p }) h in
    ap (λ (g : Placed). slice_get ports g.place) same ∙ (is ∙ ap (λ (g : Placed). Some g.port) (sym same))

found_by : (i : Interface) (o : Option ℕ) (f : Placed) → Some f ≡ option_and_then (placed_at i.ports) o
    → slice_get i.ports f.place ≡ Some f.port
found_by i None f h = absurd (none-some f (sym h))
found_by i (Some place) f h = placed_by i.ports place (slice_get i.ports place) f refl h

pub record IsFound (scopes : List PortScope) (component : ℕ) (ports : PortScope) (text : List ℕ)
    (input : Bool) (f : Placed) : Type 0 where
  pub ports_are : slice_get scopes component ≡ Some ports
  pub found_is : Some f ≡ find_port (interface ports) text
  pub directed : same_direction f.port.input input ≡ true

pub port_at : (scopes : List PortScope) (component : ℕ) (ports : PortScope) (text : List ℕ) (input : Bool) (f : Placed)
    (type_number : ℕ) → IsFound scopes component ports text input f
    → IsPortAt (map interface scopes) (record { component = component; port = f.place; type_number = type_number }) input
    (find_if_there (slice_get (map interface scopes) component) text)
port_at scopes component ports text input f type_number is =
    let there : slice_get (map interface scopes) component ≡ Some (interface ports) =
    slice_get-map interface scopes component ∙ ap (option_map interface) is.ports_are in
    record {
      placed = f;
      placed_is = ap (option_and_then (λ (i : Interface). find_port i text)) there ∙ sym is.found_is;
      directed = is.directed;
      kind_is = ap (option_and_then (kind_in_interface f.place)) there
          ∙ ap (option_map (λ (p : OwnPort). p.kind)) (found_by (interface ports) (entry_place (interface ports).table text) f is.found_is);
    }

-- the same told by another look-up
pub port_at_by : (scopes : List Interface) (input : Bool) (found : Option PortPlace) (o q : Option Placed) → o ≡ q
    → IfSome found (λ place. IsPortAt scopes place input o) → IfSome found (λ place. IsPortAt scopes place input q)
port_at_by scopes input found o q same is = subst (λ p. IfSome found (λ place. IsPortAt scopes place input p)) same is

pub found_own : (scopes : List Interface) (place : ℕ) (own : Interface) (text : List ℕ) → slice_get scopes place ≡ Some own
    → find_if_there (slice_get scopes place) text ≡ find_port own text
found_own scopes place own text is = ap (option_and_then (λ (i : Interface). find_port i text)) is

placed_back : (sub : ℕ) (o : Option Placed)
    → option_map placed_port (option_map (λ (p : Placed). record { sub = sub; placed = p }) o) ≡ o
placed_back sub None = refl
placed_back sub (Some p) = refl

in_interface : (sub : ℕ) (text : List ℕ) (o : Option Interface)
    → find_if_there o text ≡ option_map placed_port (option_and_then (placed_in text sub) o)
in_interface sub text None = refl
in_interface sub text (Some i) = sym (placed_back sub (find_port i text))

pub found_in_sub : (r : Refinement) (sub : ℕ) (component : Option ℕ) (text : List ℕ)
    → slice_get r.components sub ≡ Some component
    → find_if_there (component_ports r.scopes component) text ≡ option_map placed_port (placed_in_sub r text sub)
found_in_sub r sub component text is =
    in_interface sub text (component_ports r.scopes component)
    ∙ ap (λ o. option_map placed_port (option_and_then (placed_in text sub) (option_and_then (component_ports r.scopes) o))) (sym is)

pub found_sub_port : (r : Refinement) (sub port : List ℕ) (place : ℕ) → entry_place r.subs sub ≡ Some place
    → option_map placed_port (placed_in_sub r port place) ≡ option_map placed_port (find_sub_port r sub port)
found_sub_port r sub port place is = ap (λ o. option_map placed_port (option_and_then (placed_in_sub r port) o)) (sym is)

-- the type of a target

kind_found : (t : TargetTree) (r : Refinement) → kind_by r t ≡ directed_kind (wants_input t) (found_target r t)
kind_found (targets.Own port) r = refl
kind_found (targets.OfSub sub port) r = refl

pub kind_wanted : (scopes : List Interface) (place : PortPlace) (t : TargetTree) (r : Refinement)
    → IsPortAt scopes place (wants_input t) (found_target r t) → kind_in scopes place ≡ Some (kind_by r t)
kind_wanted scopes place t r is =
    is.kind_is
    ∙ ap Some (sym (kind_found t r ∙ (ap (directed_kind (wants_input t)) is.placed_is ∙ ap (λ b. cond b is.placed.port.kind kind.Bool) is.directed)))

-- what a source reads

read_by : (scopes : List Interface) (place : PortPlace) (order : List Target) (sub : Option SubId) (input : Bool)
    (o : Option Placed) → (is : IsPortAt scopes place input o)
    → free_port_read order sub input o
    ≡ Some (record { number = free_number order (target sub is.placed.place); kind = is.placed.port.kind })
read_by scopes place order sub input o is =
    ap (free_port_read order sub input) is.placed_is
    ∙ ap (λ b. cond b (Some (record { number = free_number order (target sub is.placed.place); kind = is.placed.port.kind })) None) is.directed

name_read : (scopes : List Interface) (place : PortPlace) (order : List Target) (sub : Option SubId) (input : Bool)
    (o : Option Placed) (text : List ℕ) → IsPortAt scopes place input o
    → IsPortRead scopes place (read_name text (free_port_read order sub input o))
name_read scopes place order sub input o text is = record {
  number = free_number order (target sub is.placed.place);
  next = false;
  kind = is.placed.port.kind;
  read_is = ap (read_name text) (read_by scopes place order sub input o is);
  kind_is = is.kind_is;
}

dotted_read : (scopes : List Interface) (place : PortPlace) (order : List Target) (o : Option PlacedInSub) (text : List ℕ)
    → IsPortAt scopes place false (option_map placed_port o)
    → IsPortRead scopes place (read_name text (free_sub_port order o))
dotted_read scopes place order None text is = absurd (none-some is.placed is.placed_is)
dotted_read scopes place order (Some f) text is =
    name_read scopes place order (Some (record { 0 = f.sub })) false (Some f.placed) text is

word_read : (scopes : List Interface) (place : PortPlace) (order : List Target) (word : PortWord) (o : Option Placed)
    → IsPortAt scopes place true (found_under word o)
    → IsPortRead scopes place (of_wanted word (free_port_read order None true o))
word_read scopes place order port_word.Next o is = record {
  number = free_number order (target None is.placed.place);
  next = true;
  kind = is.placed.port.kind;
  read_is = ap (of_wanted port_word.Next) (read_by scopes place order None true o is);
  kind_is = is.kind_is;
}
word_read scopes place order port_word.Change o is = absurd (none-some is.placed is.placed_is)
word_read scopes place order port_word.Rise o is = absurd (none-some is.placed is.placed_is)
word_read scopes place order port_word.Fall o is = absurd (none-some is.placed is.placed_is)

pub source_read : (scopes : List Interface) (place : PortPlace) (r : Refinement) (order : List Target) (e : Tree)
    → IsPortAt scopes place (reads_input e) (found_source r e)
    → IsPortRead scopes place (typed_of (connection_reading_by r order) e)
source_read scopes place r order (Name name) is = name_read scopes place order None true (find_port r.own name.text) name.text is
source_read scopes place r order (Dotted sub port) is =
    dotted_read scopes place order (find_sub_port r sub.text port.text) port.text is
source_read scopes place r order (Numeral value span) is = absurd (none-some is.placed is.placed_is)
source_read scopes place r order (Truth value span) is = absurd (none-some is.placed is.placed_is)
source_read scopes place r order (Brackets inside span) is = source_read scopes place r order inside is
source_read scopes place r order (OfPort word port span) is = word_read scopes place order word (find_port r.own port.text) is
source_read scopes place r order (Prefix word operand span) is = absurd (none-some is.placed is.placed_is)
source_read scopes place r order (Binary word left right span) is = absurd (none-some is.placed is.placed_is)

-- what a connection knows of its source
pub typed_read : (r : Refinement) (order : List Target) (e : Tree) (t : Typed) (found : Option PortPlace)
    → t ≡ typed_of (connection_reading_by r order) e
    → IfSome found (λ place. IsPortAt r.scopes place (reads_input e) (found_source r e))
    → IfSome found (λ place. IsPortRead r.scopes place t)
typed_read r order e t None is at = tt
typed_read r order e t (Some place) is at = subst (IsPortRead r.scopes place) (sym is) (source_read r.scopes place r order e at)

-- whether a port fits another does not depend on its number

any_number : (wanted given : PortType) (number : ℕ) (next : Bool)
    → admits_source wanted (port_as number next given) ≡ admits_kind wanted given
any_number kind.Bool kind.Bool number next = refl
any_number kind.Bool (kind.Range lo hi) number next = refl
any_number kind.Bool (kind.Enum names) number next = refl
any_number (kind.Range lo hi) kind.Bool number next = refl
any_number (kind.Range lo hi) (kind.Range low high) number next = refl
any_number (kind.Range lo hi) (kind.Enum names) number next = refl
any_number (kind.Enum names) kind.Bool number next = refl
any_number (kind.Enum names) (kind.Range lo hi) number next = refl
any_number (kind.Enum names) (kind.Enum others) number next = refl

read_fits : (scopes : List Interface) (place : PortPlace) (wanted : PortType) (e : Typed) → (is : IsPortRead scopes place e)
    → admits_source wanted e ≡ admits_kind wanted is.kind
read_fits scopes place wanted e is = ap (admits_source wanted) is.read_is ∙ any_number wanted is.kind is.number is.next

-- a pair that is kept fits
pub known_fits : (scopes : List Interface) (place given : PortPlace) (t : TargetTree) (r : Refinement) (e : Typed)
    → IsPortAt scopes place (wants_input t) (found_target r t) → IsPortRead scopes given e
    → AreFitting scopes place given → true ≡ admits_source (kind_by r t) e
known_fits scopes place given t r e at read fit =
    sym (read_fits scopes given (kind_by r t) e read ∙ fit (kind_by r t) read.kind (kind_wanted scopes place t r at) read.kind_is)

-- a pair that was found to fit does
pub fits_now : (scopes : List Interface) (place given : PortPlace) (t : TargetTree) (r : Refinement) (e : Typed)
    → IsPortAt scopes place (wants_input t) (found_target r t) → IsPortRead scopes given e
    → admits_source (kind_by r t) e ≡ true → AreFitting scopes place given
fits_now scopes place given t r e at read fit k l k_is l_is =
    let wanted : k ≡ kind_by r t = same_Some k (kind_by r t) (sym k_is ∙ kind_wanted scopes place t r at) in
    let reads : l ≡ read.kind = same_Some l read.kind (sym l_is ∙ read.kind_is) in
    (λ j. admits_kind (wanted j) (reads j)) ∙ (sym (read_fits scopes given (kind_by r t) e read) ∙ fit)

pub none_fit : (scopes : List Interface) (kept : List FittingPorts) → kept ≡ [] → All (IsFitting scopes) kept
none_fit scopes kept is = subst (All (IsFitting scopes)) (sym is) (All-nil (IsFitting scopes))
