-- The names of what a text without a fault stands for can stand in a lasso file, so that its lassos are read back.
use Rattle.std.proofs.Common.{◌≡◌, ◌≢◌, ℕ, ◌<◌, List, [], ◌++◌, length, slice_get, get_or, Option, Some, None, option_map, refl, sym, ap, subst, ◌∙◌, arith}
use Rattle.std.specs.Prelude.{AllPairs, codes}
use Rattle.std.specs.Option.{option_map_or}
use Rattle.std.proofs.lemmas.List.{length-map, get_or-map}
use Rattle.std.proofs.lemmas.List.Elements.{All-map}
use Rattle.std.proofs.lemmas.Option.{none-some, slice_get-get_or}
use Rattle.oss_base.specs.declared.ids.ComponentId.{ComponentId}
use Rattle.oss_base.specs.declared.ids.SubId.{SubId}
use Rattle.port_types.specs.declared.types.PortType.TheVariants as kind
use Rattle.oss_printer.proofs.Fits.{IsName}
use Rattle.spec_model.specs.Architecture.{ports_of, subs_of, ports_at, target, free_targets}
use Rattle.spec_model.specs.declared.port.OwnPort.{OwnPort}
use Rattle.spec_model.specs.declared.spec.Component as model
use Rattle.spec_model.specs.declared.spec.Spec.{Spec}
use Rattle.spec_model.specs.declared.sub.Sub.{Sub}
use Rattle.spec_model.specs.declared.wire.Target.{Target}
use Rattle.architecture.proofs.Listing.{each_at, each_more, all_of_each}
use Rattle.replay.specs.FreePortNames.{port_prefix, port_text, free_names}
use Rattle.spec_model.specs.FreeTypes.{type_of_target}
use Rattle.replay.specs.Laws.{IsFileName, HasFileValues, HasFileNames, BlocksReadBack}
use Rattle.file_lassos.specs.Laws.{ResolvedHasFileNames, BlocksOfFilesReadBack}
use Rattle.file_lassos.proofs.Once.{one_place, first_place}
use Rattle.file_lassos.proofs.Plain.{IsPlainPort, IsPlainSub, HasPlainNames, plain_names, plain_ports_at}
use Rattle.file_lassos.proofs.Targets.{HasPort, free_ports_there, free_ports_differ}
use Rattle.file_lassos.proofs.Words.{AreWordBytes, file_name, dotted_name, no_dot, cut_at_dot}

same_parts : (a b : Option SubId) (m n : ℕ) → a ≡ b → m ≡ n → target a m ≡ target b n
same_parts a b m n e f = cc

module _ (made : Spec) (known : HasPlainNames made) (c : ComponentId) where
  plain_at : (s : Option SubId) (k : ℕ) (port : OwnPort) → slice_get (ports_at made c s) k ≡ Some port → IsPlainPort port
  plain_at s k port here = each_at IsPlainPort (ports_at made c s) (plain_ports_at made known c s).plain k port here

  -- a subcomponent that has a port is there
  sub_there : (s : SubId) (k : ℕ) (port : OwnPort) → slice_get (ports_at made c (Some s)) k ≡ Some port
      → (sub : Sub) × (slice_get (subs_of made c) s.0 ≡ Some sub)
  sub_there s k port e = by (slice_get (subs_of made c) s.0) refl e
    where
      by : (o : Option Sub) → slice_get (subs_of made c) s.0 ≡ o
          → slice_get (option_map_or (ports_of made) (option_map (λ (sub : Sub). sub.component) o) []) k ≡ Some port
          → (sub : Sub) × (slice_get (subs_of made c) s.0 ≡ Some sub)
      by None here e = absurd (none-some port e)
      by (Some sub) here e = (sub, here)

  -- the name before the dot
  abbrev front : SubId → List ℕ
  front s = option_map_or (λ (sub : Sub). sub.name) (slice_get (subs_of made c) s.0) []

  sub_name : (s : SubId) (sub : Sub) → slice_get (subs_of made c) s.0 ≡ Some sub
      → port_prefix made c (Some s) ≡ sub.name ++ codes "."
  sub_name s sub here = ap (λ (o : Option Sub). option_map_or (λ (k : Sub). k.name) o [] ++ codes ".") here

  sub_plain : (s : SubId) (sub : Sub) → slice_get (subs_of made c) s.0 ≡ Some sub → IsName sub.name
  sub_plain s sub here = each_at IsPlainSub (subs_of made c) (known.subs c).plain s.0 sub here

  -- the name of a port as it is printed can stand in a lasso file
  printed : (s : Option SubId) (k : ℕ) (port : OwnPort) → slice_get (ports_at made c s) k ≡ Some port
      → IsFileName (port_prefix made c s ++ port.name)
  printed None k port here = file_name port.name (plain_at None k port here).0
  printed (Some s) k port here =
      let sub = sub_there s k port here in
      subst (λ (text : List ℕ). IsFileName (text ++ port.name)) (sym (sub_name s sub.0 sub.1))
      (dotted_name sub.0.name port.name (sub_plain s sub.0 sub.1) (plain_at (Some s) k port here).0)

  -- one printed name is that of one port
  one_port : (s r : Option SubId) (m n : ℕ) (p q : OwnPort) → slice_get (ports_at made c s) m ≡ Some p
      → slice_get (ports_at made c r) n ≡ Some q → port_prefix made c s ++ p.name ≡ port_prefix made c r ++ q.name
      → (s ≡ r) × (m ≡ n)
  one_port None None m n p q here there e =
      (refl, one_place (λ (port : OwnPort). port.name) (ports_of made c) (known.ports c).once m n p q here there e)
  one_port None (Some r) m n p q here there e =
      absurd (no_dot (front r) q.name (subst AreWordBytes e (plain_at None m p here).0.bytes))
  one_port (Some s) None m n p q here there e =
      absurd (no_dot (front s) p.name (subst AreWordBytes (sym e) (plain_at None n q there).0.bytes))
  one_port (Some s) (Some r) m n p q here there e =
      let x = sub_there s m p here in
      let y = sub_there r n q there in
      let cut = cut_at_dot x.0.name y.0.name p.name q.name (sub_plain s x.0 x.1).bytes (sub_plain r y.0 y.1).bytes
      (ap (λ (text : List ℕ). text ++ p.name) (sym (sub_name s x.0 x.1)) ∙ (e ∙ ap (λ (text : List ℕ). text ++ q.name) (sub_name r y.0 y.1))) in
      let number : s.0 ≡ r.0 = one_place (λ (sub : Sub). sub.name) (subs_of made c) (known.subs c).once s.0 r.0 x.0 y.0 x.1 y.1 cut.0 in
      let same : Some s ≡ Some r = ap (λ (k : ℕ). Some (record { 0 = k })) number in (
        same,
        one_place (λ (port : OwnPort). port.name) (ports_at made c (Some s)) (plain_ports_at made known c (Some s)).once m n p q here
            (subst (λ (o : Option SubId). slice_get (ports_at made c o) n ≡ Some q) (sym same) there) cut.1,
      )

  -- free ports

  free_name : (t : Target) → HasPort made c t → IsFileName (port_text made c t)
  free_name t port =
      subst (λ (o : Option OwnPort). IsFileName (port_prefix made c t.sub ++ option_map_or (λ (p : OwnPort). p.name) o [])) (sym port.1)
      (printed t.sub t.port.0 port.0 port.1)

  free_values : (t : Target) → HasPort made c t → HasFileValues (type_of_target made c t)
  free_values t port =
      subst (λ (o : Option OwnPort). HasFileValues (option_map_or (λ (p : OwnPort). p.kind) o kind.Bool)) (sym port.1)
      (plain_at t.sub t.port.0 port.0 port.1).1

  text_is : (t : Target) (port : HasPort made c t) → port_text made c t ≡ port_prefix made c t.sub ++ port.0.name
  text_is t port = ap (λ (o : Option OwnPort). port_prefix made c t.sub ++ option_map_or (λ (p : OwnPort). p.name) o []) port.1

  same_port : (t u : Target) → HasPort made c t → HasPort made c u → port_text made c t ≡ port_text made c u → t ≡ u
  same_port t u port other e =
      let both = one_port t.sub u.sub t.port.0 u.port.0 port.0 other.0 port.1 other.1 (sym (text_is t port) ∙ (e ∙ text_is u other)) in
      same_parts t.sub u.sub t.port.0 u.port.0 both.0 both.1

  names_differ : AllPairs (λ a b. a ≢ b) (free_names made c)
  names_differ i j d l m e =
      let ts : List Target = free_targets made c in
      let first : Target = target None 0 in
      let n : j < length ts = subst (λ (size : ℕ). j < size) (length-map ts (port_text made c)) m in
      let k : i < length ts = omega (arith, l, n) in
      let has = free_ports_there made c in
      let one : HasPort made c (get_or ts i first) = each_at (HasPort made c) ts has i (get_or ts i first) (slice_get-get_or ts i first k) in
      let two : HasPort made c (get_or ts j first) = each_at (HasPort made c) ts has j (get_or ts j first) (slice_get-get_or ts j first n) in
      free_ports_differ made c i j first l n
      (same_port (get_or ts i first) (get_or ts j first) one two
      (sym (get_or-map (port_text made c) ts i first d k) ∙ (e ∙ get_or-map (port_text made c) ts j first d n)))

  pub file_names : (k : model.Component) → slice_get made.components c.0 ≡ Some k → HasFileNames made k.name c
  file_names k here = record {
    component = first_place (λ (b : model.Component). b.name) made.components known.once c.0 k here;
    component_name = file_name k.name (each_at (λ (b : model.Component). IsName b.name) made.components known.names c.0 k here);
    port_names = All-map IsFileName (port_text made c) (free_targets made c)
        (all_of_each (λ (t : Target). IsFileName (port_text made c t)) (free_targets made c)
        (each_more (HasPort made c) (λ (t : Target). IsFileName (port_text made c t)) free_name (free_targets made c) (free_ports_there made c)));
    port_values = All-map HasFileValues (type_of_target made c) (free_targets made c)
        (all_of_each (λ (t : Target). HasFileValues (type_of_target made c t)) (free_targets made c)
        (each_more (HasPort made c) (λ (t : Target). HasFileValues (type_of_target made c t)) free_values (free_targets made c) (free_ports_there made c)));
    distinct = names_differ;
  }

pub resolved_names : ResolvedHasFileNames
resolved_names bytes tokens all made cut text clear stands c k here =
    file_names made (plain_names bytes tokens all made cut text clear stands) c k here

pub blocks_back : BlocksReadBack → BlocksOfFilesReadBack
blocks_back back bytes tokens all made cut text clear stands lasso k here fit few short =
    back made k.name lasso (resolved_names bytes tokens all made cut text clear stands lasso.component k here) fit few short
