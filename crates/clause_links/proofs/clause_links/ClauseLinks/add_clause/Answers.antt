use Rattle.std.proofs.Common.{◌≡◌, ◌≢◌, ◌<◌, ◌≤◌, ℕ, List, [], ◌∷◌, ◌++◌, length, take, drop, Some, sym, ◌∙◌, ap, subst, arith}
use Rattle.std.specs.List.{All, slice_get}
use Rattle.std.proofs.lemmas.List.{length-map}
use Rattle.std.proofs.lemmas.List.Elements.{Contains-get_or}
use Rattle.std.proofs.lemmas.Option.{slice_get-get_or, get_or_from_slice_get}
use Rattle.cnf.specs.declared.lit.Lit.{Lit}
use Rattle.clause_links.specs.declared.records.Record.{Record}
use Rattle.clause_links.specs.declared.records.Heads.{Heads}
use Rattle.clause_links.specs.WatchLists.{WatchLists, IsWatchedFirst}
use Rattle.clause_links.specs.Records.{no_lit, nth_lit, watch_lists, watch_before, with_two_heads}
use Rattle.clause_links.proofs.Additions.{IsAdded, Added, clause_added}
use Rattle.clause_links.proofs.Calls.{take-written, length-with_two_heads}
use Rattle.clause_links.proofs.clause_links.ClauseLinks.add_clause.Goals as goal

abbrev heads_now : goal.After-self-1 → List Heads
heads_now c = take c.self.inside.heads.len (c.set_heads.new.heads ++ drop (length c.set_heads.new.heads) c.self.inside.heads.items)

heads_are : (c : goal.After-self-1) → heads_now c
    ≡ with_two_heads c.self.inside.heads.items c.args.lits.now (length c.self.inside.records.items)
heads_are c =
    let heads : List Heads = c.self.inside.heads.items in
    let is : c.set_heads.new.heads ≡ with_two_heads heads c.args.lits.now (length c.self.inside.records.items) =
    c.set_heads.ensures
    ∙ ap (λ (h : List Heads). with_two_heads h c.args.lits.now c.len-number.result) c.deref_mut.ensures.value
    ∙ ap (λ (n : ℕ). with_two_heads heads c.args.lits.now n) (c.len-number.ensures ∙ c.self.inside.records.ok.0) in
    let len : length c.set_heads.new.heads ≡ c.self.inside.heads.len =
    ap length is ∙ length-with_two_heads heads c.args.lits.now (length c.self.inside.records.items) ∙ sym c.self.inside.heads.ok.0 in
    take-written heads c.set_heads.new.heads c.self.inside.heads.len len (sym c.self.inside.heads.ok.0) ∙ is

different : (lits : List Lit) → 2 ≤ length lits → slice_get lits 0 ≢ slice_get lits 1 → nth_lit lits 0 ≢ nth_lit lits 1
different lits two apart e =
    apart (slice_get-get_or lits 0 no_lit (omega arith) ∙ ap (λ (lit : Lit). Some lit) e ∙ sym (slice_get-get_or lits 1 no_lit (omega arith)))

is_added : (c : goal.After-self-1)
    → Added c.self.inside.records.items c.push.new.self.items c.self.inside.heads.items (heads_now c)
    (nth_lit c.args.lits.now 0) (nth_lit c.args.lits.now 1)
is_added c =
    let records : List Record = c.self.inside.records.items in
    let heads : List Heads = c.self.inside.heads.items in
    let lits : List Lit = c.args.lits.now in
    let known : All (λ (lit : Lit). lit.var < length heads) lits =
    subst (λ (l : WatchLists). All (λ (lit : Lit). lit.var < l.vars) lits) (sym c.self.view_is) c.requires.known in
    let is : IsAdded records c.push.new.self.items heads (heads_now c) lits (nth_lit lits 0) (nth_lit lits 1) c.in_ok-added.added =
    record {
      linked = c.self.invariant;
      apart = different lits c.requires.two c.requires.apart;
      has_a = Contains-get_or lits 0 no_lit (omega (arith, c.requires.two));
      has_b = Contains-get_or lits 1 no_lit (omega (arith, c.requires.two));
      known = known;
      newer_is = c.in_ok-push.ensures.items;
      heads_are = heads_are c;
      clause = c.in_ok-added.ensures.clause;
      first = c.in_ok-added.ensures.first ∙ ap (λ (h : List Heads). watch_before h (nth_lit lits 0)) c.deref.ensures.value;
      second = c.in_ok-added.ensures.second ∙ ap (λ (h : List Heads). watch_before h (nth_lit lits 1)) c.deref.ensures.value;
    } in
    clause_added records c.push.new.self.items heads (heads_now c) lits (nth_lit lits 0) (nth_lit lits 1) c.in_ok-added.added is

pub invariant_of-self-2 : goal.invariant_of-self-2
invariant_of-self-2 c = (is_added c).linked

watched_now : (c : goal.After-self-1)
    → IsWatchedFirst c.args.self.now (watch_lists c.push.new.self.items (heads_now c)) (length c.args.self.now.clauses)
    (nth_lit c.args.lits.now 0) (nth_lit c.args.lits.now 1)
watched_now c =
    let records : List Record = c.self.inside.records.items in
    let heads : List Heads = c.self.inside.heads.items in
    let lits : List Lit = c.args.lits.now in
    let new : WatchLists = watch_lists c.push.new.self.items (heads_now c) in
    subst (λ (l : WatchLists). IsWatchedFirst l new (length l.clauses) (nth_lit lits 0) (nth_lit lits 1)) c.self.view_is
    (subst (λ (n : ℕ). IsWatchedFirst (watch_lists records heads) new n (nth_lit lits 0) (nth_lit lits 1))
    (sym (length-map records (λ (r : Record). r.clause))) (is_added c).watched)

pub returns-clause-watched : goal.returns-clause-watched
returns-clause-watched c = λ a b e f.
    let lits : List Lit = c.args.lits.now in
    let new : WatchLists = watch_lists c.push.new.self.items (heads_now c) in
    let n : ℕ = length c.args.self.now.clauses in
    subst (λ (lit : Lit). IsWatchedFirst c.args.self.now new n lit b) (get_or_from_slice_get lits 0 a no_lit e)
    (subst (λ (lit : Lit). IsWatchedFirst c.args.self.now new n (nth_lit lits 0) lit) (get_or_from_slice_get lits 1 b no_lit f) (watched_now c))

pub set_heads-requires : goal.set_heads-requires
set_heads-requires c =
    let lits : List Lit = c.args.lits.now in
    let known : All (λ (lit : Lit). lit.var < length c.self.inside.heads.items) lits =
    subst (λ (l : WatchLists). All (λ (lit : Lit). lit.var < l.vars) lits) (sym c.self.view_is) c.requires.known in
    record {
      two = c.requires.two;
      a = subst (λ (h : List Heads). (nth_lit lits 0).var < length h) (sym c.deref_mut.ensures.value) (known 0 no_lit (omega (arith, c.requires.two)));
      b = subst (λ (h : List Heads). (nth_lit lits 1).var < length h) (sym c.deref_mut.ensures.value) (known 1 no_lit (omega (arith, c.requires.two)));
    }
