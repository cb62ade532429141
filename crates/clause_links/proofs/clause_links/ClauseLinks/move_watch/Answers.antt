use Rattle.std.proofs.Common.{◌≡◌, ◌<◌, ℕ, List, ◌++◌, length, take, drop, sym, ◌∙◌, ap, subst, arith}
use Rattle.std.specs.Option.{MatchOption}
use Rattle.clause_links.specs.declared.records.Record.{Record}
use Rattle.clause_links.specs.declared.records.Heads.{Heads}
use Rattle.clause_links.specs.WatchLists.{WatchLists}
use Rattle.clause_links.specs.Records.{record_at, IsWatchedBy, watch_lists, AreLinked, records_after, heads_after}
use Rattle.clause_links.proofs.Moves.{CanMove, known_to, IsMoved-from_can, moved_linked}
use Rattle.clause_links.proofs.Calls.{take-written, can_move_by, before_within, rest_is, IsMoveOf, move_of}
use Rattle.clause_links.proofs.clause_links.ClauseLinks.move_watch.Goals as goal

can_first : (c : goal.After-deref_mut-2)
    → CanMove c.self.inside.records.items c.self.inside.heads.items c.args.before c.args.clause c.args.from c.args.to
    c.requires.before.0 c.requires.before.1
can_first c =
    can_move_by c.self.inside.records.items c.self.inside.heads.items c.args.before c.args.clause c.args.from c.args.to c.args.self.now
    c.self.view_is c.self.invariant c.requires.watched c.requires.unwatched c.requires.own c.requires.before

pub move_between-requires : goal.move_between-requires
move_between-requires c =
    let records : List Record = c.self.inside.records.items in
    let heads : List Heads = c.self.inside.heads.items in
    let can : CanMove records heads c.args.before c.args.clause c.args.from c.args.to c.requires.before.0 c.requires.before.1 = can_first c in
    let known : c.args.to.var < length heads = known_to records heads c.args.before c.args.clause c.args.from c.args.to c.requires.before.0 c.requires.before.1
    can in
    let within : MatchOption c.args.before (c.args.from.var < length heads) (λ b. b < length records) =
    before_within records heads c.args.before c.args.clause c.args.from c.args.to c.requires.before.0 c.requires.before.1 can in
    record {
      clause = subst (λ (l : List Record). c.args.clause < length l) (sym c.deref_mut.ensures.value) can.watcher.within;
      watched = subst (λ (l : List Record). IsWatchedBy (record_at l c.args.clause) c.args.from) (sym c.deref_mut.ensures.value) can.watcher.watched;
      within = subst (λ (l : List Record). MatchOption c.args.before (c.args.from.var < length c.deref_mut-2.result.now) (λ b. b < length l))
          (sym c.deref_mut.ensures.value)
          (subst (λ (h : List Heads). MatchOption c.args.before (c.args.from.var < length h) (λ b. b < length records)) (sym c.deref_mut-2.ensures.value)
          within);
      var = subst (λ (h : List Heads). c.args.to.var < length h) (sym c.deref_mut-2.ensures.value) known;
    }

-- ---- after the move

can_last : (c : goal.After-self-2-1)
    → CanMove c.self.inside.records.items c.self.inside.heads.items c.args.before c.args.clause c.args.from c.args.to
    c.requires.before.0 c.requires.before.1
can_last c =
    can_move_by c.self.inside.records.items c.self.inside.heads.items c.args.before c.args.clause c.args.from c.args.to c.args.self.now
    c.self.view_is c.self.invariant c.requires.watched c.requires.unwatched c.requires.own c.requires.before

abbrev records_now : goal.After-self-2-1 → List Record
records_now c =
    take c.self.inside.records.len (c.move_between.new.records ++ drop (length c.move_between.new.records) c.self.inside.records.items)

abbrev heads_now : goal.After-self-2-1 → List Heads
heads_now c =
    take c.self.inside.heads.len (c.move_between.new.heads ++ drop (length c.move_between.new.heads) c.self.inside.heads.items)

records_are : (c : goal.After-self-2-1) → records_now c
    ≡ records_after c.self.inside.records.items c.self.inside.heads.items c.args.before c.args.clause c.args.from
    c.args.to
records_are c =
    let records : List Record = c.self.inside.records.items in
    let heads : List Heads = c.self.inside.heads.items in
    let is : c.move_between.new.records ≡ records_after records heads c.args.before c.args.clause c.args.from c.args.to =
    c.move_between.ensures.records
    ∙ ap (λ (l : List Record). records_after l c.deref_mut-2.result.now c.args.before c.args.clause c.args.from c.args.to) c.deref_mut.ensures.value
    ∙ ap (λ (h : List Heads). records_after records h c.args.before c.args.clause c.args.from c.args.to) c.deref_mut-2.ensures.value in
    let len : length c.move_between.new.records ≡ c.self.inside.records.len =
    ap length is ∙ (IsMoved-from_can records heads c.args.before c.args.clause c.args.from c.args.to c.requires.before.0 c.requires.before.1
    (can_last c)).len
    ∙ sym c.self.inside.records.ok.0 in
    take-written records c.move_between.new.records c.self.inside.records.len len (sym c.self.inside.records.ok.0) ∙ is

heads_are : (c : goal.After-self-2-1) → heads_now c
    ≡ heads_after c.self.inside.records.items c.self.inside.heads.items c.args.before c.args.clause c.args.from
    c.args.to
heads_are c =
    let records : List Record = c.self.inside.records.items in
    let heads : List Heads = c.self.inside.heads.items in
    let is : c.move_between.new.heads ≡ heads_after records heads c.args.before c.args.clause c.args.from c.args.to =
    c.move_between.ensures.heads
    ∙ ap (λ (l : List Record). heads_after l c.deref_mut-2.result.now c.args.before c.args.clause c.args.from c.args.to) c.deref_mut.ensures.value
    ∙ ap (λ (h : List Heads). heads_after records h c.args.before c.args.clause c.args.from c.args.to) c.deref_mut-2.ensures.value in
    let len : length c.move_between.new.heads ≡ c.self.inside.heads.len =
    ap length is ∙ (IsMoved-from_can records heads c.args.before c.args.clause c.args.from c.args.to c.requires.before.0 c.requires.before.1
    (can_last c)).vars
    ∙ sym c.self.inside.heads.ok.0 in
    take-written heads c.move_between.new.heads c.self.inside.heads.len len (sym c.self.inside.heads.ok.0) ∙ is

move_is : (c : goal.After-self-2-1)
    → IsMoveOf c.args.self.now (watch_lists (records_now c) (heads_now c)) c.args.clause c.args.from c.args.to
    c.requires.before.0 c.requires.before.1
move_is c =
    let records : List Record = c.self.inside.records.items in
    let heads : List Heads = c.self.inside.heads.items in
    let is : IsMoveOf (watch_lists records heads)
    (watch_lists (records_after records heads c.args.before c.args.clause c.args.from c.args.to)
    (heads_after records heads c.args.before c.args.clause c.args.from c.args.to)) c.args.clause c.args.from c.args.to c.requires.before.0
    c.requires.before.1 =
    move_of records heads c.args.before c.args.clause c.args.from c.args.to c.requires.before.0 c.requires.before.1 (can_last c) in
    subst (λ (l : WatchLists). IsMoveOf l (watch_lists (records_now c) (heads_now c)) c.args.clause c.args.from c.args.to c.requires.before.0
    c.requires.before.1) c.self.view_is
    (subst (λ (h : List Heads). IsMoveOf (watch_lists records heads) (watch_lists (records_now c) h) c.args.clause c.args.from c.args.to c.requires.before.0
    c.requires.before.1) (sym (heads_are c))
    (subst (λ (l : List Record). IsMoveOf (watch_lists records heads)
    (watch_lists l (heads_after records heads c.args.before c.args.clause c.args.from c.args.to)) c.args.clause c.args.from c.args.to c.requires.before.0
    c.requires.before.1) (sym (records_are c)) is))

pub invariant_of-self : goal.invariant_of-self
invariant_of-self c =
    let records : List Record = c.self.inside.records.items in
    let heads : List Heads = c.self.inside.heads.items in
    subst (λ (h : List Heads). AreLinked (records_now c) h) (sym (heads_are c))
    (subst (λ (l : List Record). AreLinked l (heads_after records heads c.args.before c.args.clause c.args.from c.args.to)) (sym (records_are c))
    (moved_linked records heads c.args.before c.args.clause c.args.from c.args.to c.requires.before.0 c.requires.before.1 (can_last c)))

pub returns-clause-from : goal.returns-clause-from
returns-clause-from c = λ front back cut.
    (move_is c).of_from
    ∙ rest_is c.self.inside.records.items c.self.inside.heads.items c.args.before c.args.clause c.args.from c.args.to c.requires.before.0 c.requires.before.1
    (can_last c) front back (sym c.requires.before.2 ∙ cut)

pub returns-clause-to : goal.returns-clause-to
returns-clause-to c = (move_is c).of_to

pub returns-clause-others : goal.returns-clause-others
returns-clause-others c = (move_is c).of_others

pub returns-clause-pair : goal.returns-clause-pair
returns-clause-pair c = (move_is c).pair

pub returns-clause-clauses : goal.returns-clause-clauses
returns-clause-clauses c = (move_is c).clauses
