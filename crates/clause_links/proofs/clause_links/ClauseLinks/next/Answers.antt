use Rattle.std.proofs.Common.{◌≡◌, ◌↔◌, ℕ, List, [], ◌∷◌, ◌++◌, Option, None, sym, ◌∙◌, ap, subst}
use Rattle.std.specs.List.{slice_get}
use Rattle.std.proofs.lemmas.List.{get_or_read}
use Rattle.clause_links.specs.declared.records.Record.{Record}
use Rattle.clause_links.specs.WatchLists.{WatchLists, Watches, watchers}
use Rattle.clause_links.specs.Records.{link_of, link_at, no_record, watch_lists}
use Rattle.clause_links.proofs.Listing.{watcher_from}
use Rattle.clause_links.proofs.Calls.{next_is, last_is}
use Rattle.clause_links.proofs.clause_links.ClauseLinks.next.Goals as goal

watched : (c : goal.After-next_of)
    → Watches (watch_lists c.self.inside.records.items c.self.inside.heads.items) c.args.clause c.args.lit
watched c = subst (λ (lists : WatchLists). Watches lists c.args.clause c.args.lit) (sym c.self.view_is) c.requires

link_is : (c : goal.After-next_of) → c.next_of.result ≡ link_at c.self.inside.records.items c.args.lit c.args.clause
link_is c =
    c.next_of.ensures
    ∙ ap (λ (r : Record). link_of r c.args.lit)
    (get_or_read c.self.inside.records.items c.args.clause c.index.result.now
    (watcher_from c.self.inside.records.items c.self.inside.heads.items c.args.lit c.args.clause (watched c)).within c.index.ensures no_record)

pub returns-clause-behind : goal.returns-clause-behind
returns-clause-behind c =
    subst
    (λ (lists : WatchLists). (front back : List ℕ) → watchers lists c.args.lit ≡ front ++ c.args.clause ∷ back → c.next_of.result ≡ slice_get back 0)
    c.self.view_is
    (next_is c.self.inside.records.items c.self.inside.heads.items c.args.clause c.args.lit c.next_of.result c.self.invariant (watched c) (link_is c))

pub returns-clause-last : goal.returns-clause-last
returns-clause-last c =
    subst
    (λ (lists : WatchLists). (c.next_of.result ≡ None) ↔ ((front : List ℕ) × (watchers lists c.args.lit ≡ front ++ c.args.clause ∷ [])))
    c.self.view_is
    (last_is c.self.inside.records.items c.self.inside.heads.items c.args.clause c.args.lit c.next_of.result c.self.invariant (watched c) (link_is c))
