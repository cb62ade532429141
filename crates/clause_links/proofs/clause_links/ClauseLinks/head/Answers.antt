use Rattle.std.proofs.Common.{◌≡◌, ◌↔◌, ℕ, List, Option, None, ◌∙◌, ap, subst}
use Rattle.std.specs.List.{slice_get}
use Rattle.clause_links.specs.declared.records.Heads.{Heads}
use Rattle.clause_links.specs.WatchLists.{WatchLists, Watches, watchers}
use Rattle.clause_links.specs.Records.{head_at, watch_lists}
use Rattle.clause_links.proofs.Calls.{head_is, none_watch}
use Rattle.clause_links.proofs.clause_links.ClauseLinks.head.Goals as goal

first_of : (c : goal.After-head_of) → c.head_of.result
    ≡ slice_get (watchers (watch_lists c.self.inside.records.items c.self.inside.heads.items) c.args.lit) 0
first_of c =
    c.head_of.ensures ∙ ap (λ (h : List Heads). head_at h c.args.lit) c.deref.ensures.value
    ∙ head_is c.self.inside.records.items c.self.inside.heads.items c.args.lit c.self.invariant

pub returns-clause-first : goal.returns-clause-first
returns-clause-first c = subst (λ (lists : WatchLists). c.head_of.result ≡ slice_get (watchers lists c.args.lit) 0) c.self.view_is (first_of c)

pub returns-clause-none : goal.returns-clause-none
returns-clause-none c =
    subst (λ (lists : WatchLists). (c.head_of.result ≡ None) ↔ ((clause : ℕ) → Watches lists clause c.args.lit → ⊥)) c.self.view_is
    (none_watch c.self.inside.records.items c.self.inside.heads.items c.args.lit c.head_of.result c.self.invariant (first_of c))
