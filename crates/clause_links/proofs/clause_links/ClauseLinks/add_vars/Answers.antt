use Rattle.std.proofs.Common.{◌≡◌, ◌≤◌, ◌-◌, List, length, sym, ◌∙◌, subst, arith}
use Rattle.cnf.specs.declared.lit.Lit.{Lit}
use Rattle.clause_links.specs.WatchLists.{WatchLists, watchers}
use Rattle.clause_links.specs.Records.{watch_lists}
use Rattle.clause_links.proofs.Additions.{Grown, vars_added}
use Rattle.clause_links.proofs.clause_links.ClauseLinks.add_vars.Goals as goal

grown_by : (c : goal.In_ok-resize) → Grown c.self.inside.records.items c.self.inside.heads.items c.resize.new.self.items
grown_by c =
    vars_added c.self.inside.records.items c.self.inside.heads.items c.resize.new.self.items c.in-Some.vars (c.in-Some.vars - c.self.inside.heads.len)
    c.self.invariant (omega (arith, c.in-Some.ensures.1, c.len.ensures, c.self.inside.heads.ok.0)) c.in_ok-resize.ensures.items

pub invariant_of-self-2 : goal.invariant_of-self-2
invariant_of-self-2 c = (grown_by c).linked

pub returns-clause-lists : goal.returns-clause-lists
returns-clause-lists c =
    subst
    (λ (lists : WatchLists). (lit : Lit) → watchers (watch_lists c.self.inside.records.items c.resize.new.self.items) lit ≡ watchers lists lit)
    c.self.view_is (grown_by c).lists
