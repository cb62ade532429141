use Rattle.std.proofs.Common.{subst}
use Rattle.clause_links.specs.WatchLists.{WatchLists, AreExact}
use Rattle.clause_links.proofs.Walks.{way_past}
use Rattle.clause_links.proofs.HeadLaws.{head-with_list_head}
use Rattle.clause_links.proofs.Watches.{pair-with_watch}
use Rattle.clause_links.proofs.Listing.{lists_are_exact}
use Rattle.clause_links.proofs.Moves.{moved_linked}
use Rattle.clause_links.proofs.clause_links.ClauseLinks.lists_are_exact.Goals as goal

pub returns : goal.returns
returns c =
    subst (λ (lists : WatchLists). AreExact lists) c.self.view_is (lists_are_exact c.self.inside.records.items c.self.inside.heads.items c.self.invariant)
