use Rattle.std.proofs.Common.{sym, ◌∙◌}
use Rattle.std.proofs.lemmas.Bool.{false≢true}
use Rattle.std.proofs.lemmas.List.{length-take-le}
use Rattle.oss_lexer.proofs.Fronts.{found_within, found_digits, fault_at_none, stands_at, fault_over_limit}
use Rattle.oss_lexer.proofs.front.next_front.Goals as goal

pub slice_bounds-is_within_limit-end : goal.slice_bounds-is_within_limit-end
slice_bounds-is_within_limit-end c = sym (length-take-le _ _ (found_within _ c.in-Some.found c.requires (sym c.in-Some.ensures)))

pub is_within_limit-requires : goal.is_within_limit-requires
is_within_limit-requires c = found_digits _ c.in-Some.found c.requires (sym c.in-Some.ensures)

pub returns-in-None-clause-fault : goal.returns-in-None-clause-fault
returns-in-None-clause-fault c = fault_at_none _ c.requires (sym c.in-None.ensures)

pub returns-then-is_within_limit-clause-piece : goal.returns-then-is_within_limit-clause-piece
returns-then-is_within_limit-clause-piece c =
    stands_at _ c.in-Some.found c.requires (sym c.in-Some.ensures) (c.is_within_limit.ensures.0 c.if-is_within_limit.true)

pub returns-else-is_within_limit-clause-fault : goal.returns-else-is_within_limit-clause-fault
returns-else-is_within_limit-clause-fault c =
    fault_over_limit _ c.in-Some.found c.requires (sym c.in-Some.ensures)
    (λ limit. false≢true (sym c.if-is_within_limit.false ∙ c.is_within_limit.ensures.1 limit))
