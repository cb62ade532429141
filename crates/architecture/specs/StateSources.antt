-- Trees whose connections read one valuation alone: no temporal word, and no port under `next`, `change`, `rise` or
-- `fall`, stands in the expression of a connection (the state formulas of Manna and Pnueli, The Temporal Logic of
-- Reactive and Concurrent Systems, 1992). The grammar says this of every text.
use Rattle.std.specs.Prelude.{◌≡◌, true, List, All}
use Rattle.oss_syntax.specs.declared.expression.Role.TheVariants as roles
use Rattle.oss_syntax.specs.Expressions.{Tree, Name, Dotted, Numeral, Truth, Brackets, OfPort, Prefix, Binary}
use Rattle.oss_syntax.specs.Expressions.{allows_prefix, allows_binary}
use Rattle.oss_syntax.specs.Trees.{RefinementItemTree, Sub, Connection, Refined, Component}
use Rattle.spec_names.specs.Scopes.{refinement_parts}

abbrev pub IsStateTree : Tree → Type 0
IsStateTree (Name name) = Unit {0}
IsStateTree (Dotted sub port) = Unit {0}
IsStateTree (Numeral value span) = Unit {0}
IsStateTree (Truth value span) = Unit {0}
IsStateTree (Brackets inside span) = IsStateTree inside
IsStateTree (OfPort word port span) = ⊥
IsStateTree (Prefix word operand span) = (allows_prefix roles.State word ≡ true) × IsStateTree operand
IsStateTree (Binary word left right span) =
    (allows_binary roles.State word ≡ true) × IsStateTree left × IsStateTree right

abbrev pub HasStateSource : RefinementItemTree → Type 0
HasStateSource (Sub name component) = Unit {0}
HasStateSource (Connection target source) = IsStateTree source
HasStateSource (Refined name listed) = Unit {0}

abbrev pub HasStateSources : List Component → Type 0
HasStateSources all = All (λ (c : Component). All HasStateSource (refinement_parts c)) all
