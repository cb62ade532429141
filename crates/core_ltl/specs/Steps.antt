-- Serves proofs only. The nodes that each form of formula adds for itself, before its part, between its parts and after
-- them.
use Rattle.core_ltl.specs.declared.node.NodeId.{NodeId}
use Rattle.core_ltl.specs.declared.node.Node.TheVariants as node
use Rattle.core_ltl.specs.declared.walk.Unary.{Unary}
use Rattle.core_ltl.specs.declared.walk.Unary.TheVariants as one
use Rattle.core_ltl.specs.declared.walk.Temporal.{Temporal}
use Rattle.core_ltl.specs.declared.walk.Temporal.TheVariants as temporal
use Rattle.core_ltl.specs.declared.walk.Binary.{Binary}
use Rattle.core_ltl.specs.declared.walk.Binary.TheVariants as two
use Rattle.core_ltl.specs.CoreFormulas.{Core, implication}
use Rattle.core_ltl.specs.CoreFormulas as core
use Rattle.core_ltl.specs.Nodes.{Members}
use Rattle.core_ltl.specs.Order.{after_node, after_until}

-- one step after the other
abbrev pub chain : Members × NodeId → (Members → NodeId → Members × NodeId) → Members × NodeId
chain a step = step a.0 a.1

abbrev pub after_not : Members → NodeId → Members × NodeId
after_not m k = after_node m (node.Not k)

abbrev pub after_both : Members → NodeId → NodeId → Members × NodeId
after_both m k l = after_node m (node.And k l)

abbrev pub after_not_and : Members → NodeId → NodeId → Members × NodeId
after_not_and m k l = chain (after_both m k l) after_not

abbrev pub after_implication : Members → NodeId → NodeId → Members × NodeId
after_implication m k l = chain (after_not m l) (λ n j. after_not_and n k j)

abbrev pub after_not_until : Members → NodeId → NodeId → Members × NodeId
after_not_until m k l = chain (after_until m k l) after_not

-- the forms with one part and no until in their core form
abbrev pub unary_core : Unary → Core → Core
unary_core one.Not f = core.Not f
unary_core one.Then f = core.Next f

abbrev pub after_unary : Unary → Members → NodeId → Members × NodeId
after_unary one.Not m k = after_not m k
after_unary one.Then m k = after_node m (node.Next k)

-- the forms that are an until of True
abbrev pub temporal_core : Temporal → Core → Core
temporal_core temporal.Future f = core.Until core.True f
temporal_core temporal.Always f = core.Not (core.Until core.True (core.Not f))
temporal_core temporal.Never f = core.Not (core.Until core.True f)

abbrev pub after_temporal : Temporal → Members → NodeId → NodeId → Members × NodeId
after_temporal temporal.Future m t k = after_until m t k
after_temporal temporal.Always m t k = chain (after_not m k) (λ n j. after_not_until n t j)
after_temporal temporal.Never m t k = after_not_until m t k

-- the forms with two parts; the left part may be negated before the right part is walked
abbrev pub left_core : Binary → Core → Core
left_core two.And f = f
left_core two.Or f = core.Not f
left_core two.Implies f = f
left_core two.Iff f = f
left_core two.Until f = f
left_core two.Releases f = core.Not f

abbrev pub binary_core : Binary → Core → Core → Core
binary_core two.And f g = core.And f g
binary_core two.Or f g = core.Not (core.And (core.Not f) (core.Not g))
binary_core two.Implies f g = implication f g
binary_core two.Iff f g = core.And (implication f g) (implication g f)
binary_core two.Until f g = core.Until f g
binary_core two.Releases f g = core.Not (core.Until (core.Not f) (core.Not g))

abbrev pub after_left : Binary → Members → NodeId → Members × NodeId
after_left two.And m k = (m, k)
after_left two.Or m k = after_not m k
after_left two.Implies m k = (m, k)
after_left two.Iff m k = (m, k)
after_left two.Until m k = (m, k)
after_left two.Releases m k = after_not m k

abbrev pub after_right : Binary → Members → NodeId → NodeId → Members × NodeId
after_right two.And m k l = after_both m k l
after_right two.Or m k l = after_implication m k l
after_right two.Implies m k l = after_implication m k l
after_right two.Iff m k l =
    chain (after_implication m k l) (λ n i. chain (after_implication n l k) (λ o j. after_both o i j))
after_right two.Until m k l = after_until m k l
after_right two.Releases m k l = chain (after_not m l) (λ n j. after_not_until n k j)
