use Rattle.std.proofs.Common.{Err, ap, subst}
use Rattle.typed_ltl.specs.Formulas.{meaning}
use Rattle.core_ltl.specs.Nodes.{members, IsClosure}
use Rattle.core_ltl.proofs.Bounds.{formula_fits}
use Rattle.core_ltl.proofs.closure.Closure.desugar.Goals as goal

pub unreachable-requires : goal.unreachable-requires
unreachable-requires c =
    formula_fits (members c.args.self.now) (meaning c.args.f.now)
    (subst (λ l. IsClosure (members l)) c.in-Err-TooLarge.ensures.err c.in-Err-TooLarge.ensures.closed)
    c.requires (c.in-Err-TooLarge.ensures.too_large (ap Err c.in-Err-TooLarge.field-0-is))
