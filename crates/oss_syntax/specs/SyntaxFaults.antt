-- The kinds of fault of the syntax.
use Rattle.oss_base.specs.declared.fault.FaultKind.{FaultKind}
use Rattle.oss_base.specs.declared.fault.FaultKind.TheVariants as kinds

-- The kinds of fault for which a list of tokens is no text: a token that does not fit, an expression
-- that is too high, a type and a construct of the language family that this profile leaves out.
abbrev pub IsSyntaxKind : FaultKind → Type 0
IsSyntaxKind kinds.F3 = Unit {0}
IsSyntaxKind kinds.F5 = Unit {0}
IsSyntaxKind kinds.F22 = Unit {0}
IsSyntaxKind kinds.F23 = Unit {0}
IsSyntaxKind _ = ⊥
