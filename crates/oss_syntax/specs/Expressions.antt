-- Expressions as plain trees, their heights, and how tightly the operators bind.
use Rattle.std.specs.Prelude.{ℕ, ◌+◌, max, Bool, true, false}
use Rattle.oss_base.specs.declared.place.Span.{Span}
use Rattle.oss_syntax.specs.declared.words.Word.{Word}
use Rattle.oss_syntax.specs.declared.expression.PortWord.{PortWord}
use Rattle.oss_syntax.specs.declared.expression.PrefixWord.{PrefixWord}
use Rattle.oss_syntax.specs.declared.expression.PrefixWord.TheVariants as prefix
use Rattle.oss_syntax.specs.declared.expression.BinaryWord.{BinaryWord}
use Rattle.oss_syntax.specs.declared.expression.BinaryWord.TheVariants as binary
use Rattle.oss_syntax.specs.declared.expression.Role.{Role}
use Rattle.oss_syntax.specs.declared.expression.Role.TheVariants as roles
use Rattle.oss_syntax.specs.declared.expression.Expr.{Expr, fold-Expr}
use Rattle.oss_syntax.specs.declared.expression.Expr.TheOpen.{Expr-F}

-- The tree of an expression, as a plain inductive type: what `Expr` stands for.
pub data Tree : Type 0 where
  Name : Word → Tree
  Dotted : Word → Word → Tree
  Numeral : ℕ → Span → Tree
  Truth : Bool → Span → Tree
  Brackets : Tree → Span → Tree
  OfPort : PortWord → Word → Span → Tree
  Prefix : PrefixWord → Tree → Span → Tree
  Binary : BinaryWord → Tree → Tree → Span → Tree

abbrev pub node_tree : Expr-F Tree → Tree
node_tree (Expr-F.Name word) = Name word
node_tree (Expr-F.Dotted sub port) = Dotted sub port
node_tree (Expr-F.Numeral value span) = Numeral value span
node_tree (Expr-F.Truth truth span) = Truth truth span
node_tree (Expr-F.Brackets inside span) = Brackets inside span
node_tree (Expr-F.OfPort word port span) = OfPort word port span
node_tree (Expr-F.Prefix word operand span) = Prefix word operand span
node_tree (Expr-F.Binary word left right span) = Binary word left right span

abbrev pub tree : Expr → Tree
tree expr = fold-Expr Tree node_tree expr

-- The height: 1 for an atom other than brackets, and one more than the highest part for the rest.
abbrev pub height : Tree → ℕ
height (Name _) = 1
height (Dotted _ _) = 1
height (Numeral _ _) = 1
height (Truth _ _) = 1
height (Brackets inside _) = height inside + 1
height (OfPort _ _ _) = 1
height (Prefix _ operand _) = height operand + 1
height (Binary _ left right _) = max (height left) (height right) + 1

-- How tightly an operator binds: the levels of the grammar, 1 (an atom) the tightest and 10 (`iff`)
-- the loosest. Minus before an operand binds more tightly than every operator between two, and the
-- other words before an operand bind more loosely than a comparison.
abbrev pub prefix_level : PrefixWord → ℕ
prefix_level prefix.Minus = 2
prefix_level prefix.Not = 5
prefix_level prefix.Always = 5
prefix_level prefix.Never = 5
prefix_level prefix.Future = 5
prefix_level prefix.Then = 5

abbrev pub binary_level : BinaryWord → ℕ
binary_level binary.Plus = 3
binary_level binary.Minus = 3
binary_level binary.Equal = 4
binary_level binary.NotEqual = 4
binary_level binary.Less = 4
binary_level binary.AtMost = 4
binary_level binary.Greater = 4
binary_level binary.AtLeast = 4
binary_level binary.Until = 6
binary_level binary.Releases = 6
binary_level binary.And = 7
binary_level binary.Or = 8
binary_level binary.Implies = 9
binary_level binary.Iff = 10

-- The loosest level that an operand may have. An operator that groups to the left admits its own
-- level there, one that groups to the right admits it on its right, and a comparison admits it on
-- neither side.
abbrev pub left_level : BinaryWord → ℕ
left_level binary.Plus = 3
left_level binary.Minus = 3
left_level binary.Equal = 3
left_level binary.NotEqual = 3
left_level binary.Less = 3
left_level binary.AtMost = 3
left_level binary.Greater = 3
left_level binary.AtLeast = 3
left_level binary.Until = 5
left_level binary.Releases = 5
left_level binary.And = 7
left_level binary.Or = 8
left_level binary.Implies = 8
left_level binary.Iff = 10

abbrev pub right_level : BinaryWord → ℕ
right_level binary.Plus = 2
right_level binary.Minus = 2
right_level binary.Equal = 3
right_level binary.NotEqual = 3
right_level binary.Less = 3
right_level binary.AtMost = 3
right_level binary.Greater = 3
right_level binary.AtLeast = 3
right_level binary.Until = 6
right_level binary.Releases = 6
right_level binary.And = 6
right_level binary.Or = 7
right_level binary.Implies = 9
right_level binary.Iff = 9

-- the level of a tree is that of its outermost form
abbrev pub level : Tree → ℕ
level (Name _) = 1
level (Dotted _ _) = 1
level (Numeral _ _) = 1
level (Truth _ _) = 1
level (Brackets _ _) = 1
level (OfPort _ _ _) = 1
level (Prefix word _ _) = prefix_level word
level (Binary word _ _ _) = binary_level word

-- whether the word before an operand may stand in such an expression: temporal words only in formulas
abbrev pub allows_prefix : Role → PrefixWord → Bool
allows_prefix roles.Formula _ = true
allows_prefix roles.State prefix.Minus = true
allows_prefix roles.State prefix.Not = true
allows_prefix roles.State prefix.Always = false
allows_prefix roles.State prefix.Never = false
allows_prefix roles.State prefix.Future = false
allows_prefix roles.State prefix.Then = false

-- the same of the operators between two operands
abbrev pub allows_binary : Role → BinaryWord → Bool
allows_binary roles.Formula _ = true
allows_binary roles.State binary.Until = false
allows_binary roles.State binary.Releases = false
allows_binary roles.State _ = true
