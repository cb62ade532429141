-- What is always so of the types of a text.

use Rattle.std.specs.Prelude.{◌≡◌, List}
use Rattle.oss_syntax.specs.Trees.{Component}
use Rattle.spec_types.specs.declared.components.TypedComponents.{TypedComponents}
use Rattle.spec_types.specs.TreeComponents.{AreTyped}

-- the components of a text stand for one thing alone
abbrev pub TypingIsUnique : Type 0
TypingIsUnique = (all : List Component) (a b : TypedComponents) → AreTyped all a → AreTyped all b → a ≡ b
