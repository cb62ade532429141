-- What is always so of trees and their texts.
use Rattle.std.specs.Prelude.{◌≡◌, List}
use Rattle.oss_syntax.specs.declared.component.TreeComponent.{TreeComponent}
use Rattle.oss_syntax.specs.Trees.{component_trees}

-- The trees of the code are told apart by what they stand for.
abbrev pub TreesAreDistinct : Type 0
TreesAreDistinct = (a b : List TreeComponent) → component_trees a ≡ component_trees b → a ≡ b
