use Rattle.std.proofs.Common.{◌≡◌, map, take}
use Rattle.oss_syntax.specs.declared.component.TreeComponent.{TreeComponent as Component}
use Rattle.spec_names.specs.Words.{word_at}
use Rattle.spec_names.proofs.words.component_words.Given as goal

abbrev pub invariant-loop-component : goal.invariant-loop-component
invariant-loop-component l = map word_at l.words.items ≡ map (λ (c : Component). c.name) (take l.component-index l.components)
