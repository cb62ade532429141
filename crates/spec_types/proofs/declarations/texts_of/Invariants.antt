use Rattle.std.specs.Prelude.{◌≡◌, map, take}
use Rattle.oss_syntax.specs.declared.words.Word.{Word}
use Rattle.spec_types.proofs.declarations.texts_of.Given as goal

abbrev pub invariant-loop-word : goal.invariant-loop-word
invariant-loop-word l = l.names.items ≡ map (λ (w : Word). w.text) (take l.word-index l.words)
