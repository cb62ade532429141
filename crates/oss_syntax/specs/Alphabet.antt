-- The terminals of the grammar: a token, read by its text. The first and the second spelling of a word are one
-- terminal, and leading zeros make no difference.
--
-- `-` is `Binary` with `Minus`, also where it stands before an operand. `Prefix` has the words of one token that
-- stand before an operand. The words `requires`, `discrete`, `time`, `the` and `future` are names.
use Rattle.std.specs.Prelude.{ℕ, Bool}
use Rattle.oss_base.specs.declared.place.Span.{Span}
use Rattle.oss_syntax.specs.declared.words.Word.{Word}
use Rattle.oss_syntax.specs.declared.expression.PortWord.{PortWord}
use Rattle.oss_syntax.specs.declared.expression.PrefixWord.{PrefixWord}
use Rattle.oss_syntax.specs.declared.expression.BinaryWord.{BinaryWord}
use Rattle.oss_syntax.specs.declared.terminal.Mark as marks

pub data Terminal : Type 0 where
  Name : Word → Terminal
  Numeral : ℕ → Span → Terminal
  Truth : Bool → Span → Terminal
  OfPort : PortWord → Span → Terminal
  Prefix : PrefixWord → Span → Terminal
  Binary : BinaryWord → Span → Terminal
  Mark : marks.Mark → Span → Terminal
