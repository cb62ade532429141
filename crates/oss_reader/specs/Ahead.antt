-- What is left to read, as the grammar sees it. This file serves proofs only: no public contract cites it.
use Rattle.std.specs.Prelude.{List}
use Rattle.oss_syntax.specs.Alphabet.{Terminal}
use Rattle.oss_syntax.specs.Terminals.{terminals_of}
use Rattle.oss_reader.specs.declared.rest.Rest.{Rest}

-- the terminals that are left
unfoldable pub ahead : Rest → List Terminal
ahead rest = terminals_of rest.bytes.now rest.tokens.now
