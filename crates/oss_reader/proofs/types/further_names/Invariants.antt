use Rattle.std.proofs.Common.{◌≡◌, ◌∷◌, List, length}
use Rattle.oss_syntax.specs.declared.words.Word.{Word}
use Rattle.oss_syntax.specs.declared.terminal.Mark.TheVariants as mark
use Rattle.oss_syntax.specs.Items.{IsNextName}
use Rattle.oss_reader.specs.Reads.{ListsGoOnFrom, NoMark}
use Rattle.oss_reader.specs.Ahead.{ahead}
use Rattle.oss_reader.proofs.types.further_names.Given as goal

-- the names so far
abbrev pub invariant-further : goal.invariant-further
invariant-further l = (read : List Word) × (l.names ≡ l.fn.first ∷ read) × ListsGoOnFrom IsNextName (NoMark mark.Comma) (ahead l.terminals) read
    (ahead l.rest)

abbrev pub decreases-further : goal.decreases-further
decreases-further l = length (ahead l.rest)
