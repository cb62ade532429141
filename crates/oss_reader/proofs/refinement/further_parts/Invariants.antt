use Rattle.std.proofs.Common.{◌≡◌, ◌∷◌, List, length}
use Rattle.oss_syntax.specs.declared.words.PartWord.{PartWord}
use Rattle.oss_syntax.specs.declared.terminal.Mark.TheVariants as mark
use Rattle.oss_syntax.specs.Items.{IsNextPart}
use Rattle.oss_reader.specs.Reads.{ListsGoOnFrom, NoMark}
use Rattle.oss_reader.specs.Ahead.{ahead}
use Rattle.oss_reader.proofs.refinement.further_parts.Given as goal

-- the contracts so far
abbrev pub invariant-further : goal.invariant-further
invariant-further l = (read : List PartWord) × (l.parts ≡ l.fn.first ∷ read) × ListsGoOnFrom IsNextPart (NoMark mark.Comma) (ahead l.terminals) read
    (ahead l.rest)

abbrev pub decreases-further : goal.decreases-further
decreases-further l = length (ahead l.rest)
