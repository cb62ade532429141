-- Uses of names behind references (serves proofs only).
use Rattle.oss_syntax.specs.declared.words.Word.{Word}
use Rattle.spec_names.specs.declared.uses.NameUse.{NameUse}
use Rattle.spec_names.specs.declared.uses.NameUse.TheVariants as code
use Rattle.spec_names.specs.NamesFaults as names

abbrev pub use_at : NameUse → names.NameUse
use_at (code.Bare name) = names.Bare name.now
use_at (code.OfSub sub port) = names.OfSub sub.now port.now
use_at (code.Wanted port) = names.Wanted port.now

-- the first word of a use
abbrev pub word_of_use : NameUse → Word
word_of_use name = names.first_word (use_at name)
