-- Serves proofs only. What a hash is fed of a term, a pick, an atom: the form, then its parts.
use Rattle.std.specs.Prelude.{◌++◌}
use Rattle.std.specs.Hash.{HashWrites}
use Rattle.std.specs.Hash as fed
use Rattle.typed_ltl.specs.Formulas.{Number, Choice, Proposition}
use Rattle.typed_ltl.specs.Formulas as form

abbrev pub number_writes : Number → HashWrites
number_writes (form.Literal z) = fed.u8 0 ++ fed.i64 z
number_writes (form.NumberAt p next) = fed.u8 1 ++ fed.u32 p ++ fed.bool next
number_writes (form.Sum a b) = fed.u8 2 ++ number_writes a ++ number_writes b
number_writes (form.Difference a b) = fed.u8 3 ++ number_writes a ++ number_writes b
number_writes (form.Opposite a) = fed.u8 4 ++ number_writes a

abbrev pub choice_writes : Choice → HashWrites
choice_writes (form.Named n) = fed.u8 0 ++ fed.str n
choice_writes (form.NameAt p next) = fed.u8 1 ++ fed.u32 p ++ fed.bool next

abbrev pub proposition_writes : Proposition → HashWrites
proposition_writes (form.TruthAt p next) = fed.u8 0 ++ fed.u32 p ++ fed.bool next
proposition_writes (form.Equals a b) = fed.u8 1 ++ number_writes a ++ number_writes b
proposition_writes (form.AtMost a b) = fed.u8 2 ++ number_writes a ++ number_writes b
proposition_writes (form.SameName a b) = fed.u8 3 ++ choice_writes a ++ choice_writes b
