-- The connections of what a text of a file without a fault stands for read free ports.
use Rattle.std.proofs.Common.{◌≡◌, ℕ, zero, suc, List, [], ◌∷◌, length, slice_get, Some, refl}
use Rattle.oss_syntax.specs.Terminals.{terminals_of}
use Rattle.spec_model.specs.Architecture.{wires_of, same_target, free_targets}
use Rattle.spec_model.specs.declared.wire.Source.{Source}
use Rattle.spec_model.specs.declared.wire.Source.TheVariants as source
use Rattle.spec_model.specs.declared.wire.Wire.{Wire}
use Rattle.connections.specs.Substitution.{source_reading}
use Rattle.architecture.specs.Laws.{ResolvedIsWellFormed, ResolvedIsConnected, TextsHaveStateSources, SourceReadsBelow}
use Rattle.architecture.proofs.Listing.{Each, each_found}
use Rattle.narrowed_questions.specs.NarrowedQuestions.{ReadingBelow}
use Rattle.file_types.specs.Laws.{FilesReadFreePorts}

-- what is so at each place is so of each element
each_there : {X : Type 0} (P : X → Type 0) (xs : List X) → ((n : ℕ) (x : X) → slice_get xs n ≡ Some x → P x) → Each P xs
each_there P [] so = tt
each_there P (x ∷ xs) so = (so zero x refl, each_there P xs (λ n y at. so (suc n) y at))

reading_below : (n : ℕ) (s : Source) → SourceReadsBelow n s → ReadingBelow n (source_reading s)
reading_below n (source.Truth f) h = h
reading_below n (source.Number t) h = h
reading_below n (source.Choice p) h = h

pub files_read : ResolvedIsWellFormed → ResolvedIsConnected → TextsHaveStateSources → FilesReadFreePorts
files_read well connected state bytes tokens all made most cut text clear stands = record {
  well_formed = well bytes all made clear (state (terminals_of bytes tokens) all text) stands;
  sources = λ c t w found.
      reading_below (length (free_targets made c)) w.source
      (each_found (λ (v : Wire). SourceReadsBelow (length (free_targets made c)) v.source) (λ (v : Wire). same_target v.target t) (wires_of made c)
      (each_there (λ (v : Wire). SourceReadsBelow (length (free_targets made c)) v.source) (wires_of made c)
      ((connected bytes all made clear stands).0 c)) w found);
}
