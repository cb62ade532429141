-- What is always so of files.
use Rattle.std.specs.Prelude.{◌≡◌, ℕ, List}
use Rattle.oss_base.specs.declared.fault.Fault.{Fault}
use Rattle.level_verdicts.specs.Verdicts.{CanBeDecided}
use Rattle.replay.specs.declared.named.NamedLasso.{NamedLasso}
use Rattle.replay.specs.Judgements.{HasModerateTerms}
use Rattle.replay.specs.LassoFiles.{IsLasso}
use Rattle.spec_model.specs.declared.spec.Spec.{Spec}
use Rattle.ocra_tool.specs.Files.{IsSpecification, IsSoleSpecification}
use Rattle.ocra_tool.specs.Replays.{IsReplayTextOf}
use Rattle.ocra_tool.specs.Tasks.{SecondFault, IsSound, IsFaultFor, AreSound, IsSecondFaultFor}
use Rattle.ocra_tool.specs.Words.{Task, default_width}

-- A file without a fault for a task has none.
abbrev pub SoundHasNoFault : Type 0
SoundHasNoFault = (task : Task) (bytes : List ℕ) (fault : Fault) → IsSound task bytes → IsFaultFor task bytes fault → ⊥

-- The same of the second file.
abbrev pub SoundHasNoSecondFault : Type 0
SoundHasNoSecondFault = (task : Task) (bytes second : List ℕ) (fault : SecondFault) → AreSound task bytes second
    → IsSecondFaultFor task bytes second fault → ⊥

-- The levels of a specification that is a file can be decided.
abbrev pub FilesCanBeDecided : Type 0
FilesCanBeDecided = (width : ℕ) (bytes : List ℕ) (spec : Spec) → IsSpecification width bytes spec → CanBeDecided spec

-- Terms stay moderate where a lasso of a file's specification is judged.
abbrev pub ReplaysAreModerate : Type 0
ReplaysAreModerate = (width : ℕ) (bytes second : List ℕ) (spec : Spec) (named : NamedLasso)
    → IsSpecification width bytes spec
    → IsLasso spec second named → HasModerateTerms spec named

-- Two files have one text of judgements.
abbrev pub ReplaysHaveOneText : Type 0
ReplaysHaveOneText = (bytes second text other : List ℕ) (spec : Spec) → IsSoleSpecification default_width bytes spec
    → IsReplayTextOf bytes second text → IsReplayTextOf bytes second other → other ≡ text
