-- What is always so of the lassos of a specification that a file is: its names and values can stand in a lasso file, so
-- that each lasso that is printed of it is read as itself (Biere, Cimatti, Clarke and Zhu, Symbolic Model Checking
-- without BDDs, 1999: a counterexample is a path with a loop back from its last state).
use Rattle.std.specs.Prelude.{◌≡◌, ℕ, ◌≤◌, List, length, Some, None, slice_get}
use Rattle.oss_base.specs.Limits.{most_bytes}
use Rattle.oss_base.specs.declared.ids.ComponentId.{ComponentId}
use Rattle.oss_syntax.specs.Terminals.{terminals_of}
use Rattle.oss_syntax.specs.Texts.{IsText}
use Rattle.oss_syntax.specs.Tokens.{AreTokens}
use Rattle.oss_syntax.specs.Trees.{Component}
use Rattle.oss_syntax.specs.declared.token.Token.{Token}
use Rattle.spec_model.specs.declared.spec.Component as model
use Rattle.spec_model.specs.declared.spec.Spec.{Spec}
use Rattle.architecture.specs.FirstFaults.{tree_site}
use Rattle.architecture.specs.Standing.{Stands}
use Rattle.replay.specs.FreePortNames.{free_names}
use Rattle.spec_model.specs.FreeTypes.{free_types}
use Rattle.replay.specs.LassoBlocks.{lasso_block}
use Rattle.replay.specs.LassoFiles.{IsLasso, most_states}
use Rattle.replay.specs.Laws.{HasFileNames, FitsPorts}
use Rattle.replay.specs.declared.named.NamedLasso.{NamedLasso}

-- Of what a text without a fault stands for, each component is found by its name, and the names of a component, of its
-- free ports and of their values can stand in a lasso file.
abbrev pub ResolvedHasFileNames : Type 0
ResolvedHasFileNames =
    (bytes : List ℕ) (tokens : List Token) (all : List Component) (spec : Spec) → AreTokens bytes tokens
    → IsText (terminals_of bytes tokens) all → tree_site (length bytes) all ≡ None → Stands bytes all spec
    → (c : ComponentId) (k : model.Component) → slice_get spec.components c.0 ≡ Some k
    → HasFileNames spec k.name c

-- A lasso of a component of what a text without a fault stands for, printed with the component's name, is read as
-- itself, within the limits on states and bytes.
abbrev pub BlocksOfFilesReadBack : Type 0
BlocksOfFilesReadBack =
    (bytes : List ℕ) (tokens : List Token) (all : List Component) (spec : Spec) → AreTokens bytes tokens
    → IsText (terminals_of bytes tokens) all → tree_site (length bytes) all ≡ None → Stands bytes all spec
    → (named : NamedLasso) (k : model.Component) → slice_get spec.components named.component.0 ≡ Some k
    → FitsPorts (free_types spec named.component) named.lasso.states
    → length named.lasso.states ≤ most_states
    → length (lasso_block k.name (free_names spec named.component) named.lasso) ≤ most_bytes
    → IsLasso spec (lasso_block k.name (free_names spec named.component) named.lasso) named
