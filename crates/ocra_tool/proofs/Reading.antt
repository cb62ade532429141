-- What reading answers, as facts on the bytes.
use Rattle.std.proofs.Common.{◌≡◌, ℕ, ◌<◌, ◌≤◌, List, length, Option, Some, None, Result, Ok, Err, IfOk, IfErr, OnOk, IfSome, subst}
use Rattle.std.proofs.Math.Logic.{inl, inr}
use Rattle.oss_base.specs.Faults.{IfFault}
use Rattle.oss_base.specs.Limits.{most_bytes}
use Rattle.oss_base.specs.declared.fault.Fault.{Fault}
use Rattle.oss_base.specs.declared.fault.FaultKind.TheVariants.{F1}
use Rattle.oss_base.specs.declared.fault.Stop.{Stop}
use Rattle.oss_base.specs.declared.fault.Stop.TheVariants as stops
use Rattle.oss_lexer.specs.Laws.{OneTokenList}
use Rattle.oss_syntax.specs.declared.component.TreeComponent.{TreeComponent}
use Rattle.oss_syntax.specs.declared.token.Token.{Token}
use Rattle.oss_syntax.specs.SyntaxFaults.{IsSyntaxKind}
use Rattle.oss_syntax.specs.Terminals.{terminals_of}
use Rattle.oss_syntax.specs.Texts.{IsText}
use Rattle.oss_syntax.specs.Tokens.{AreTokens}
use Rattle.oss_syntax.specs.Trees.{Component, component_trees}
use Rattle.architecture.specs.FirstFaults.{tree_site, Refuses}
use Rattle.architecture.specs.Standing.{Stands}
use Rattle.spec_model.specs.declared.spec.Spec.{Spec}
use Rattle.architecture.specs.Laws.{StandsIsUnique}
use Rattle.levels.specs.LevelFaults.{first_level_fault}
use Rattle.ocra_tool.specs.Files.{IsTreeOf, IsSoleTreeOf, IsSpecOf, IsSoleSpecification, IsFaultOf, at_start}
use Rattle.ocra_tool.specs.Tasks.{IsFaultFor}
use Rattle.ocra_tool.specs.Words.{Task}
use Rattle.ocra_tool.proofs.Excluded.{sole_spec}

same_tree : OneTokenList → (bytes : List ℕ) (tokens : List Token) (all : List Component) → AreTokens bytes tokens
    → ((others : List Component) → IsText (terminals_of bytes tokens) others → others ≡ all)
    → (others : List Component) → IsTreeOf bytes others → others ≡ all
same_tree one bytes tokens all cut only others tree =
    only others (subst (λ (ts : List Token). IsText (terminals_of bytes ts) others) (one bytes tree.tokens tokens tree.cut cut) tree.text)

pub sole_tree : OneTokenList → (bytes : List ℕ) (tokens : List Token) (r : Result (List TreeComponent) Stop)
    → length bytes ≤ most_bytes → AreTokens bytes tokens
    → IfOk r (λ trees. IsText (terminals_of bytes tokens) (component_trees trees))
    → IfOk r (λ trees. (others : List Component) → IsText (terminals_of bytes tokens) others → others ≡ component_trees trees)
    → IfOk r (λ trees. IsSoleTreeOf bytes (component_trees trees))
sole_tree one bytes tokens (Ok trees) short cut text only = record {
  tree = record { short = short; tokens = tokens; cut = cut; text = text };
  sole = same_tree one bytes tokens (component_trees trees) cut only;
}
sole_tree one bytes tokens (Err stop) short cut text only = tt

pub syntax_fault : (width : ℕ) (bytes : List ℕ) (tokens : List Token) (r : Result (List TreeComponent) Stop)
    → length bytes ≤ most_bytes → AreTokens bytes tokens
    → IfFault r (λ _. (components : List Component) → IsText (terminals_of bytes tokens) components → ⊥)
    → IfFault r (λ fault. IsSyntaxKind fault.kind)
    → IfFault r (IsFaultOf width bytes)
syntax_fault width bytes tokens (Ok trees) short cut none kind = tt
syntax_fault width bytes tokens (Err (stops.Fault fault)) short cut none kind =
    inr (inr (inl (record { short = short; tokens = tokens; cut = cut; no_text = none; kind = kind })))
syntax_fault width bytes tokens (Err stops.NoMemory) short cut none kind = tt

-- What is answered on a tree.

pub spec_of : (bytes : List ℕ) (all : List Component) (r : Result Spec Stop)
    → IfOk r (λ s. (tree_site (length bytes) all ≡ None) × Stands bytes all s) → IfOk r (IsSpecOf bytes all)
spec_of bytes all (Ok s) is = record { faultless = is.0; stands = is.1 }
spec_of bytes all (Err stop) is = tt

pub first_fault : (width : ℕ) (bytes : List ℕ) (all : List Component) (r : Result Spec Stop) → IsSoleTreeOf bytes all
    → IfErr r (Refuses bytes all) → IfFault r (IsFaultOf width bytes)
first_fault width bytes all (Ok s) sole refuses = tt
first_fault width bytes all (Err (stops.Fault fault)) sole refuses =
    inr (inr (inr (inl (record { components = all; tree = sole; first = refuses }))))
first_fault width bytes all (Err stops.NoMemory) sole refuses = tt

-- What is answered on levels.

pub level_spec : {T : Type 0} → StandsIsUnique → (width : ℕ) (bytes : List ℕ) (all : List Component) (s : Spec) (r : Result T Stop)
    → IsSoleTreeOf bytes all → IsSpecOf bytes all s → OnOk r (first_level_fault width s ≡ None) → OnOk r (IsSoleSpecification width bytes s)
level_spec unique width bytes all s (Ok levels) sole of clear = sole_spec unique width bytes all s sole of clear
level_spec unique width bytes all s (Err stop) sole of clear = tt

pub level_fault : {T : Type 0} (width : ℕ) (bytes : List ℕ) (all : List Component) (s : Spec) (r : Result T Stop)
    → IsSoleTreeOf bytes all → IsSpecOf bytes all s → IfFault r (λ fault. first_level_fault width s ≡ Some fault)
    → IfFault r (IsFaultOf width bytes)
level_fault width bytes all s (Ok levels) sole of first = tt
level_fault width bytes all s (Err (stops.Fault fault)) sole of first =
    inr (inr (inr (inr (record { components = all; spec = s; tree = sole; of = of; first = first }))))
level_fault width bytes all s (Err stops.NoMemory) sole of first = tt

-- What is answered on bytes that are too many.
pub size_fault : (task : Task) (told : Option (List ℕ)) (fault : Fault) → fault ≡ at_start F1
    → IfSome told (λ held. most_bytes < length held)
    → IfSome told (λ bytes. IsFaultFor task bytes fault)
size_fault task None fault is long = tt
size_fault task (Some bytes) fault is long = inl (record { long = long; is = is })
