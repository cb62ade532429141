use Rattle.std.proofs.Common.{◌≡◌, Bool, List, [], Result, Ok, Err, sym, subst}
use Rattle.std.specs.Result.{IfOk}
use Rattle.oss_syntax.specs.declared.component.TreeComponent.{TreeComponent}
use Rattle.oss_syntax.specs.declared.interface.InterfaceItem.{InterfaceItem}
use Rattle.oss_syntax.specs.Alphabet.{Terminal}
use Rattle.oss_syntax.specs.Items.{direction, IsItem}
use Rattle.oss_syntax.specs.Steps.{Many}
use Rattle.oss_syntax.specs.Trees.{Item, Component, item_tree, component_trees}
use Rattle.oss_base.specs.Faults.{IfFault}
use Rattle.oss_base.specs.declared.fault.Stop.{Stop}
use Rattle.oss_base.specs.declared.fault.Stop.TheVariants as stops
use Rattle.oss_syntax.specs.Texts.{IsText}
use Rattle.oss_reader.specs.declared.halt.Halt.{Halt}
use Rattle.oss_reader.specs.declared.rest.Rest.{Rest}
use Rattle.oss_reader.specs.declared.halt.Halt.TheVariants as halts
use Rattle.oss_reader.specs.Reads.{OnBroken, Sole, Nothing, SoleUntil, NothingUntil, IsMark, ReadsAs}
use Rattle.oss_reader.specs.Rules.{IsPort, PortItem, IsWhole, AtEnd, HeadRead, SoleText, AnswersHalt, ReadsText, ReadsPort, ReadsComponents, ReadsSpec}
use Rattle.oss_syntax.specs.Texts.{IsNoText}
use Rattle.oss_reader.specs.Ahead.{ahead}
use Rattle.oss_reader.proofs.Rules.{item_port, item_port_never}
use Rattle.oss_reader.proofs.Sequences.{on_broken}
use Rattle.oss_reader.proofs.Texts.{text_sole, text_never}

-- what a call answers, said of what it was called for

pub text_result : (ts left : List Terminal) (r : Result (List TreeComponent) Halt) → HeadRead ts left
    → ReadsComponents left r → ReadsSpec ts r
text_result ts left (Ok tree) h m = text_sole ts left (component_trees tree) h m
text_result ts left (Err halt) h m = on_broken halt (NothingUntil (Many IsWhole) AtEnd left) (IsNoText ts) (text_never ts left h) m

pub port_result : (input : Bool) (ts mid : List Terminal) (r : Result (InterfaceItem × Rest) Halt)
    → IsMark (direction input) ts mid
    → ReadsPort input mid r → ReadsAs item_tree IsItem ts r
port_result input ts mid (Ok found) i m =
    subst (λ (x : Item). Sole IsItem ts x (ahead found.1)) (sym m.1) (item_port input ts mid m.0 (ahead found.1) i m.2)
port_result input ts mid (Err halt) i m = on_broken halt (Nothing IsPort mid) (Nothing IsItem ts) (item_port_never input ts mid i) m

pub refusal_reads : (ts : List Terminal) (halt : Halt) (r : Result (List TreeComponent) Stop) → AnswersHalt halt r
    → OnBroken halt (IsNoText ts) → ReadsText ts r
refusal_reads ts (halts.Broken _) (Ok _) is p = absurd is
refusal_reads ts (halts.Broken _) (Err (stops.Fault _)) is p = p
refusal_reads ts (halts.Broken _) (Err stops.NoMemory) is p = absurd is
refusal_reads ts halts.NoMemory (Ok _) is p = absurd is
refusal_reads ts halts.NoMemory (Err (stops.Fault _)) is p = absurd is
refusal_reads ts halts.NoMemory (Err stops.NoMemory) is p = tt

pub read_text : (ts us : List Terminal) (r : Result (List TreeComponent) Stop) → ts ≡ us → ReadsText ts r
    → IfOk r (λ tree. IsText us (component_trees tree))
read_text ts us (Ok tree) e h = subst (λ (x : List Terminal). IsText x (component_trees tree)) e h.holds
read_text ts us (Err stop) e h = tt

pub read_only : (ts us : List Terminal) (r : Result (List TreeComponent) Stop) → ts ≡ us → ReadsText ts r
    → IfOk r (λ tree. (other : List Component) → IsText us other → other ≡ component_trees tree)
read_only ts us (Ok tree) e h = λ other t. h.only other (subst (λ (x : List Terminal). IsText x other) (sym e) t)
read_only ts us (Err stop) e h = tt

pub read_none : (ts us : List Terminal) (r : Result (List TreeComponent) Stop) → ts ≡ us → ReadsText ts r
    → IfFault r (λ _. (other : List Component) → IsText us other → ⊥)
read_none ts us (Ok tree) e h = tt
read_none ts us (Err (stops.Fault fault)) e h = λ components t. h components (subst (λ (x : List Terminal). IsText x components) (sym e) t)
read_none ts us (Err stops.NoMemory) e h = tt
