use Rattle.std.proofs.Common.{◌≡◌, ◌<◌, ◌+◌, ◌++◌, ◌∷◌, [], ℕ, List, true, false, length, length-append, subst, sym, ap, ◌∙◌, arith}
use Rattle.std.proofs.lemmas.List.{get_or_default}
use Rattle.std.proofs.lemmas.Option.{MatchOption-at_some, MatchOption-at_none}
use Rattle.fault_tree.specs.Expansions.{IsExpandedBelow}
use Rattle.fault_tree.specs.Forming.{table_sets}
use Rattle.fault_tree.specs.Tables.{AllRising, IsSetsFor, IsStopped}
use Rattle.fault_tree.specs.Trees.{here}
use Rattle.fault_tree.proofs.TableLaws.{expanded_more, rising_more, expanded_to}
use Rattle.fault_tree.proofs.expanding.expand.Goals as goal

pub node_sets-requires-clause-rising : goal.node_sets-requires-clause-rising
node_sets-requires-clause-rising c =
    subst (λ (t : List (List (List ℕ))). AllRising (table_sets t)) (sym c.as_slice.ensures) c.loop-node.invariant.rising

pub loop-node-preserved : goal.loop-node-preserved
loop-node-preserved c =
    let low : c.loop-node.node < length c.in_ok-marks.marks.items =
    omega (arith, c.loop-node-test.true, c.requires.within, c.in_ok-marks.ensures.long) in
    let is : IsSetsFor c.args.nodes.now (table_sets c.loop-node.table) c.loop-node.node c.index.result.now c.in-Some.sets =
    subst (λ (t : List (List (List ℕ))).
    IsSetsFor c.args.nodes.now (table_sets t) c.loop-node.node c.index.result.now c.in-Some.sets) c.as_slice.ensures
    (MatchOption-at_some _ _ c.in-Some.sets c.in-Some.is c.in_ok-sets.ensures) in
    let new : c.push.new.self ≡ c.loop-node.table ++ c.in-Some.sets ∷ [] = c.in_ok-push-in-Some.ensures.ok in
    record {
      long = omega (
        arith,
        ap (λ (t : List (List (List ℕ))). length t) new,
        c.loop-node.invariant.long,
        length-append c.loop-node.table (c.in-Some.sets ∷ []),
      );
      below = subst (λ (t : List (List (List ℕ))).
          IsExpandedBelow c.args.nodes.now c.args.top (c.loop-node.node + 1) (table_sets t)) (sym new)
          (expanded_more c.args.nodes.now c.requires.order c.args.top c.loop-node.node c.index.result.now c.loop-node.table
          c.in-Some.sets c.loop-node.invariant.long
          (λ path. c.index.ensures ∙ get_or_default c.in_ok-marks.marks.items c.loop-node.node c.index.result.now false low
          ∙ c.in_ok-marks.ensures.every c.loop-node.node path)
          is c.loop-node.invariant.below);
      rising = subst (λ (t : List (List (List ℕ))). AllRising (table_sets t)) (sym new)
          (rising_more c.loop-node.table c.in-Some.sets c.loop-node.invariant.rising is.rising);
    }

pub node_sets-requires-2-clause-rising : goal.node_sets-requires-2-clause-rising
node_sets-requires-2-clause-rising c =
    subst (λ (t : List (List (List ℕ))). AllRising (table_sets t)) (sym c.as_slice-2.ensures) c.loop-node.invariant.rising

pub returns-in-Some-2 : goal.returns-in-Some-2
returns-in-Some-2 c =
    let end : c.loop-node.node ≡ c.args.top = omega (arith, c.loop-node-test.false, c.loop-node.auto.node-end) in
    let is : IsSetsFor c.args.nodes.now (table_sets c.loop-node.table) c.args.top true c.in-Some-2.sets =
    subst (λ (t : List (List (List ℕ))). IsSetsFor c.args.nodes.now (table_sets t) c.args.top true c.in-Some-2.sets)
    c.as_slice-2.ensures (MatchOption-at_some _ _ c.in-Some-2.sets c.in-Some-2.is c.in_ok-sets-2.ensures) in
    expanded_to c.args.nodes.now c.requires.order c.args.top c.loop-node.table c.in-Some-2.sets
    (c.loop-node.invariant.long ∙ end) is
    (subst (λ (k : ℕ). IsExpandedBelow c.args.nodes.now c.args.top k (table_sets c.loop-node.table)) end
    c.loop-node.invariant.below)

pub returns : goal.returns
returns c =
    let end : c.loop-node.node ≡ c.args.top = omega (arith, c.loop-node-test.false, c.loop-node.auto.node-end) in
    let stopped : IsStopped c.args.nodes.now (table_sets c.loop-node.table) c.args.top true =
    subst (λ (t : List (List (List ℕ))). IsStopped c.args.nodes.now (table_sets t) c.args.top true) c.as_slice-2.ensures
    (MatchOption-at_none _ _ c.in-None-2.is c.in_ok-sets-2.ensures) in
    record {
      sets = table_sets c.loop-node.table;
      below = subst (λ (k : ℕ). IsExpandedBelow c.args.nodes.now c.args.top k (table_sets c.loop-node.table)) end
          c.loop-node.invariant.below;
      reached = here;
      wide = stopped.wide;
    }
