use Rattle.std.proofs.Common.{◌≡◌, ◌<◌, ◌-◌, Bool, false, List, length, get_or, subst, sym, ap, refl, ◌∙◌, arith, rules}
use Rattle.std.proofs.lemmas.Bool.{false≢true}
use Rattle.std.proofs.lemmas.List.{get_or_default}
use Rattle.fault_tree.specs.declared.nodes.TreeNode.{TreeNode}
use Rattle.fault_tree.specs.Trees.{IsNode}
use Rattle.fault_tree.specs.Marks.{IsMarked, IsNamedIn, IsReaching, Marks, cuts_of}
use Rattle.fault_tree.proofs.Marking.{node_at, members_within, written, none_marked, reaching_start, reaching_past, reaching_more, reaching_end}
use Rattle.fault_tree.proofs.reaching.reached.Goals as goal

pub loop-node-init : goal.loop-node-init
loop-node-init c =
    let long : length c.in_ok-marks.marks.items ≡ length c.args.nodes.now =
    omega (arith, c.in_ok-marks.marks.ok.0, c.in_ok-marks.ensures.len, c.len.ensures) in
    record {
      reaching = reaching_start c.args.nodes.now c.args.top c.in_ok-marks.marks.items _ long
          (none_marked c.in_ok-marks.marks.items c.len.result (c.in_ok-marks.ensures.items_if_clones_equal (λ y is. search rules))) refl
          (omega arith);
      within = omega arith;
    }

pub mark_members-requires : goal.mark_members-requires
mark_members-requires c =
    let at : IsNode c.args.nodes.now (c.loop-node.node - 1) c.index-as_slice-node.result =
    node_at c.args.nodes.now (c.loop-node.node - 1) c.index-as_slice-node.result (omega arith)
    (c.index-as_slice-node.is
    ∙ ap (λ (l : List TreeNode). get_or l (c.loop-node.node - 1) c.index-as_slice-node.result) c.as_slice.ensures) in
    members_within c.args.nodes.now c.requires.order (c.loop-node.node - 1) (length c.deref_mut.result.now)
    c.index-as_slice-node.result at
    (omega (arith, ap (λ (l : List Bool). length l) c.deref_mut.ensures.value, c.loop-node.invariant.reaching.long))

pub loop-node-preserved-then-index : goal.loop-node-preserved-then-index
loop-node-preserved-then-index c =
    let low : c.loop-node.node - 1 < length c.args.nodes.now = omega arith in
    let at : IsNode c.args.nodes.now (c.loop-node.node - 1) c.index-as_slice-node.result =
    node_at c.args.nodes.now (c.loop-node.node - 1) c.index-as_slice-node.result low
    (c.index-as_slice-node.is
    ∙ ap (λ (l : List TreeNode). get_or l (c.loop-node.node - 1) c.index-as_slice-node.result) c.as_slice.ensures) in
    let marks : Marks c.loop-node.marks.items c.mark_members.new.marks (IsNamedIn (cuts_of c.index-as_slice-node.result)) =
    subst (λ (l : List Bool). Marks l c.mark_members.new.marks (IsNamedIn (cuts_of c.index-as_slice-node.result)))
    c.deref_mut.ensures.value c.mark_members.ensures in
    let marked : IsMarked c.loop-node.marks.items (c.loop-node.node - 1) =
    get_or_default c.loop-node.marks.items (c.loop-node.node - 1) false c.index.result.now
    (omega (arith, low, c.loop-node.invariant.reaching.long)) ∙ sym c.index.ensures ∙ c.if-index.true in
    record {
      reaching = subst (λ (l : List Bool). IsReaching c.args.nodes.now c.args.top l (c.loop-node.node - 1))
          (sym (written c.loop-node.marks.items c.mark_members.new.marks c.loop-node.marks.len marks.long
          (omega (arith, c.loop-node.marks.ok.0))))
          (reaching_more c.args.nodes.now c.args.top c.loop-node.marks.items c.mark_members.new.marks (c.loop-node.node - 1)
          c.loop-node.node c.index-as_slice-node.result (omega (arith, c.loop-node-test.true)) c.requires.order at marked marks
          c.loop-node.invariant.reaching);
      within = omega (arith, c.loop-node.invariant.within);
    }

pub loop-node-preserved : goal.loop-node-preserved
loop-node-preserved c =
    let low : c.loop-node.node - 1 < length c.loop-node.marks.items =
    omega (arith, c.loop-node-test.true, c.loop-node.invariant.within, c.loop-node.invariant.reaching.long) in
    record {
      reaching = reaching_past c.args.nodes.now c.args.top c.loop-node.marks.items (c.loop-node.node - 1) c.loop-node.node
          (omega (arith, c.loop-node-test.true))
          (λ marked. false≢true (sym c.if-index.false ∙ c.index.ensures
          ∙ get_or_default c.loop-node.marks.items (c.loop-node.node - 1) c.index.result.now false low ∙ marked))
          c.loop-node.invariant.reaching;
      within = omega (arith, c.loop-node.invariant.within);
    }

pub returns : goal.returns
returns c =
    reaching_end c.args.nodes.now c.args.top c.loop-node.marks.items c.loop-node.node c.loop-node-test.false
    c.loop-node.invariant.reaching
