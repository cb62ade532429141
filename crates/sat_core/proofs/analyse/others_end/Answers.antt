use Rattle.std.proofs.Common.{◌<◌, ◌≤◌, ◌+◌, take, length, get_or, subst, sym, refl, arith, ◌∙◌}
use Rattle.std.proofs.lemmas.List.{take_all}
use Rattle.std.proofs.lemmas.Bool.{false≢true}
use Rattle.std.proofs.lemmas.List.Elements.{Contains-get_or}
use Rattle.sat_core.specs.Learning.{OthersFalse}
use Rattle.sat_core.proofs.Members.{any_lit, self_read}
use Rattle.sat_core.proofs.Analysis.{others_least, others-more, others-skip, max_left, max_right, max_least}
use Rattle.sat_core.proofs.analyse.others_end.Goals as goal
use Rattle.sat_core.proofs.analyse.others_end.Goals.{then-not-same, else-not-same}

pub loop-lit-preserved : goal.loop-lit-preserved
loop-lit-preserved c =
    let xs = c.args.lits.now in
    let i = c.loop-lit.lit-index in
    let x = get_or xs i any_lit in
    let steps = c.args.trail.now.steps.items in
    let h : i < length xs = omega arith in
    let r = self_read xs i h in
    let inv = c.loop-lit.invariant in
    elim c.if-not-same.branch [
      | then-not-same w ↦
          let a = w.after.ensures in
          let e = w.end-is ∙ w.max-end.ensures in
          let l : c.loop-lit.end ≤ c.if-not-same.end = subst (λ n. c.loop-lit.end ≤ n) (sym e) (max_left c.loop-lit.end w.after.result) in
          let m : w.after.result ≤ c.if-not-same.end = subst (λ n. w.after.result ≤ n) (sym e) (max_right c.loop-lit.end w.after.result) in
          record {
            covers = others-more steps xs i x h r c.loop-lit.end c.if-not-same.end a.0 c.args.but l (omega (arith, m, a.1)) a.3 inv.covers;
            least = λ n le o.
                let p = others_least steps c.args.trail.now.places.items c.requires.trail n a.0 x c.args.but xs o le (Contains-get_or xs i any_lit h)
                (λ q. false≢true (w.if-not-same.ensures.1 q)) a.2 a.3 in
                subst (λ q. q ≤ n) (sym e) (max_least c.loop-lit.end w.after.result n (inv.least n le o) (omega (arith, p, a.1)));
          }
      | else-not-same w ↦
          record {
            covers = subst (λ n. OthersFalse steps n (take (i + 1) xs) c.args.but) (sym w.end-is)
                (others-skip steps xs i x h r c.loop-lit.end c.args.but (w.if-not-same.ensures.0 refl) inv.covers);
            least = λ n le o. omega (arith, inv.least n le o, w.end-is);
          }
    ]

pub returns-clause-covers : goal.returns-clause-covers
returns-clause-covers c =
    subst (λ l. OthersFalse c.args.trail.now.steps.items c.loop-lit.end l c.args.but)
    (take_all c.loop-lit.lit-index c.args.lits.now (omega arith)) c.loop-lit.invariant.covers
