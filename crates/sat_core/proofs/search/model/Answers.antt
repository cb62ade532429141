use Rattle.std.proofs.Common.{◌+◌, length, ap, ◌∙◌, arith}
use Rattle.std.proofs.lemmas.List.{length_push}
use Rattle.sat_core.proofs.Models.{reflects_next, model_of}
use Rattle.sat_core.proofs.search.model.Goals as goal

pub loop-var-preserved : goal.loop-var-preserved
loop-var-preserved c =
    let e = c.in_ok-push.ensures.items in
    record {
      count = ap length e ∙ length_push c.loop-var.values.items c.holds.result ∙ ap (λ n. n + 1) c.loop-var.invariant.count;
      reflects = reflects_next c.args.trail.now.steps.items c.loop-var.values.items c.push.new.self.items c.loop-var.var c.holds.result
          c.loop-var.invariant.count e c.loop-var.invariant.reflects c.holds.ensures;
    }

pub returns : goal.returns
returns c =
    let f = c.args.database in
    model_of c.args.trail.now.steps.items c.args.trail.now.places.items f.added.now f.learnt.now f.assumed.now c.loop-var.values.items
    c.from_vec.result c.loop-var.var c.from_vec.ensures c.loop-var.invariant.count (omega (arith, c.vars-var-end.ensures))
    (omega (arith, c.vars-var-end.ensures, c.loop-var.auto.var-end))
    (record {
      trail = c.requires.trail;
      placed = c.requires.placed;
      within = c.requires.within;
      none_false = c.requires.true_;
      assumptions = c.requires.assumed;
    })
    c.loop-var.invariant.reflects
