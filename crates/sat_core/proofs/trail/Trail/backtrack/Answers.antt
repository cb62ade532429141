use Rattle.std.proofs.Common.{◌≡◌, ◌∷◌, ◌++◌, [], ◌<◌, take, length, ap, sym, ◌∙◌, subst, arith, None}
use Rattle.std.proofs.lemmas.List.{length-set, take-append-le, length_push}
use Rattle.sat_core.specs.Search.{IsTrail}
use Rattle.sat_core.proofs.Trails.{IsTrail-pop}
use Rattle.sat_core.proofs.trail.Trail.backtrack.Goals as goal

pub loop-self-preserved-in-Some : goal.loop-self-preserved-in-Some
loop-self-preserved-in-Some c =
    let places = c.loop-self.self.places.items in
    let rest = c.pop.new.self.items in
    let popped : c.loop-self.self.steps.items ≡ rest ++ c.in-Some.step ∷ [] = c.in-Some.ensures.items in
    let long : c.args.keep < length (rest ++ c.in-Some.step ∷ []) = subst (λ l. c.args.keep < length l) popped (omega arith) in
    record {
      trail = IsTrail-pop rest places c.in-Some.step (subst (λ l. IsTrail l places) popped c.loop-self.invariant.trail);
      vars = length-set places _ None ∙ c.loop-self.invariant.vars;
      steps = sym (take-append-le c.args.keep rest (c.in-Some.step ∷ []) (omega (arith, length_push rest c.in-Some.step))) ∙ ap
          (λ l. take c.args.keep l) (sym popped) ∙ c.loop-self.invariant.steps;
    }
