use Rattle.std.proofs.Common.{sym, subst, ap, ◌∙◌, nat_eq}
use Rattle.std.proofs.lemmas.List.Filters.{dedup_is}
use Rattle.std.proofs.lemmas.List.Sorted.{list_any-IsPermutation}
use Rattle.std.specs.List.{list_any}
use Rattle.spec_model.specs.FreePlaces.{Rises}
use Rattle.spec_model.proofs.FreePlaces.{sorted_rises, any_dedup}
use Rattle.levels.proofs.places.rising.Goals as goal

pub returns-clause-rises : goal.returns-clause-rises
returns-clause-rises c = subst (Rises 0) (sym (dedup_is _ _ _ c.dedup.ensures.filtered)) (sorted_rises _ c.sort_unstable.ensures.sorted)

pub returns-clause-same : goal.returns-clause-same
returns-clause-same c = λ k.
    ap (list_any (nat_eq k)) (dedup_is _ _ _ c.dedup.ensures.filtered)
    ∙ (any_dedup k _ ∙ sym (list_any-IsPermutation (nat_eq k) _ _ c.sort_unstable.ensures.permutation))
