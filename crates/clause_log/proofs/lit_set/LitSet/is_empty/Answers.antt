use Rattle.std.proofs.Common.{◌∙◌, sym, ap, List}
use Rattle.std.proofs.lemmas.Bool.{eqb-true, eq-eqb}
use Rattle.clause_log.specs.declared.lit_set.Signs.{Signs}
use Rattle.clause_log.specs.Marks.{mark_of}
use Rattle.clause_log.proofs.SetLaws.{none_if_zero, zero_if_none}
use Rattle.clause_log.proofs.lit_set.LitSet.is_empty.Goals as goal

pub returns : goal.returns
returns c = (
  λ h lit. ap (λ (m : List Signs). mark_of m lit) (sym c.self.view_is) ∙ none_if_zero c.self.inside.marks.items
      (sym c.self.invariant.0 ∙ eqb-true c.self.inside.len 0 h) lit,
  λ none. eq-eqb c.self.inside.len 0 (c.self.invariant.0 ∙ zero_if_none c.self.inside.marks.items
      (λ lit. ap (λ (m : List Signs). mark_of m lit) c.self.view_is ∙ none lit)),
)
