use Rattle.std.proofs.Common.{◌∙◌, ◌++◌, ℕ, List, refl, ap}
use Rattle.std.specs.List.{flat_map}
use Rattle.typed_ltl.specs.Formulas.{meaning}
use Rattle.first_lasso.specs.FormulaPorts.{formula_ports}
use Rattle.levels.specs.Steps.{part_reads}
use Rattle.levels.proofs.Lists.{level_read}
use Rattle.levels.proofs.reading.read_ports.Goals as goal

pub returns : goal.returns
returns c =
    let a = formula_ports (meaning c.args.formulas.now.assume) in
    let g = formula_ports (meaning c.args.formulas.now.guarantee) in
    level_read c.args.formulas.now a g c.put_parts.new.ports.items refl refl
    (c.in_ok-put_parts.ensures ∙ (λ j. (c.in_ok-put_both.ensures ∙ ap (λ (l : List ℕ). l ++ (a ++ g)) c.new-ports.ensures.items) j
    ++ flat_map part_reads (c.as_slice.ensures j)))
