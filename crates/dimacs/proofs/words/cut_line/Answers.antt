use Rattle.std.proofs.Common.{◌∷◌, ◌+◌, ◌∙◌, ap, sym}
use Rattle.std.specs.Str.Lines.{lines}
use Rattle.std.proofs.lemmas.List.{take_rest}
use Rattle.dimacs.proofs.Cutting.{line_cut, last_line}
use Rattle.dimacs.proofs.words.cut_line.Goals as goal

pub returns-then-end-bytes-clause-cut : goal.returns-then-end-bytes-clause-cut
returns-then-end-bytes-clause-cut c =
    line_cut c.args.bytes.now c.run_len-end.result c.run_len-end.ensures.place c.if-end-bytes.true
    ∙ (λ j. sym c.without_return.ensures.value j ∷ lines (sym (take_rest c.args.bytes.now (c.run_len-end.result + 1)) j))

pub returns-else-end-bytes-clause-cut : goal.returns-else-end-bytes-clause-cut
returns-else-end-bytes-clause-cut c =
    last_line c.args.bytes.now c.run_len-end.result c.run_len-end.ensures.place c.if-end-bytes.false c.requires
    ∙ ap (λ u. c.args.bytes.now ∷ lines u) (sym (take_rest c.args.bytes.now c.run_len-end.result))
