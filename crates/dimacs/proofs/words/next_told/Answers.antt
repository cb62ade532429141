use Rattle.std.proofs.Common.{arith}
use Rattle.dimacs.proofs.Cutting.{empty_where}
use Rattle.dimacs.proofs.ReadingLaws.{one_more_word, next_line_read, all_read}
use Rattle.dimacs.proofs.words.next_told.Goals as goal

pub returns-in-Some-clause-word : goal.returns-in-Some-clause-word
returns-in-Some-clause-word c = λ text words read.
    one_more_word text _ _ _ _ _ words c.in-Some.ensures.some (c.lines.invariant.same text words read)

pub returns-in-Some-clause-line : goal.returns-in-Some-clause-line
returns-in-Some-clause-line c = λ text words read.
    let r = c.lines.invariant.same text words read in r.before

pub returns-then-is_empty-clause-end : goal.returns-then-is_empty-clause-end
returns-then-is_empty-clause-end c = λ text words read.
    all_read text c.lines.at c.lines.line.now c.lines.left.now words c.in-None.ensures.none
    (empty_where c.lines.left.now c.if-is_empty.ensures) (c.lines.invariant.same text words read)

pub lines-preserved : goal.lines-preserved
lines-preserved c = record {
  same = λ text words read. next_line_read text c.lines.at _ _ _ _ _ words c.in-None.ensures.none c.cut_line.ensures.cut
      c.told_part-line.ensures.words (c.lines.invariant.same text words read);
  further = omega (arith, c.cut_line.ensures.shorter, c.lines.invariant.further);
  shorter = omega (arith, c.cut_line.ensures.together, c.told_part-line.ensures.shorter, c.lines.invariant.shorter);
}
