use Rattle.std.proofs.Common.{◌∷◌, ◌∙◌, ap, sym}
use denote.Enum.Bare.{same_false}
use Rattle.oss_syntax.specs.contracts.expression.BinaryWord as words
use Rattle.oss_syntax.specs.contracts.terminal.Mark as marks
use Rattle.oss_reader.specs.Ahead.{ahead}
use Rattle.oss_reader.specs.Leads.{lead_terminal}
use Rattle.oss_reader.proofs.Begins.{never_binary, never_mark}
use Rattle.oss_reader.proofs.Operands.{never_end}
use Rattle.oss_reader.proofs.cursor.operand_start.Goals as goal

pub returns-in-None : goal.returns-in-None
returns-in-None c = λ role room k t r p. never_end role room k (ahead c.args.terminals) c.in-None.ensures t r p

pub returns-else-eq : goal.returns-else-eq
returns-else-eq c = λ role room k t r p.
    never_binary role room k (ahead c.args.terminals) c.in-Binary.word c.in-Binary.span (ahead c.in-Some.more)
    (c.in-Some.ensures ∙ ap (λ l. lead_terminal l ∷ ahead c.in-Some.more) c.in-Binary.is)
    (same_false words.the_type _ _ (sym c.if-eq.ensures)) t r p

pub returns-else-eq-3 : goal.returns-else-eq-3
returns-else-eq-3 c = λ role room k t r p.
    never_mark role room k (ahead c.args.terminals) c.in-Mark.mark c.in-Mark.span (ahead c.in-Some.more)
    (c.in-Some.ensures ∙ ap (λ l. lead_terminal l ∷ ahead c.in-Some.more) c.in-Mark.is)
    (same_false marks.the_type _ _ (sym c.if-eq-2.ensures)) (same_false marks.the_type _ _ (sym c.if-eq-3.ensures)) t r p
