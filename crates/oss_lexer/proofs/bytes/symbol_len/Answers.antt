use Rattle.std.proofs.Common.{sym, ◌∙◌}
use Rattle.oss_lexer.proofs.Symbols.{symbol_of_three, symbol_of_two, symbol_of_one, no_symbol}
use Rattle.oss_lexer.proofs.bytes.symbol_len.Goals as goal

pub returns-then-begins_with_three : goal.returns-then-begins_with_three
returns-then-begins_with_three c = symbol_of_three _ (sym c.begins_with_three.ensures ∙ c.if-begins_with_three.true)

pub returns-then-begins_with_two : goal.returns-then-begins_with_two
returns-then-begins_with_two c =
    symbol_of_two _ (sym c.begins_with_three.ensures ∙ c.if-begins_with_three.false) (sym c.begins_with_two.ensures ∙ c.if-begins_with_two.true)

pub returns-then-begins_with_one : goal.returns-then-begins_with_one
returns-then-begins_with_one c =
    symbol_of_one _ (sym c.begins_with_three.ensures ∙ c.if-begins_with_three.false) (sym c.begins_with_two.ensures ∙ c.if-begins_with_two.false)
    (sym c.begins_with_one.ensures ∙ c.if-begins_with_one.true)

pub returns-else-begins_with_one : goal.returns-else-begins_with_one
returns-else-begins_with_one c =
    no_symbol _ (sym c.begins_with_three.ensures ∙ c.if-begins_with_three.false) (sym c.begins_with_two.ensures ∙ c.if-begins_with_two.false)
    (sym c.begins_with_one.ensures ∙ c.if-begins_with_one.false)
