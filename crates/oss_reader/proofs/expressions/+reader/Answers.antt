use Rattle.std.proofs.Common.{◌-◌, ℕ, List, sym, subst, arith}
use Rattle.oss_syntax.specs.declared.terminal.Mark.TheVariants as mark
use Rattle.oss_syntax.specs.Alphabet.{Terminal}
use Rattle.oss_syntax.specs.Expressions.{tree, prefix_level}
use Rattle.oss_syntax.specs.Formulas.{SpellsPrefix}
use Rattle.oss_reader.specs.Phrases.{NoPhrase, OnlyPhrase, EndsAtLevel}
use Rattle.oss_reader.specs.Reads.{NoMark}
use Rattle.oss_reader.specs.Ahead.{ahead}
use Rattle.oss_reader.proofs.Grouping.{stops_before, only_here, never_dot, never_operator, begins_more}
use Rattle.oss_reader.proofs.Operands.{prefix_left, begins_numeral, begins_truth, begins_brackets, never_brackets, never_unclosed, never_prefix, begins_prefix}
use Rattle.oss_reader.proofs.Begins.{begin_halted, step_halted}
use Rattle.oss_reader.proofs.expressions.+reader.Goals as goal

pub brackets-returns-then-room-lt2 : goal.brackets-returns-then-room-lt2
brackets-returns-then-room-lt2 t c = never_brackets c.args.role c.args.room c.args.max (ahead c.args.terminals) c.args.span
    (ahead c.args.more) c.requires.begins (λ two. absurd (let few = c.if-room-lt2.true in omega arith))

pub brackets-returns-in_err-inside : goal.brackets-returns-in_err-inside
brackets-returns-in_err-inside t c =
    begin_halted c.args.role c.args.room c.args.max (ahead c.args.terminals) c.from_residual.result c.in_err-inside.field-0.0
    (NoPhrase c.args.role (c.args.room - 1) 10 (ahead c.args.more))
    c.from_residual.ensures.1 c.in_err-inside.ensures
    (λ none. never_brackets c.args.role c.args.room c.args.max (ahead c.args.terminals) c.args.span (ahead c.args.more) c.requires.begins (λ two. none))

pub brackets-returns-in_err-closed : goal.brackets-returns-in_err-closed
brackets-returns-in_err-closed t c =
    begin_halted c.args.role c.args.room c.args.max (ahead c.args.terminals) c.from_residual-in_err-closed.result c.in_err-closed.field-0.0
    (NoMark mark.Close (ahead c.in_ok-inside.rest))
    c.from_residual-in_err-closed.ensures.1 c.in_err-closed.ensures
    (λ none. never_unclosed c.args.role c.args.room c.args.max (ahead c.args.terminals) c.args.span (ahead c.args.more)
    (tree c.in_ok-inside.inside.expr) (ahead c.in_ok-inside.rest) c.requires.begins c.in_ok-inside.ensures none)

pub brackets-returns : goal.brackets-returns
brackets-returns t c =
    rw c.in_ok-brackets_expr.ensures
    (begins_brackets c.args.role c.args.room c.args.max (ahead c.args.terminals) c.args.span (ahead c.args.more) (tree c.in_ok-inside.inside.expr)
    (ahead c.in_ok-inside.rest) c.in_ok-closed.ensures.span (ahead c.in_ok-closed.closed)
    c.requires.begins c.requires.max c.if-room-lt2.false c.in_ok-inside.ensures c.in_ok-closed.ensures.begins)

pub operand-returns-in-Numeral : goal.operand-returns-in-Numeral
operand-returns-in-Numeral t c =
    rw c.numeral_expr.ensures
    (begins_numeral c.args.role c.args.room c.args.max (ahead c.args.terminals) c.in-Numeral.value c.in-Numeral.span
    (ahead c.in-Numeral.more) c.in-Numeral.ensures c.requires.max c.requires.room)

pub operand-returns-in-Truth : goal.operand-returns-in-Truth
operand-returns-in-Truth t c =
    rw c.truth_expr.ensures
    (begins_truth c.args.role c.args.room c.args.max (ahead c.args.terminals) c.in-Truth.truth c.in-Truth.span
    (ahead c.in-Truth.more) c.in-Truth.ensures c.requires.max c.requires.room)

pub prefixed-returns-then-not-is_allowed : goal.prefixed-returns-then-not-is_allowed
prefixed-returns-then-not-is_allowed t c = never_prefix c.args.role c.args.room c.args.max
    (ahead c.args.terminals) c.requires.begins.0 c.requires.begins.1 c.args.word c.args.span c.requires.begins.2 c.requires.begins.3
    (λ mid s allowed binds two. absurd (cc))

pub prefixed-returns-then-level-max : goal.prefixed-returns-then-level-max
prefixed-returns-then-level-max t c = never_prefix c.args.role c.args.room c.args.max
    (ahead c.args.terminals) c.requires.begins.0 c.requires.begins.1 c.args.word c.args.span c.requires.begins.2 c.requires.begins.3
    (λ mid s allowed binds two. absurd (let same = c.requires.level in omega arith))

pub prefixed-returns-in_err-more : goal.prefixed-returns-in_err-more
prefixed-returns-in_err-more t c =
    begin_halted c.args.role c.args.room c.args.max (ahead c.args.terminals) c.from_residual.result c.in_err-more.field-0.0
    ((left : List Terminal) → SpellsPrefix (ahead c.args.terminals) c.args.word c.args.span left → ⊥)
    c.from_residual.ensures.1 c.in_err-more.ensures
    (λ none. never_prefix c.args.role c.args.room c.args.max
    (ahead c.args.terminals) c.requires.begins.0 c.requires.begins.1 c.args.word c.args.span c.requires.begins.2 c.requires.begins.3
    (λ mid s allowed binds two. absurd (none mid s)))

pub prefixed-returns-in_err-operand : goal.prefixed-returns-in_err-operand
prefixed-returns-in_err-operand t c =
    begin_halted c.args.role c.args.room c.args.max (ahead c.args.terminals) c.from_residual-in_err-operand.result c.in_err-operand.field-0.0
    (NoPhrase c.args.role (c.args.room - 1) c.args.level (ahead c.in_ok-more.more))
    c.from_residual-in_err-operand.ensures.1 c.in_err-operand.ensures
    (λ none. never_prefix c.args.role c.args.room c.args.max
    (ahead c.args.terminals) c.requires.begins.0 c.requires.begins.1 c.args.word c.args.span c.requires.begins.2 c.requires.begins.3
    (λ mid s allowed binds two.
    subst (λ (x : List Terminal). NoPhrase c.args.role (c.args.room - 1) (prefix_level c.args.word) x)
    (sym (prefix_left (ahead c.args.terminals) c.args.word c.args.span (ahead c.in_ok-more.more) mid c.in_ok-more.ensures s))
    (subst (λ (n : ℕ). NoPhrase c.args.role (c.args.room - 1) n (ahead c.in_ok-more.more)) c.requires.level none)))

pub prefixed-returns : goal.prefixed-returns
prefixed-returns t c =
    let same = c.requires.level in
    rw c.in_ok-prefix_expr.ensures
    (begins_prefix c.args.role c.args.room c.args.max (ahead c.args.terminals) c.args.word c.args.span (ahead c.in_ok-more.more)
    (tree c.in_ok-operand.operand.expr) (ahead c.in_ok-operand.rest)
    c.in_ok-more.ensures (cc) (omega arith) c.if-room-lt2.false
    (subst (λ (n : ℕ). OnlyPhrase c.args.role (c.args.room - 1) n (ahead c.in_ok-more.more) (tree c.in_ok-operand.operand.expr)
    (ahead c.in_ok-operand.rest)) c.requires.level c.in_ok-operand.ensures)
    c.requires.begins.0 c.requires.begins.1 c.requires.begins.2)

pub read_step-returns-in-Other : goal.read_step-returns-in-Other
read_step-returns-in-Other t c = λ ts b. only_here c.args.role c.args.room c.args.max ts (tree c.args.left.expr) (ahead c.args.rest) b
    (c.in-Other.ensures c.args.max)

pub read_step-returns-in-Dot : goal.read_step-returns-in-Dot
read_step-returns-in-Dot t c = λ ts b. never_dot c.args.role c.args.room c.args.max ts (tree c.args.left.expr)
    (ahead c.args.rest) c.in-Dot.ensures.0 c.in-Dot.ensures.1 b c.in-Dot.ensures.2

pub read_step-returns-then-level-max : goal.read_step-returns-then-level-max
read_step-returns-then-level-max t c = λ ts b.
    only_here c.args.role c.args.room c.args.max ts (tree c.args.left.expr) (ahead c.args.rest) b
    (subst (EndsAtLevel c.args.max) (sym c.in-Operator.ensures)
    (stops_before c.args.max c.in-Operator.word c.in-Operator.span (ahead c.in-Operator.more) (omega arith)))

pub read_step-returns-then-not-is_allowed : goal.read_step-returns-then-not-is_allowed
read_step-returns-then-not-is_allowed t c = λ ts b. never_operator c.args.role c.args.room c.args.max ts (tree c.args.left.expr)
    (ahead c.args.rest) c.in-Operator.word c.in-Operator.span (ahead c.in-Operator.more) b c.in-Operator.ensures (omega arith)
    (λ allowed binds low. absurd (cc))

pub read_step-returns-then-left-left_level : goal.read_step-returns-then-left-left_level
read_step-returns-then-left-left_level t c = λ ts b. never_operator c.args.role c.args.room c.args.max ts (tree c.args.left.expr)
    (ahead c.args.rest) c.in-Operator.word c.in-Operator.span (ahead c.in-Operator.more) b c.in-Operator.ensures (omega arith)
    (λ allowed binds low. absurd (let l = c.args.left.level_is in omega arith))

pub read_step-returns-then-left-room : goal.read_step-returns-then-left-room
read_step-returns-then-left-room t c = λ ts b. never_operator c.args.role c.args.room c.args.max ts (tree c.args.left.expr)
    (ahead c.args.rest) c.in-Operator.word c.in-Operator.span (ahead c.in-Operator.more) b c.in-Operator.ensures (omega arith)
    (λ allowed binds low. absurd (let l = c.args.left.height_is in omega arith))

pub read_step-returns-in_err-right-in-Operator : goal.read_step-returns-in_err-right-in-Operator
read_step-returns-in_err-right-in-Operator t c =
    step_halted c.args.role c.args.room c.args.max (tree c.args.left.expr) (ahead c.args.rest) c.from_residual.result c.in_err-right-in-Operator.field-0.0
    (NoPhrase c.args.role (c.args.room - 1) c.right_level.result (ahead c.in-Operator.more))
    c.from_residual.ensures.1 c.in_err-right-in-Operator.ensures
    (λ none ts b. never_operator c.args.role c.args.room c.args.max ts (tree c.args.left.expr)
    (ahead c.args.rest) c.in-Operator.word c.in-Operator.span (ahead c.in-Operator.more) b c.in-Operator.ensures (omega arith)
    (λ allowed binds low. subst (λ (n : ℕ). NoPhrase c.args.role (c.args.room - 1) n (ahead c.in-Operator.more)) c.right_level.ensures none))

pub read_step-returns-in_ok-binary_expr-in-Operator : goal.read_step-returns-in_ok-binary_expr-in-Operator
read_step-returns-in_ok-binary_expr-in-Operator t c =
    let lv = c.args.left.level_is in
    let lh = c.args.left.height_is in
    let o = subst (λ (n : ℕ). OnlyPhrase c.args.role (c.args.room - 1) n (ahead c.in-Operator.more) (tree c.in_ok-right-in-Operator.right.expr)
    (ahead c.in_ok-right-in-Operator.after)) c.right_level.ensures c.in_ok-right-in-Operator.ensures in
    let high = o.phrase.height in
    rw c.in_ok-binary_expr-in-Operator.ensures (
      omega arith,
      omega arith,
      λ ts b.
          begins_more c.args.role c.args.room c.args.max ts (tree c.args.left.expr) (ahead c.args.rest) c.in-Operator.word c.in-Operator.span
          (ahead c.in-Operator.more) (tree c.in_ok-right-in-Operator.right.expr) (ahead c.in_ok-right-in-Operator.after) b c.in-Operator.ensures
          (omega arith) (cc) (omega arith) (omega arith) o,
    )
