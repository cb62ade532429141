use Rattle.std.proofs.Common.{List, codes}
use Rattle.std.proofs.lemmas.Result.{err_from_is_err_and}
use Rattle.oss_syntax.specs.Alphabet.{Terminal}
use Rattle.oss_syntax.specs.Formulas.{SpellsPrefix}
use Rattle.oss_reader.specs.Reads.{NotNamed}
use Rattle.oss_reader.specs.Ahead.{ahead}
use Rattle.oss_reader.proofs.Begins.{after_in, not_future}
use Rattle.oss_reader.proofs.Sequences.{on_broken}
use Rattle.oss_reader.proofs.expressions.after_prefix.Goals as goal

pub returns-in_ok-left-in-Some : goal.returns-in_ok-left-in-Some
returns-in_ok-left-in-Some c =
    after_in (ahead c.args.terminals) c.requires.0 c.requires.1 c.args.word c.args.span c.in-Some.ensures.span (ahead c.in-Some.more)
    (ahead c.in_ok-named-in-Some.named) (ahead c.in_ok-left-in-Some.left)
    c.requires.2 c.requires.3 c.in-Some.ensures.begins c.in_ok-named-in-Some.ensures c.in_ok-left-in-Some.ensures

pub returns-in_err-left-in-Some : goal.returns-in_err-left-in-Some
returns-in_err-left-in-Some c =
    let p = err_from_is_err_and c.from_residual-in_err-left-in-Some.result c.from_residual-in_err-left-in-Some.ensures.1 in
    rw (p.1, p.2)
    (on_broken c.in_err-left-in-Some.field-0.0 (NotNamed (codes "future") (ahead c.in_ok-named-in-Some.named))
    ((left : List Terminal) → SpellsPrefix (ahead c.args.terminals) c.args.word c.args.span left → ⊥)
    (λ none. not_future (ahead c.args.terminals) c.requires.0 c.requires.1 c.args.word c.args.span c.in-Some.ensures.span (ahead c.in-Some.more)
    (ahead c.in_ok-named-in-Some.named)
    c.requires.2 c.requires.3 c.in-Some.ensures.begins c.in_ok-named-in-Some.ensures none)
    c.in_err-left-in-Some.ensures)
