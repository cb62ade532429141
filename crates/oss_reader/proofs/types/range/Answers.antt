use Rattle.std.proofs.lemmas.Result.{err_from_is_err_and}
use Rattle.oss_syntax.specs.declared.terminal.Mark.TheVariants as mark
use Rattle.oss_syntax.specs.Items.{IsBound, IsType}
use Rattle.oss_reader.specs.Reads.{Nothing, NoMark}
use Rattle.oss_reader.specs.Ahead.{ahead}
use Rattle.oss_reader.proofs.Sequences.{on_broken, mark_step, phrase_step, no_mark, no_phrase}
use Rattle.oss_reader.proofs.Rules as rule
use Rattle.oss_reader.proofs.types.range.Goals as goal

pub returns-in_err-lo : goal.returns-in_err-lo
returns-in_err-lo c =
    let p = err_from_is_err_and c.from_residual.result c.from_residual.ensures.1 in
    rw (p.1, p.2)
    (on_broken c.in_err-lo.field-0.0 (Nothing IsBound (ahead c.args.terminals)) (Nothing IsType (ahead c.args.terminals))
    (λ none. rule.type_range_never (ahead c.args.terminals)
    (record { boolean = c.requires.boolean; event = c.requires.event; brace = c.requires.brace }) (λ lo hi rest h. no_phrase none h))
    c.in_err-lo.ensures)

pub returns-in_err-more : goal.returns-in_err-more
returns-in_err-more c =
    let p = err_from_is_err_and c.from_residual-in_err-more.result c.from_residual-in_err-more.ensures.1 in
    rw (p.1, p.2)
    (on_broken c.in_err-more.field-0.0 (NoMark mark.Range (ahead c.in_ok-lo.dots)) (Nothing IsType (ahead c.args.terminals))
    (λ none. rule.type_range_never (ahead c.args.terminals)
    (record { boolean = c.requires.boolean; event = c.requires.event; brace = c.requires.brace })
    (λ lo hi rest h. no_mark none (phrase_step c.in_ok-lo.ensures h).1))
    c.in_err-more.ensures)

pub returns-in_err-hi : goal.returns-in_err-hi
returns-in_err-hi c =
    let p = err_from_is_err_and c.from_residual-in_err-hi.result c.from_residual-in_err-hi.ensures.1 in
    rw (p.1, p.2)
    (on_broken c.in_err-hi.field-0.0 (Nothing IsBound (ahead c.in_ok-more.more)) (Nothing IsType (ahead c.args.terminals))
    (λ none. rule.type_range_never (ahead c.args.terminals)
    (record { boolean = c.requires.boolean; event = c.requires.event; brace = c.requires.brace })
    (λ lo hi rest h. no_phrase none (mark_step c.in_ok-more.ensures (phrase_step c.in_ok-lo.ensures h).1)))
    c.in_err-hi.ensures)

pub returns : goal.returns
returns c = rule.type_range (ahead c.args.terminals) (ahead c.in_ok-lo.dots) (ahead c.in_ok-more.more)
    (ahead c.in_ok-hi.left) c.in_ok-lo.lo c.in_ok-hi.hi
    (record {
      boolean = c.requires.boolean;
      event = c.requires.event;
      brace =
          c.requires.brace;
    }) c.in_ok-lo.ensures c.in_ok-more.ensures c.in_ok-hi.ensures
