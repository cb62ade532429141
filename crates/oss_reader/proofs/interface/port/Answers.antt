use Rattle.std.proofs.Common.{sym, refl}
use Rattle.std.proofs.lemmas.Result.{err_from_is_err_and}
use Rattle.oss_syntax.specs.declared.terminal.Mark.TheVariants as mark
use Rattle.oss_syntax.specs.Items.{IsType}
use Rattle.oss_reader.specs.Reads.{Nothing, NoMark, NoName}
use Rattle.oss_reader.specs.Rules.{IsPort}
use Rattle.oss_reader.specs.Ahead.{ahead}
use Rattle.oss_reader.proofs.Sequences.{on_broken, pair_same, mark_step, name_step, phrase_step, no_mark, no_name, no_phrase, mark_made, name_made, phrase_made}
use Rattle.oss_reader.proofs.interface.port.Goals as goal

pub returns-in_err-called : goal.returns-in_err-called
returns-in_err-called c =
    let p = err_from_is_err_and c.from_residual.result c.from_residual.ensures.1 in
    rw (p.1, p.2)
    (on_broken c.in_err-called.field-0.0 (NoMark mark.Port (ahead c.args.terminals)) (Nothing IsPort (ahead c.args.terminals))
    (λ none p rest h. no_mark none h)
    c.in_err-called.ensures)

pub returns-in_err-name : goal.returns-in_err-name
returns-in_err-name c =
    let p = err_from_is_err_and c.from_residual-in_err-name.result c.from_residual-in_err-name.ensures.1 in
    rw (p.1, p.2)
    (on_broken c.in_err-name.field-0.0 (NoName (ahead c.in_ok-called.called)) (Nothing IsPort (ahead c.args.terminals))
    (λ none p rest h. no_name none (mark_step c.in_ok-called.ensures h))
    c.in_err-name.ensures)

pub returns-in_err-more : goal.returns-in_err-more
returns-in_err-more c =
    let p = err_from_is_err_and c.from_residual-in_err-more.result c.from_residual-in_err-more.ensures.1 in
    rw (p.1, p.2)
    (on_broken c.in_err-more.field-0.0 (NoMark mark.Colon (ahead c.in_ok-name.typed)) (Nothing IsPort (ahead c.args.terminals))
    (λ none p rest h. no_mark none (name_step c.in_ok-name.ensures (mark_step c.in_ok-called.ensures h)).1)
    c.in_err-more.ensures)

pub returns-in_err-kind : goal.returns-in_err-kind
returns-in_err-kind c =
    let p = err_from_is_err_and c.from_residual-in_err-kind.result c.from_residual-in_err-kind.ensures.1 in
    rw (p.1, p.2)
    (on_broken c.in_err-kind.field-0.0 (Nothing IsType (ahead c.in_ok-more.more)) (Nothing IsPort (ahead c.args.terminals))
    (λ none p rest h. no_phrase none (mark_step c.in_ok-more.ensures (name_step c.in_ok-name.ensures (mark_step c.in_ok-called.ensures h)).1))
    c.in_err-kind.ensures)

pub returns-in_err-left : goal.returns-in_err-left
returns-in_err-left c =
    let p = err_from_is_err_and c.from_residual-in_err-left.result c.from_residual-in_err-left.ensures.1 in
    rw (p.1, p.2)
    (on_broken c.in_err-left.field-0.0 (NoMark mark.Semicolon (ahead c.in_ok-kind.closed)) (Nothing IsPort (ahead c.args.terminals))
    (λ none p rest h. no_mark none (phrase_step c.in_ok-kind.ensures
    (mark_step c.in_ok-more.ensures (name_step c.in_ok-name.ensures (mark_step c.in_ok-called.ensures h)).1)).1)
    c.in_err-left.ensures)

pub returns : goal.returns
returns c = record {
  holds = (mark_made c.in_ok-called.ensures (name_made c.in_ok-name.ensures
      (mark_made c.in_ok-more.ensures (phrase_made c.in_ok-kind.ensures (mark_made c.in_ok-left.ensures refl)))));
  only = λ p rest h. (
    pair_same p _ _ (name_step c.in_ok-name.ensures (mark_step c.in_ok-called.ensures h)).0
        (phrase_step c.in_ok-kind.ensures (mark_step c.in_ok-more.ensures
        (name_step c.in_ok-name.ensures (mark_step c.in_ok-called.ensures h)).1)).0,
    sym
        (mark_step c.in_ok-left.ensures (phrase_step c.in_ok-kind.ensures
        (mark_step c.in_ok-more.ensures (name_step c.in_ok-name.ensures (mark_step c.in_ok-called.ensures h)).1)).1),
  );
}
