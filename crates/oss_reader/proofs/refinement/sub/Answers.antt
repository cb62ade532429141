use Rattle.std.proofs.Common.{sym, refl}
use Rattle.std.proofs.lemmas.Result.{err_from_is_err_and}
use Rattle.oss_syntax.specs.declared.terminal.Mark.TheVariants as mark
use Rattle.oss_reader.specs.Reads.{Nothing, NoMark, NoName}
use Rattle.oss_reader.specs.Rules.{IsSub}
use Rattle.oss_reader.specs.Ahead.{ahead}
use Rattle.oss_reader.proofs.Sequences.{on_broken, pair_same, mark_step, name_step, no_mark, no_name, mark_made, name_made}
use Rattle.oss_reader.proofs.refinement.sub.Goals as goal

pub returns-in_err-sub : goal.returns-in_err-sub
returns-in_err-sub c =
    let p = err_from_is_err_and c.from_residual.result c.from_residual.ensures.1 in
    rw (p.1, p.2)
    (on_broken c.in_err-sub.field-0.0 (NoName (ahead c.args.terminals)) (Nothing IsSub (ahead c.args.terminals))
    (λ none p rest h. no_name none h)
    c.in_err-sub.ensures)

pub returns-in_err-more : goal.returns-in_err-more
returns-in_err-more c =
    let p = err_from_is_err_and c.from_residual-in_err-more.result c.from_residual-in_err-more.ensures.1 in
    rw (p.1, p.2)
    (on_broken c.in_err-more.field-0.0 (NoMark mark.Colon (ahead c.in_ok-sub.made)) (Nothing IsSub (ahead c.args.terminals))
    (λ none p rest h. no_mark none (name_step c.in_ok-sub.ensures h).1)
    c.in_err-more.ensures)

pub returns-in_err-component : goal.returns-in_err-component
returns-in_err-component c =
    let p = err_from_is_err_and c.from_residual-in_err-component.result c.from_residual-in_err-component.ensures.1 in
    rw (p.1, p.2)
    (on_broken c.in_err-component.field-0.0 (NoName (ahead c.in_ok-more.more)) (Nothing IsSub (ahead c.args.terminals))
    (λ none p rest h. no_name none (mark_step c.in_ok-more.ensures (name_step c.in_ok-sub.ensures h).1))
    c.in_err-component.ensures)

pub returns-in_err-left : goal.returns-in_err-left
returns-in_err-left c =
    let p = err_from_is_err_and c.from_residual-in_err-left.result c.from_residual-in_err-left.ensures.1 in
    rw (p.1, p.2)
    (on_broken c.in_err-left.field-0.0 (NoMark mark.Semicolon (ahead c.in_ok-component.closed)) (Nothing IsSub (ahead c.args.terminals))
    (λ none p rest h. no_mark none (name_step c.in_ok-component.ensures (mark_step c.in_ok-more.ensures (name_step c.in_ok-sub.ensures h).1)).1)
    c.in_err-left.ensures)

pub returns : goal.returns
returns c = record {
  holds = (name_made c.in_ok-sub.ensures (mark_made c.in_ok-more.ensures (name_made c.in_ok-component.ensures (mark_made c.in_ok-left.ensures refl))));
  only = λ p rest h. (
    pair_same p _ _ (name_step c.in_ok-sub.ensures h).0
        (name_step c.in_ok-component.ensures (mark_step c.in_ok-more.ensures (name_step c.in_ok-sub.ensures h).1)).0,
    sym
        (mark_step c.in_ok-left.ensures (name_step c.in_ok-component.ensures (mark_step c.in_ok-more.ensures (name_step c.in_ok-sub.ensures h).1)).1),
  );
}
