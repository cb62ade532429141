use Rattle.std.proofs.Common.{sym, refl}
use Rattle.std.proofs.lemmas.Result.{err_from_is_err_and}
use Rattle.oss_syntax.specs.declared.terminal.Mark.TheVariants as mark
use Rattle.oss_syntax.specs.Items.{IsParts}
use Rattle.oss_reader.specs.Reads.{Nothing, NoMark, NoName}
use Rattle.oss_reader.specs.Rules.{IsRefined}
use Rattle.oss_reader.specs.Ahead.{ahead}
use Rattle.oss_reader.proofs.Sequences.{on_broken, pair_same, mark_step, name_step, phrase_step, no_mark, no_name, no_phrase, mark_made, name_made, phrase_made}
use Rattle.oss_reader.proofs.refinement.refined.Goals as goal

pub returns-in_err-name : goal.returns-in_err-name
returns-in_err-name c =
    let p = err_from_is_err_and c.from_residual.result c.from_residual.ensures.1 in
    rw (p.1, p.2)
    (on_broken c.in_err-name.field-0.0 (NoName (ahead c.args.terminals)) (Nothing IsRefined (ahead c.args.terminals))
    (λ none p rest h. no_name none h)
    c.in_err-name.ensures)

pub returns-in_err-more : goal.returns-in_err-more
returns-in_err-more c =
    let p = err_from_is_err_and c.from_residual-in_err-more.result c.from_residual-in_err-more.ensures.1 in
    rw (p.1, p.2)
    (on_broken c.in_err-more.field-0.0 (NoMark mark.RefinedBy (ahead c.in_ok-name.by)) (Nothing IsRefined (ahead c.args.terminals))
    (λ none p rest h. no_mark none (name_step c.in_ok-name.ensures h).1)
    c.in_err-more.ensures)

pub returns-in_err-parts : goal.returns-in_err-parts
returns-in_err-parts c =
    let p = err_from_is_err_and c.from_residual-in_err-parts.result c.from_residual-in_err-parts.ensures.1 in
    rw (p.1, p.2)
    (on_broken c.in_err-parts.field-0.0 (Nothing IsParts (ahead c.in_ok-more.more)) (Nothing IsRefined (ahead c.args.terminals))
    (λ none p rest h. no_phrase none (mark_step c.in_ok-more.ensures (name_step c.in_ok-name.ensures h).1))
    c.in_err-parts.ensures)

pub returns : goal.returns
returns c = record {
  holds = (name_made c.in_ok-name.ensures (mark_made c.in_ok-more.ensures (phrase_made c.in_ok-parts.ensures refl)));
  only = λ p rest h. (
    pair_same p _ _ (name_step c.in_ok-name.ensures h).0
        (phrase_step c.in_ok-parts.ensures (mark_step c.in_ok-more.ensures (name_step c.in_ok-name.ensures h).1)).0,
    sym
        (phrase_step c.in_ok-parts.ensures (mark_step c.in_ok-more.ensures (name_step c.in_ok-name.ensures h).1)).1,
  );
}
