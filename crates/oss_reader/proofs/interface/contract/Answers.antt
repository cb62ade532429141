use Rattle.std.proofs.Common.{sym, refl}
use Rattle.std.proofs.lemmas.Result.{err_from_is_err_and}
use Rattle.oss_syntax.specs.declared.expression.Role.TheVariants as roles
use Rattle.oss_syntax.specs.declared.terminal.Mark.TheVariants as mark
use Rattle.oss_syntax.specs.Formulas.{Closed}
use Rattle.oss_reader.specs.Reads.{Nothing, NoMark, NoName}
use Rattle.oss_reader.specs.Rules.{IsContract}
use Rattle.oss_reader.specs.Ahead.{ahead}
use Rattle.oss_reader.proofs.Sequences.{on_broken, mark_step, name_step, phrase_step, no_mark, no_name, no_phrase, mark_made, name_made, phrase_made}
use Rattle.oss_reader.proofs.Rules as rule
use Rattle.oss_reader.proofs.interface.contract.Goals as goal

pub returns-in_err-name : goal.returns-in_err-name
returns-in_err-name c =
    let p = err_from_is_err_and c.from_residual.result c.from_residual.ensures.1 in
    rw (p.1, p.2)
    (on_broken c.in_err-name.field-0.0 (NoName (ahead c.args.terminals)) (Nothing IsContract (ahead c.args.terminals))
    (λ none p rest h. no_name none h)
    c.in_err-name.ensures)

pub returns-in_err-assumed : goal.returns-in_err-assumed
returns-in_err-assumed c =
    let p = err_from_is_err_and c.from_residual-in_err-assumed.result c.from_residual-in_err-assumed.ensures.1 in
    rw (p.1, p.2)
    (on_broken c.in_err-assumed.field-0.0 (NoMark mark.Assume (ahead c.in_ok-name.assuming)) (Nothing IsContract (ahead c.args.terminals))
    (λ none p rest h. no_mark none (name_step c.in_ok-name.ensures h).1)
    c.in_err-assumed.ensures)

pub returns-in_err-first : goal.returns-in_err-first
returns-in_err-first c =
    let p = err_from_is_err_and c.from_residual-in_err-first.result c.from_residual-in_err-first.ensures.1 in
    rw (p.1, p.2)
    (on_broken c.in_err-first.field-0.0 (NoMark mark.Colon (ahead c.in_ok-assumed.assumed)) (Nothing IsContract (ahead c.args.terminals))
    (λ none p rest h. no_mark none (mark_step c.in_ok-assumed.ensures (name_step c.in_ok-name.ensures h).1))
    c.in_err-first.ensures)

pub returns-in_err-assume : goal.returns-in_err-assume
returns-in_err-assume c =
    let p = err_from_is_err_and c.from_residual-in_err-assume.result c.from_residual-in_err-assume.ensures.1 in
    rw (p.1, p.2)
    (on_broken c.in_err-assume.field-0.0 (Nothing (Closed roles.Formula) (ahead c.in_ok-first.first)) (Nothing IsContract (ahead c.args.terminals))
    (λ none p rest h. no_phrase none (mark_step c.in_ok-first.ensures (mark_step c.in_ok-assumed.ensures (name_step c.in_ok-name.ensures h).1)))
    c.in_err-assume.ensures)

pub returns-in_err-guaranteed : goal.returns-in_err-guaranteed
returns-in_err-guaranteed c =
    let p = err_from_is_err_and c.from_residual-in_err-guaranteed.result c.from_residual-in_err-guaranteed.ensures.1 in
    rw (p.1, p.2)
    (on_broken c.in_err-guaranteed.field-0.0 (NoMark mark.Guarantee (ahead c.in_ok-assume.guaranteeing)) (Nothing IsContract (ahead c.args.terminals))
    (λ none p rest h. no_mark none (phrase_step c.in_ok-assume.ensures
    (mark_step c.in_ok-first.ensures (mark_step c.in_ok-assumed.ensures (name_step c.in_ok-name.ensures h).1))).1)
    c.in_err-guaranteed.ensures)

pub returns-in_err-second : goal.returns-in_err-second
returns-in_err-second c =
    let p = err_from_is_err_and c.from_residual-in_err-second.result c.from_residual-in_err-second.ensures.1 in
    rw (p.1, p.2)
    (on_broken c.in_err-second.field-0.0 (NoMark mark.Colon (ahead c.in_ok-guaranteed.guaranteed)) (Nothing IsContract (ahead c.args.terminals))
    (λ none p rest h. no_mark none (mark_step c.in_ok-guaranteed.ensures
    (phrase_step c.in_ok-assume.ensures (mark_step c.in_ok-first.ensures
    (mark_step c.in_ok-assumed.ensures (name_step c.in_ok-name.ensures h).1))).1))
    c.in_err-second.ensures)

pub returns-in_err-guarantee : goal.returns-in_err-guarantee
returns-in_err-guarantee c =
    let p = err_from_is_err_and c.from_residual-in_err-guarantee.result c.from_residual-in_err-guarantee.ensures.1 in
    rw (p.1, p.2)
    (on_broken c.in_err-guarantee.field-0.0 (Nothing (Closed roles.Formula) (ahead c.in_ok-second.second)) (Nothing IsContract (ahead c.args.terminals))
    (λ none p rest h. no_phrase none (mark_step c.in_ok-second.ensures
    (mark_step c.in_ok-guaranteed.ensures (phrase_step c.in_ok-assume.ensures
    (mark_step c.in_ok-first.ensures (mark_step c.in_ok-assumed.ensures (name_step c.in_ok-name.ensures h).1))).1)))
    c.in_err-guarantee.ensures)

pub returns : goal.returns
returns c = record {
  holds = (name_made c.in_ok-name.ensures (mark_made c.in_ok-assumed.ensures
      (mark_made c.in_ok-first.ensures (phrase_made c.in_ok-assume.ensures
      (mark_made c.in_ok-guaranteed.ensures (mark_made c.in_ok-second.ensures (phrase_made c.in_ok-guarantee.ensures refl)))))));
  only = λ p rest h. (
    rule.triple_same p _ _ _ (name_step c.in_ok-name.ensures h).0
        (phrase_step c.in_ok-assume.ensures (mark_step c.in_ok-first.ensures
        (mark_step c.in_ok-assumed.ensures (name_step c.in_ok-name.ensures h).1))).0
        (phrase_step c.in_ok-guarantee.ensures (mark_step c.in_ok-second.ensures
        (mark_step c.in_ok-guaranteed.ensures (phrase_step c.in_ok-assume.ensures
        (mark_step c.in_ok-first.ensures (mark_step c.in_ok-assumed.ensures (name_step c.in_ok-name.ensures h).1))).1))).0,
    sym
        (phrase_step c.in_ok-guarantee.ensures (mark_step c.in_ok-second.ensures
        (mark_step c.in_ok-guaranteed.ensures (phrase_step c.in_ok-assume.ensures
        (mark_step c.in_ok-first.ensures (mark_step c.in_ok-assumed.ensures (name_step c.in_ok-name.ensures h).1))).1))).1,
  );
}
