use Rattle.std.proofs.Common.{sym, refl}
use Rattle.std.proofs.lemmas.Result.{err_from_is_err_and}
use Rattle.oss_syntax.specs.declared.expression.Role.TheVariants as roles
use Rattle.oss_syntax.specs.Formulas.{Closed}
use Rattle.oss_syntax.specs.Items.{IsTarget}
use Rattle.oss_reader.specs.Reads.{Nothing}
use Rattle.oss_reader.specs.Rules.{IsConnection}
use Rattle.oss_reader.specs.Ahead.{ahead}
use Rattle.oss_reader.proofs.Sequences.{on_broken, pair_same, phrase_step, no_phrase, phrase_made}
use Rattle.oss_reader.proofs.refinement.connection.Goals as goal

pub returns-in_err-target : goal.returns-in_err-target
returns-in_err-target c =
    let p = err_from_is_err_and c.from_residual.result c.from_residual.ensures.1 in
    rw (p.1, p.2)
    (on_broken c.in_err-target.field-0.0 (Nothing IsTarget (ahead c.args.terminals)) (Nothing IsConnection (ahead c.args.terminals))
    (λ none p rest h. no_phrase none h)
    c.in_err-target.ensures)

pub returns-in_err-source : goal.returns-in_err-source
returns-in_err-source c =
    let p = err_from_is_err_and c.from_residual-in_err-source.result c.from_residual-in_err-source.ensures.1 in
    rw (p.1, p.2)
    (on_broken c.in_err-source.field-0.0 (Nothing (Closed roles.State) (ahead c.in_ok-target.more)) (Nothing IsConnection (ahead c.args.terminals))
    (λ none p rest h. no_phrase none (phrase_step c.in_ok-target.ensures h).1)
    c.in_err-source.ensures)

pub returns : goal.returns
returns c = record {
  holds = (phrase_made c.in_ok-target.ensures (phrase_made c.in_ok-source.ensures refl));
  only = λ p rest h. (
    pair_same p _ _ (phrase_step c.in_ok-target.ensures h).0
        (phrase_step c.in_ok-source.ensures (phrase_step c.in_ok-target.ensures h).1).0,
    sym
        (phrase_step c.in_ok-source.ensures (phrase_step c.in_ok-target.ensures h).1).1,
  );
}
