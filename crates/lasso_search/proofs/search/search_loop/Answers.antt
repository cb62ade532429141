use Rattle.std.proofs.Common.{◌≡◌, ◌∙◌, [], arith, sym, refl}
use Rattle.cnf.proofs.ModelLaws.{append_nil}
use Rattle.lasso_search.proofs.PathLayers.{layers_later, path_later}
use Rattle.lasso_search.proofs.Growing.{grows_as}
use Rattle.lasso_search.proofs.LoopLaws.{loop_grows, closed_grows, least_found, none_found}
use Rattle.lasso_search.proofs.search.search_loop.Goals as goal

pub closed_lasso-requires-clause-layers : goal.closed_lasso-requires-clause-layers
closed_lasso-requires-clause-layers c =
    layers_later c.layers_stay.ensures _ _ _ _ [] c.args.tab.now c.args.layers.now (omega (arith, c.in_ok-new_var.ensures.ok))
    (c.new_var.ensures.clauses ∙ sym (append_nil _)) c.requires.path.coded

pub closed_lasso-requires-clause-under : goal.closed_lasso-requires-clause-under
closed_lasso-requires-clause-under c = omega (arith, c.requires.path.under_known, c.in_ok-new_var.ensures.ok)

pub returns-in_err-new_var-clause-grows : goal.returns-in_err-new_var-clause-grows
returns-in_err-new_var-clause-grows c = grows_as _ _ _ _ c.in_err-new_var.ensures.err c.new_var.ensures.clauses

pub returns-in_err-found-clause-grows : goal.returns-in_err-found-clause-grows
returns-in_err-found-clause-grows c =
    loop_grows _ _ _ c.in_ok-new_var.field-0 _ _ _ c.args.tab.now c.args.layers.now c.args.loop_at (record {
      var = c.in_ok-new_var.ensures.number;
      grown = c.in_ok-new_var.ensures.ok;
      same = c.new_var.ensures.clauses;
      vars = c.closed_lasso.ensures.vars;
      more = c.closed_lasso.ensures.more;
      kept = c.closed_lasso.ensures.kept;
    }) _ _ refl refl

pub returns-in_err-add-clause-grows : goal.returns-in_err-add-clause-grows
returns-in_err-add-clause-grows c =
    loop_grows _ _ _ c.in_ok-new_var.field-0 _ _ _ c.args.tab.now c.args.layers.now c.args.loop_at (record {
      var = c.in_ok-new_var.ensures.number;
      grown = c.in_ok-new_var.ensures.ok;
      same = c.new_var.ensures.clauses;
      vars = c.closed_lasso.ensures.vars;
      more = c.closed_lasso.ensures.more;
      kept = c.closed_lasso.ensures.kept;
    }) _ _ c.add.ensures.vars c.in_err-add.ensures.err

pub returns-clause-path : goal.returns-clause-path
returns-clause-path c =
    path_later c.layers_stay.ensures _ _ _ _ c.args.tab.now c.args.question.now c.args.under c.args.layers.now
    (closed_grows _ _ _ c.in_ok-new_var.field-0 _ _ _ c.args.tab.now c.args.layers.now c.args.loop_at (record {
      var = c.in_ok-new_var.ensures.number;
      grown = c.in_ok-new_var.ensures.ok;
      same = c.new_var.ensures.clauses;
      vars = c.closed_lasso.ensures.vars;
      more = c.closed_lasso.ensures.more;
      kept = c.closed_lasso.ensures.kept;
    }) _ _ _ c.add.ensures.vars c.negated.ensures c.in_ok-add.ensures.ok) c.requires.path

pub returns-clause-grows : goal.returns-clause-grows
returns-clause-grows c =
    closed_grows _ _ _ c.in_ok-new_var.field-0 _ _ _ c.args.tab.now c.args.layers.now c.args.loop_at (record {
      var = c.in_ok-new_var.ensures.number;
      grown = c.in_ok-new_var.ensures.ok;
      same = c.new_var.ensures.clauses;
      vars = c.closed_lasso.ensures.vars;
      more = c.closed_lasso.ensures.more;
      kept = c.closed_lasso.ensures.kept;
    }) _ _ _ c.add.ensures.vars c.negated.ensures c.in_ok-add.ensures.ok

pub returns-clause-some : goal.returns-clause-some
returns-clause-some c =
    least_found _ _ _ c.in_ok-new_var.field-0 _ _ _ c.args.tab.now c.args.layers.now c.args.loop_at (record {
      var = c.in_ok-new_var.ensures.number;
      grown = c.in_ok-new_var.ensures.ok;
      same = c.new_var.ensures.clauses;
      vars = c.closed_lasso.ensures.vars;
      more = c.closed_lasso.ensures.more;
      kept = c.closed_lasso.ensures.kept;
    }) c.args.question.now c.args.under
    c.requires.path c.requires.place c.in_ok-found.ensures.closes (record {
      gates = c.gates_are_right.ensures;
      places = c.ranks_are_places.ensures.ranks;
    }) c.members.ensures.coded.ports _ c.in_ok-found.ensures.some

pub returns-clause-none : goal.returns-clause-none
returns-clause-none c =
    none_found _ _ _ c.in_ok-new_var.field-0 _ _ _ c.args.tab.now c.args.layers.now c.args.loop_at (record {
      var = c.in_ok-new_var.ensures.number;
      grown = c.in_ok-new_var.ensures.ok;
      same = c.new_var.ensures.clauses;
      vars = c.closed_lasso.ensures.vars;
      more = c.closed_lasso.ensures.more;
      kept = c.closed_lasso.ensures.kept;
    }) c.args.question.now c.args.under
    c.requires.path c.requires.place c.in_ok-found.ensures.closes _ c.in_ok-found.ensures.none
