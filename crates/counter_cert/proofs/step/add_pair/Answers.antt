use Rattle.std.proofs.Common.{◌∙◌, List, [], ◌∷◌, ◌++◌, ap, arith}
use Rattle.cnf.specs.Gates.{literal}
use Rattle.counter_cert.proofs.Added.{coded_later, coded_with_clause}
use Rattle.counter_cert.proofs.PairModels.{pair_steps, pair_reaches}
use Rattle.counter_cert.proofs.step.add_pair.Goals as goal

pub code_step-requires-clause-from : goal.code_step-requires-clause-from
code_step-requires-clause-from c =
    coded_with_clause c.layers_stay.ensures _ _ _ _ _ _ _ c.args.tab.now c.in_ok-from.from
    (coded_later c.layers_stay.ensures _ _ _ _ c.args.tab.now c.in_ok-from.from c.in_ok-from.ensures.layer
    c.code_copy-2.ensures.grows.vars c.code_copy-2.ensures.grows.clauses)
    c.in_ok-new_var.ensures.ok c.new_var.ensures.clauses c.add.ensures.vars c.in_ok-add.ensures.ok

pub code_step-requires-clause-to : goal.code_step-requires-clause-to
code_step-requires-clause-to c =
    coded_with_clause c.layers_stay.ensures _ _ _ _ _ _ _ c.args.tab.now c.in_ok-to.to c.in_ok-to.ensures.layer
    c.in_ok-new_var.ensures.ok c.new_var.ensures.clauses c.add.ensures.vars c.in_ok-add.ensures.ok

pub returns-clause-pair : goal.returns-clause-pair
returns-clause-pair c =
    let stay = c.layers_stay.ensures in
    let t = c.args.tab.now in
    let from = c.in_ok-from.from in
    let to = c.in_ok-to.to in
    let named = c.literal_of-under.ensures ∙ ap literal c.in_ok-new_var.ensures.number in
    let size = c.add.ensures.vars ∙ c.in_ok-new_var.ensures.ok in
    let alone = c.in_ok-add.ensures.ok ∙ ap (λ xs. xs ++ (c.literal_of-under.result ∷ []) ∷ []) c.new_var.ensures.clauses in
    record {
      from_coded = coded_later stay _ _ _ _ t from (coded_with_clause stay _ _ _ _ _ _ _ t from
          (coded_later stay _ _ _ _ t from c.in_ok-from.ensures.layer c.code_copy-2.ensures.grows.vars c.code_copy-2.ensures.grows.clauses)
          c.in_ok-new_var.ensures.ok c.new_var.ensures.clauses c.add.ensures.vars c.in_ok-add.ensures.ok)
          (omega (arith, c.code_step.ensures.vars)) c.code_step.ensures.more;
      to_coded = coded_later stay _ _ _ _ t to (coded_with_clause stay _ _ _ _ _ _ _ t to c.in_ok-to.ensures.layer
          c.in_ok-new_var.ensures.ok c.new_var.ensures.clauses c.add.ensures.vars c.in_ok-add.ensures.ok)
          (omega (arith, c.code_step.ensures.vars)) c.code_step.ensures.more;
      steps = pair_steps t from to c.literal_of-under.result c.args.cnf.now.vars c.code_copy.new.base.vars c.code_copy-2.new.base.vars
          c.add.new.self.vars c.code_step.new.base.vars c.args.cnf.now.clauses c.code_copy.new.base.clauses c.code_copy-2.new.base.clauses
          c.add.new.self.clauses c.code_step.new.base.clauses c.in_ok-from.ensures.layer c.in_ok-from.ensures.every c.in_ok-to.ensures.layer
          c.in_ok-to.ensures.every c.code_copy-2.ensures.grows.vars named size alone c.in_ok-code_step.ensures.step c.code_step.ensures.kept
          c.code_step.ensures.more;
      reaches = pair_reaches t from to c.literal_of-under.result c.args.cnf.now.vars c.code_copy.new.base.vars c.code_copy-2.new.base.vars
          c.add.new.self.vars c.code_step.new.base.vars c.args.cnf.now.clauses c.code_copy.new.base.clauses c.code_copy-2.new.base.clauses
          c.add.new.self.clauses c.code_step.new.base.clauses c.in_ok-from.ensures.layer c.in_ok-from.ensures.every c.in_ok-to.ensures.layer
          c.in_ok-to.ensures.every c.code_copy-2.ensures.grows.vars named size alone c.in_ok-code_step.ensures.step c.code_step.ensures.kept
          c.code_step.ensures.more c.requires.vars c.requires.clauses;
    }
