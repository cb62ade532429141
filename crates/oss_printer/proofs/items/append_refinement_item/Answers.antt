use Rattle.std.proofs.Common.{◌++◌, codes}
use Rattle.oss_syntax.specs.Expressions.{tree}
use Rattle.oss_printer.specs.Canonical.{expr_text, target_text}
use Rattle.oss_printer.specs.Lines.{refinement_item_line}
use Rattle.oss_printer.proofs.Appends.{on_ok, more}
use Rattle.oss_printer.proofs.items.append_refinement_item.Goals as goal

pub returns-in_ok-append_expr-in-Connection : goal.returns-in_ok-append_expr-in-Connection
unfolding refinement_item_line
returns-in_ok-append_expr-in-Connection c =
    rw c.in-Connection.is (
    let e2 = more c.args.text.now c.append-in-Connection.new.self c.append_target.new.text (codes "    CONNECTION ")
    (target_text c.in-Connection.target) c.in_ok-append-in-Connection.ensures.ok c.in_ok-append_target-in-Connection.ensures in
    let e3 = more c.args.text.now c.append_target.new.text c.append-in-Connection-2.new.self
    (codes "    CONNECTION " ++ target_text c.in-Connection.target) (codes " := ") e2 c.in_ok-append-in-Connection-2.ensures.ok in
    let e4 = more c.args.text.now c.append-in-Connection-2.new.self c.append_expr.new.text
    (codes "    CONNECTION " ++ target_text c.in-Connection.target ++ codes " := ")
    (expr_text (tree c.in-Connection.source)) e3 c.in_ok-append_expr-in-Connection.ensures in
    on_ok c.append-in-Connection-3.result _ _ (more c.args.text.now c.append_expr.new.text c.append-in-Connection-3.new.self
    (codes "    CONNECTION " ++ target_text c.in-Connection.target ++ codes " := " ++ expr_text (tree c.in-Connection.source))
    (codes ";\n") e4) c.append-in-Connection-3.ensures.ok)
