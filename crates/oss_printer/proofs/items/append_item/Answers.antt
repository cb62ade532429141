use Rattle.std.proofs.Common.{◌++◌, codes}
use Rattle.oss_syntax.specs.Expressions.{tree}
use Rattle.oss_printer.specs.Canonical.{expr_text}
use Rattle.oss_printer.specs.Lines.{item_line}
use Rattle.oss_printer.proofs.Appends.{on_ok, more}
use Rattle.oss_printer.proofs.items.append_item.Goals as goal

pub returns-in_ok-append_expr-in-Contract-2 : goal.returns-in_ok-append_expr-in-Contract-2
unfolding item_line
returns-in_ok-append_expr-in-Contract-2 c =
    rw c.in-Contract.is (
    let e2 = more c.args.text.now c.append-in-Contract.new.self c.append_word-in-Contract.new.text (codes "    CONTRACT ")
    (c.in-Contract.name.text) c.in_ok-append-in-Contract.ensures.ok c.in_ok-append_word-in-Contract.ensures in
    let e3 = more c.args.text.now c.append_word-in-Contract.new.text c.append-in-Contract-2.new.self
    (codes "    CONTRACT " ++ c.in-Contract.name.text) (codes "\n      assume: ") e2 c.in_ok-append-in-Contract-2.ensures.ok in
    let e4 = more c.args.text.now c.append-in-Contract-2.new.self c.append_expr.new.text
    (codes "    CONTRACT " ++ c.in-Contract.name.text ++ codes "\n      assume: ")
    (expr_text (tree c.in-Contract.assume)) e3 c.in_ok-append_expr-in-Contract.ensures in
    let e5 = more c.args.text.now c.append_expr.new.text c.append-in-Contract-3.new.self
    (codes "    CONTRACT " ++ c.in-Contract.name.text ++ codes "\n      assume: " ++ expr_text (tree c.in-Contract.assume))
    (codes ";\n      guarantee: ") e4 c.in_ok-append-in-Contract-3.ensures.ok in
    let e6 = more c.args.text.now c.append-in-Contract-3.new.self c.append_expr-in-Contract.new.text
    (codes "    CONTRACT " ++ c.in-Contract.name.text ++ codes "\n      assume: " ++ expr_text
    (tree c.in-Contract.assume) ++ codes ";\n      guarantee: ")
    (expr_text (tree c.in-Contract.guarantee)) e5 c.in_ok-append_expr-in-Contract-2.ensures in
    on_ok c.append-in-Contract-4.result _ _ (more c.args.text.now c.append_expr-in-Contract.new.text c.append-in-Contract-4.new.self
    (codes "    CONTRACT " ++ c.in-Contract.name.text ++ codes "\n      assume: " ++ expr_text
    (tree c.in-Contract.assume) ++ codes ";\n      guarantee: " ++ expr_text (tree c.in-Contract.guarantee))
    (codes ";\n") e6) c.append-in-Contract-4.ensures.ok)
