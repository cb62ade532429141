use Rattle.std.proofs.Common.{◌<◌}
use Rattle.std.proofs.lemmas.List.Elements.{All-append}
use Rattle.state_coding.proofs.NameLaws.{place-within}
use Rattle.state_coding.proofs.names.code_both.Goals as goal

pub gate_all-requires : goal.gate_all-requires
gate_all-requires g c =
    rw (c.deref-2.ensures.value, c.in_ok-extend_from_slice.ensures.items, c.deref.ensures.value, c.in_ok-lits.ensures, c.in_ok-more.ensures)
    (All-append (λ lit. lit.var < g.B.ClauseBase.vars c.args.base.now) _ _ (place-within _ c.args.a.now c.args.i c.requires.left)
    (place-within _ c.args.b.now c.args.j c.requires.right))
