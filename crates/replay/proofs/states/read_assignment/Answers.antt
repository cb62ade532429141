use Rattle.std.proofs.Common.{◌≡◌, ◌<◌, ◌∙◌, ap, arith, get_or, length}
use Rattle.std.proofs.lemmas.List.{get_or_default}
use Rattle.port_types.specs.declared.types.PortType.TheVariants as kind
use Rattle.replay.proofs.Noting.{assigns_nothing}
use Rattle.replay.proofs.states.read_assignment.Goals as goal

pub returns-in-None-clause-none : goal.returns-in-None-clause-none
returns-in-None-clause-none c =
    let says = c.in-Some.ensures.some in
    let within : c.in-Some.saying.place < length c.args.table.now.names = says.within in
    let sizes : length c.args.table.now.kinds ≡ length c.args.table.now.names = c.requires.kinds in
    let l : c.in-Some.saying.place < length c.args.table.now.kinds = omega arith in
    assigns_nothing c.args.table.now.names c.args.table.now.kinds c.args.word.now c.in-Some.saying.place c.in-Some.saying.text.now
    c.index-as_slice-saying.result c.in-Some.ensures.some
    (c.index-as_slice-saying.is ∙ (ap (λ ks. get_or ks c.in-Some.saying.place c.index-as_slice-saying.result) c.as_slice.ensures
    ∙ get_or_default c.args.table.now.kinds c.in-Some.saying.place c.index-as_slice-saying.result kind.Bool l))
    (rw c.in-None.is at c.in_ok-value.ensures.none)
