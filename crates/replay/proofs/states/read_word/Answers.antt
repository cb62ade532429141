use Rattle.std.proofs.Common.{◌<◌, ◌+◌, ◌∙◌, sym, subst, arith, length}
use Rattle.std.proofs.lemmas.List.{take_rest}
use Rattle.replay.specs.Reading.{SpeaksOf}
use Rattle.replay.proofs.Noting.{says_nothing, says_so}
use Rattle.replay.proofs.states.read_word.Goals as goal

pub returns-then-end-word-clause-none : goal.returns-then-end-word-clause-none
returns-then-end-word-clause-none c =
    says_nothing c.args.table.now.names c.args.word.now c.run_len-end.result c.run_len-end.ensures.place c.if-end-word.true

pub returns-in-Some-clause-some : goal.returns-in-Some-clause-some
returns-in-Some-clause-some c =
    let within = c.run_len-end.ensures.within in
    let l : c.run_len-end.result < length c.args.word.now = omega arith in
    subst (SpeaksOf c.args.table.now.names c.args.word.now c.in-Some.place) (sym (take_rest c.args.word.now (c.run_len-end.result + 1)))
    (says_so c.args.table.now.names c.args.table.now.places c.args.word.now c.run_len-end.result c.in-Some.place c.requires c.run_len-end.ensures.place l
    (sym c.find.ensures ∙ c.in-Some.is))
