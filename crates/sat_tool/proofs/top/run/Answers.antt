use Rattle.std.proofs.Common.{List, ℕ, sym, ap, subst, ◌∙◌}
use Rattle.std.specs.Option.{option_map}
use Rattle.std.specs.Io.KnownBytes.{Appends}
use Rattle.sat_tool.specs.SatTasks.{asked}
use Rattle.oss_io.specs.Outside.{Says}
use Rattle.sat_tool.specs.SatTellings.{task_of_words}
use Rattle.sat_tool.proofs.Answered.{told_trace, told_break}
use Rattle.sat_tool.proofs.top.run.Goals as goal

pub returns-in-Ok-write_all-clause-traced : goal.returns-in-Ok-write_all-clause-traced
returns-in-Ok-write_all-clause-traced g c = λ _.
    told_trace (asked c.args.words.now) (task_of_words c.in-Some.task) (g.F.Shelf.held c.args.shelf.now) c.in-Unsat.text
    (λ (x : List ℕ). Appends (g.T.Sink.taken c.args.trace.now) (g.T.Sink.taken c.write_trace.new.trace) x)
    (sym c.parse_words.ensures ∙ ap (option_map task_of_words) c.in-Some.is) c.in-Unsat.ensures.means.1 c.in-Ok-write_trace.ensures.whole

pub returns-in-Refused-clause-broken : goal.returns-in-Refused-clause-broken
returns-in-Refused-clause-broken g c = λ _.
    told_break (asked c.args.words.now) (task_of_words c.in-Some.task) (g.F.Shelf.held c.args.shelf.now) c.in-Refused.line
    (λ (x : List ℕ). Says (g.E.Sink.taken c.args.err.now) (g.E.Sink.taken c.say.new.err) (g.E.Sink.faults c.args.err.now)
    (g.E.Sink.faults c.say.new.err) x)
    (sym c.parse_words.ensures ∙ ap (option_map task_of_words) c.in-Some.is) c.in-Refused.ensures.means
    (subst (λ (x : List ℕ). Says (g.E.Sink.taken c.args.err.now) (g.E.Sink.taken c.say.new.err) (g.E.Sink.faults c.args.err.now)
    (g.E.Sink.faults c.say.new.err) x) c.as_slice-in-Refused.ensures c.say.ensures)
