use Rattle.std.proofs.Common.{◌≡◌, ℕ, Err, sym, ap, subst, arith, length}
use Rattle.replay.specs.declared.named.LassoStop.TheVariants as stop
use Rattle.replay.specs.Reading.{lines_ahead, line_behind, EndBreaks}
use Rattle.replay.proofs.Blocks.{read_whole_block, read_breaks_at_end}
use Rattle.replay.proofs.reading.read_states.Goals as goal

pub returns-in-Ok-read_end-clause-states : goal.returns-in-Ok-read_end-clause-states
returns-in-Ok-read_end-clause-states c =
    read_whole_block c.args.table.now.names c.args.table.now.kinds (line_behind c.args.bytes.now c.args.first) c.args.count
    (lines_ahead c.args.bytes.now c.args.first) c.loop.states (lines_ahead c.loop.rest.now c.loop.number) c.loop.invariant.read
    c.in-Ok-read_end.ensures.end

pub returns-in-Err-read_end-clause-stops : goal.returns-in-Err-read_end-clause-stops
returns-in-Err-read_end-clause-stops c = λ line e.
    let same : c.in-Err-read_end.stop ≡ stop.Fault line = cc e in
    let behind = subst (λ (missing : ℕ). EndBreaks missing (lines_ahead c.loop.rest.now c.loop.number) line) (sym c.loop.invariant.behind)
    (c.in-Err-read_end.ensures.stops line (ap Err same)) in
    let all : length c.loop.states ≡ c.args.count = omega arith in
    read_breaks_at_end c.args.table.now.names c.args.table.now.kinds (line_behind c.args.bytes.now c.args.first) c.args.count
    (lines_ahead c.args.bytes.now c.args.first) c.loop.states (lines_ahead c.loop.rest.now c.loop.number) line c.loop.invariant.read all behind
