use Rattle.replay.proofs.Connected.{seen_traces_are_connected}
use Rattle.replay.proofs.laws.seen_traces_are_connected.Goals as goal

pub returns : goal.returns
returns c = seen_traces_are_connected
