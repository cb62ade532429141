use Rattle.oss_reader.specs.Ahead.{ahead}
use Rattle.oss_reader.proofs.Texts as text
use Rattle.oss_reader.proofs.component.system.Goals as goal

pub returns-in-None : goal.returns-in-None
returns-in-None c = text.system_read_none (ahead c.args.terminals) c.in-None.ensures

pub returns-in-Some : goal.returns-in-Some
returns-in-Some c = text.system_read_some (ahead c.args.terminals) (ahead c.in-Some.more) c.in-Some.span c.in-Some.ensures
