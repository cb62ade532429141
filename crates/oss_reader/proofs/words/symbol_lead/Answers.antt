use Rattle.oss_reader.proofs.WordTables.{symbol_of}
use Rattle.oss_reader.proofs.words.symbol_lead.Goals as goal

pub returns-in-1 : goal.returns-in-1
returns-in-1 c = symbol_of 1 c.args.text.now c.args.span _ c.in-1.is c.symbol_of_one.ensures

pub returns-in-2 : goal.returns-in-2
returns-in-2 c = symbol_of 2 c.args.text.now c.args.span _ c.in-2.is c.symbol_of_two.ensures

pub returns-in-3 : goal.returns-in-3
returns-in-3 c = symbol_of 3 c.args.text.now c.args.span _ c.in-3.is c.symbol_of_three.ensures
