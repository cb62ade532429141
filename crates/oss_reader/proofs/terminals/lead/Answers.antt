use Rattle.std.proofs.lemmas.Str.{IsUtf8-from_ascii}
use Rattle.oss_syntax.specs.Tokens.{text_at}
use Rattle.oss_reader.proofs.terminals.lead.Goals as goal

pub text_of-requires-clause-text : goal.text_of-requires-clause-text
text_of-requires-clause-text c = IsUtf8-from_ascii (text_at c.args.bytes.now c.args.token.span) c.requires.ascii

pub text_of-requires-in-Symbol-clause-text : goal.text_of-requires-in-Symbol-clause-text
text_of-requires-in-Symbol-clause-text c = IsUtf8-from_ascii (text_at c.args.bytes.now c.args.token.span) c.requires.ascii
