-- What the reader looks at, as the grammar sees it. This file serves proofs only: no public contract cites it.
use Rattle.oss_syntax.specs.Alphabet.{Terminal}
use Rattle.oss_syntax.specs.Alphabet as terminal
use Rattle.oss_reader.specs.declared.lead.Lead.{Lead}
use Rattle.oss_reader.specs.declared.lead.Lead.TheVariants as lead

-- the terminal that was looked at
abbrev pub lead_terminal : Lead → Terminal
lead_terminal (lead.Name text span) = terminal.Name (record { text = text.now; span = span })
lead_terminal (lead.Numeral value span) = terminal.Numeral value span
lead_terminal (lead.Truth truth span) = terminal.Truth truth span
lead_terminal (lead.OfPort word span) = terminal.OfPort word span
lead_terminal (lead.Prefix word span) = terminal.Prefix word span
lead_terminal (lead.Binary word span) = terminal.Binary word span
lead_terminal (lead.Mark mark span) = terminal.Mark mark span
