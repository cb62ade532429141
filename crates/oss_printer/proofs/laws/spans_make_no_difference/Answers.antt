use Rattle.oss_printer.proofs.Spanless.{same_text}
use Rattle.oss_printer.proofs.laws.spans_make_no_difference.Goals as goal

pub returns : goal.returns
returns c = same_text
