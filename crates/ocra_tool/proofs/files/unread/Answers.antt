use Rattle.ocra_tool.proofs.Reading.{size_fault}
use Rattle.ocra_tool.proofs.files.unread.Goals as goal

pub returns-in-TooLong : goal.returns-in-TooLong
returns-in-TooLong c = λ task told other before now file long failed.
    c.refused.ensures task told other before now file (size_fault task told c.fault_at_start.result c.fault_at_start.ensures (long c.in-TooLong.is))
