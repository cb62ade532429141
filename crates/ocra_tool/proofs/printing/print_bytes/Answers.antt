use Rattle.std.proofs.Common.{[], Some, refl}
use Rattle.ocra_tool.specs.Words.{PrintFile}
use Rattle.ocra_tool.proofs.printing.print_bytes.Goals as goal

pub returns-in-Err-Fault : goal.returns-in-Err-Fault
returns-in-Err-Fault c = λ before now.
    c.refused.ensures (PrintFile c.args.file.now) (Some c.args.bytes.now) (Some []) before now refl
    (rw c.in-Err-Fault.field-0-is at c.in-Err-Fault.ensures.fault)
