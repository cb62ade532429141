use Rattle.ocra_tool.proofs.lines.say_read_fault.Goals as goal

pub returns : goal.returns
returns g c = rw c.as_bytes.ensures.value at c.say_two.ensures
