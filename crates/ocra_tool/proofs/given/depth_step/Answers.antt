use Rattle.std.proofs.Common.{ap, map, string_bytes, option_to_list}
use Rattle.ocra_tool.specs.Given.{arguments_meant}
use Rattle.ocra_tool.proofs.GivenWords.{second_depth}
use Rattle.ocra_tool.proofs.given.depth_step.Goals as goal

pub returns-in-Some-clause-leads : goal.returns-in-Some-clause-leads
returns-in-Some-clause-leads c = λ command.
    let some = c.in_ok-number.ensures.some in
    second_depth command (arguments_meant c.args.given) c.in_ok-number.number c.in-Some.field-0 some.0 (map string_bytes c.args.rest.now)
    (map string_bytes c.in_ok-number.left.now) some.1 some.2 (ap option_to_list c.in-Some.is)
