use Rattle.std.proofs.Common.{rules, ap, sym, ◌∙◌, map}
use Rattle.std.proofs.lemmas.Iterator.{YieldsList-from_slice, YieldsList-from_zip}
use Rattle.std.proofs.lemmas.Iterator.Adapters.{YieldsList-from_vec}
use Rattle.std.proofs.lemmas.Iterator.Consumers.{YieldsList-end}
use Rattle.std.proofs.lemmas.Simd.{map-map}
use Rattle.std.specs.Iterator.Adapters.{zip_first, zip_second}
use Rattle.architecture.specs.Assembling.{made_by}
use Rattle.architecture.proofs.components.components_of.Goals as goal

pub returns : goal.returns
returns c =
    let ports = YieldsList-from_vec {s = zip_first (zip_first (zip_second c.into_iter-component-iterator.result))} c.args.typed.ports (search rules)
    (search rules) in
    let contracts = YieldsList-from_vec {s = zip_second (zip_first (zip_second c.into_iter-component-iterator.result))} c.args.typed.contracts (search rules)
    (search rules) in
    let wires = YieldsList-from_vec {s = zip_second (zip_second c.into_iter-component-iterator.result)} c.args.typed.wires (search rules) (search rules) in
    let components = YieldsList-from_slice {s = zip_first c.into_iter-component-iterator.result} c.args.components.now (search rules) in
    let end = YieldsList-end (YieldsList-from_zip components (YieldsList-from_zip (YieldsList-from_zip ports contracts) wires))
    c.loop-component.yielded _ c.loop-component.yielded_by _ c.next.new.self c.in-None.is c.next.ensures.steps in
    c.loop-component.invariant ∙ (sym (map-map (made_by c.args.names.now) _ c.loop-component.yielded) ∙ ap (map (made_by c.args.names.now)) end.0)
