use Rattle.std.proofs.Common.{◌≡◌, ap, ◌++◌, ◌∙◌, None}
use Rattle.std.specs.List.{filter}
use Rattle.spec_model.specs.FreeRows as rows
use Rattle.spec_model.specs.TargetKeys.{lacks_key}
use Rattle.spec_model.proofs.FreeRows.{all_free}
use Rattle.spec_model.proofs.undriven.undriven_targets.Goals as goal

pub returns : goal.returns
returns c =
    all_free c.in_ok-connected.connected c.args.connected.now c.args.own c.args.counts.now c.put_row.new.free.items c.put_rows.new.free.items
    c.in_ok-connected.ensures
    (c.in_ok-put_row.ensures ∙ ap (λ list. list ++ filter (lacks_key c.in_ok-connected.connected) (rows.row None c.args.own)) c.new-free.ensures.items)
    c.in_ok-put_rows.ensures
