use Rattle.std.proofs.Common.{◌≤◌, ◌^◌, ◌-◌, sym, ap, arith}
use Rattle.levels.proofs.Counting.{no_leading}
use Rattle.levels.proofs.limits.bits_for.Goals as goal

pub returns-in-Err : goal.returns-in-Err
returns-in-Err c =
    let large : 2 ^ 32 ≤ c.args.count - 1 = omega (arith, c.saturating_sub.ensures, c.in-Err.ensures) in
    ap (λ n. 32 - n) (sym (no_leading 32 (c.args.count - 1) large))
