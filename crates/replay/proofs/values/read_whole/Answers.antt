use Rattle.std.proofs.Common.{◌≡◌, rules, w32, w64, to_z, of_z}
use Rattle.std.proofs.lemmas.Bool.{false≢true}
use Rattle.std.proofs.lemmas.Int.{to_z-of_z}
use Rattle.replay.proofs.Numerals.{whole_elsewhere, whole_nowhere}
use Rattle.replay.proofs.values.read_whole.Goals as goal

pub returns-else-lies_between-clause-none : goal.returns-else-lies_between-clause-none
returns-else-lies_between-clause-none c = λ given v.
    let lo : to_z w32 (of_z w32 c.args.lo) ≡ c.args.lo = to_z-of_z w32 _ (search rules) in
    let hi : to_z w32 (of_z w32 c.args.hi) ≡ c.args.hi = to_z-of_z w32 _ (search rules) in
    let number : to_z w64 (of_z w64 c.in-Some.number) ≡ c.in-Some.number = to_z-of_z w64 _ (search rules) in
    whole_elsewhere c.args.lo c.args.hi c.args.text.now c.in-Some.number given c.ranges.lo c.ranges.hi c.in-Some.ensures.some c.in-Some.ensures.most
    (λ h. false≢true (c.if-lies_between.ensures.1 (rw (lo, hi, number) h))) v

pub returns-in-None-clause-none : goal.returns-in-None-clause-none
returns-in-None-clause-none c = λ given v.
    whole_nowhere c.args.lo c.args.hi c.args.text.now given c.ranges.lo c.ranges.hi c.in-None.ensures.none v
