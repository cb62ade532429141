use Rattle.std.proofs.Common.{◌≡◌, ◌<◌, length, Some, slice_get, refl}
use Rattle.std.proofs.lemmas.Option.{slice_get_read}
use Rattle.levels.specs.Levels.{IsLevel}
use Rattle.report.proofs.AllAnswers.{levels_step}
use Rattle.report.proofs.SmallLevels.{as_many, level_there, few_members}
use Rattle.report.proofs.answering.answer_levels.Goals as goal

pub bounds-as_slice-place : goal.bounds-as_slice-place
bounds-as_slice-place c =
    let below : c.loop-place.place < length c.args.spec.now.items = rw c.as_slice-item-items.ensures at c.loop-place-test.true in
    rw (c.as_slice.ensures, as_many c.args.spec.now c.args.spec.now.items c.args.levels.now c.requires.levels) below

is_level : (c : goal.After-index-as_slice-place) → IsLevel c.args.spec.now c.item-item.result c.index-as_slice-place.result
is_level c =
    let same = c.as_slice-item-items.ensures in
    level_there c.args.spec.now c.args.spec.now.items c.args.levels.now c.loop-place.place c.item-item.result c.index-as_slice-place.result
    c.requires.levels (rw same at c.loop-place-test.true) (rw same at c.item-item.is) (rw c.as_slice.ensures at c.index-as_slice-place.is)

pub verdicts-requires-clause-level : goal.verdicts-requires-clause-level
verdicts-requires-clause-level c = is_level c

pub verdicts-requires-clause-few : goal.verdicts-requires-clause-few
verdicts-requires-clause-few c =
    let same = c.as_slice-item-items.ensures in
    let items = c.args.spec.now.items in
    let at : slice_get items c.loop-place.place ≡ Some c.item-item.result =
    slice_get_read items (length items) c.loop-place.place c.item-item.result refl (rw same at c.loop-place-test.true) (rw same at c.item-item.is) in
    few_members c.clear_levels_are_small.ensures.sizes c.clear_levels_are_small.ensures.closures c.args.spec.now c.requires.clear c.loop-place.place
    c.item-item.result c.index-as_slice-place.result at (is_level c)

pub loop-place-preserved : goal.loop-place-preserved
loop-place-preserved c =
    let spec = c.args.spec.now in
    let same = c.as_slice-item-items.ensures in
    let pushed = rw c.as_slice-in-loop-place.ensures at c.in_ok-push_level.ensures in
    levels_step spec c.args.depth spec.items c.loop-place.place c.item-item.result c.in_ok-verdicts.verdicts c.in_ok-number.field-0 c.loop-place.answers
    c.push_level.new.answers (rw same at c.loop-place-test.true) (rw same at c.item-item.is) c.in_ok-number.ensures c.loop-place.invariant
    c.in_ok-verdicts.ensures.verdicts pushed
