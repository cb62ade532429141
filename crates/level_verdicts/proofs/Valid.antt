-- A question of state formulas that no lasso of a few states breaks is valid.
use Rattle.std.proofs.Common.{◌≡◌, ◌<◌, length, arith}
use Rattle.spec_model.specs.FreeTypes.{free_types}
use Rattle.narrowed_questions.specs.StateQuestions.{OneStateBreaks}
use Rattle.level_verdicts.specs.Laws.{ProvedIsValid}
use Rattle.level_verdicts.proofs.StateLevels.{are_state_formulas}

pub proved_is_valid : OneStateBreaks → ProvedIsValid
proved_is_valid one spec item k formulas some ok asked h trace =
    let found = (one (free_types spec item.component) formulas (are_state_formulas spec item formulas ok.reads h.1 asked)).0 trace in
    let more : k < length (found.0).states = h.0 found.0 found.1 in
    let is_one : length (found.0).states ≡ 1 = found.2 in
    absurd (omega (arith, some, more, is_one))
