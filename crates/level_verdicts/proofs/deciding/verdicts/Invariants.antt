use Rattle.std.proofs.Common.{drop}
use Rattle.levels.specs.Levels.{level_meaning}
use Rattle.level_verdicts.specs.Steps.{IsSearchOf}
use Rattle.level_verdicts.proofs.Listed.{AreVerdictsBut}
use Rattle.level_verdicts.proofs.deciding.verdicts.Given as goal

abbrev pub invariant-loop-j : goal.invariant-loop-j
invariant-loop-j l = IsSearchOf l.level l.search
    × AreVerdictsBut l.spec l.item l.depth (drop l.j (level_meaning l.spec l.item).parts) l.verdicts.items
