use Rattle.std.proofs.Common.{◌≡◌, drop, map}
use Rattle.bind_sight.specs.Sight.{guess, level_by}
use Rattle.bind_names.proofs.columns.guess.Given as goal

abbrev pub invariant-loop-depth : goal.invariant-loop-depth
invariant-loop-depth l = guess l.wanted l.depth (map level_by (drop l.depth l.levels)) l.other ≡
    guess l.wanted 0 (map level_by l.levels) l.other
