use Rattle.std.proofs.Common.{◌≡◌, drop, map}
use Rattle.bind_sight.specs.Sight.{outwards, level_by}
use Rattle.bind_names.proofs.columns.outwards.Given as goal

abbrev pub invariant-loop-depth : goal.invariant-loop-depth
invariant-loop-depth l = outwards l.wanted l.depth (map level_by (drop l.depth l.levels)) l.other ≡
    outwards l.wanted 0 (map level_by l.levels) l.other
