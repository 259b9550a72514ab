use Rattle.std.proofs.Common.{◌≡◌, drop}
use Rattle.bind_sight.specs.Sight.{among, among_from}
use Rattle.bind_names.proofs.items.among.Given as goal

abbrev pub invariant-loop-item : goal.invariant-loop-item
invariant-loop-item l = among_from l.wanted l.base l.hit (drop l.item-index l.items) ≡
    among l.wanted l.base l.items
