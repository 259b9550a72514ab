use Rattle.std.proofs.Common.{◌≡◌, ◌++◌, take, drop}
use Rattle.psm_session.specs.Names.{without_name}
use Rattle.psm_session.proofs.names.remove_name.Given as goal

-- the list is as it was, and no name so far is the one
abbrev pub invariant-loop-at : goal.invariant-loop-at
invariant-loop-at l = (l.names.items ≡ l.initial.names.items)
    × (without_name l.name l.names.items ≡ take l.at l.names.items ++
    without_name l.name (drop l.at l.names.items))
