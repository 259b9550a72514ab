use Rattle.std.proofs.Common.{◌≡◌, map, take}
use Rattle.bind_changes.specs.Writing.{kind_named}
use Rattle.bind_changes.proofs.insert.kinds_named.Given as goal

abbrev pub invariant-loop-ident : goal.invariant-loop-ident
invariant-loop-ident l = l.kinds ≡ map (kind_named l.target) (take l.ident-index l.idents)
