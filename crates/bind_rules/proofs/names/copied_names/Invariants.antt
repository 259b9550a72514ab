use Rattle.std.proofs.Common.{◌≡◌, map, take}
use Rattle.bind_rules.proofs.names.copied_names.Given as goal

abbrev pub invariant-loop-ident : goal.invariant-loop-ident
invariant-loop-ident l = l.names ≡ map (λ i. i.name) (take l.ident-index l.idents)
