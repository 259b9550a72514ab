use Rattle.std.proofs.Common.{◌≡◌, ◌++◌, drop}
use Rattle.bind_rules.specs.Names.{places_in}
use Rattle.bind_rules.proofs.names.places_in.Given as goal

abbrev pub invariant-loop-ident : goal.invariant-loop-ident
invariant-loop-ident l = l.places ++ places_in l.columns (drop l.ident-index l.idents) ≡
    places_in l.columns l.idents
