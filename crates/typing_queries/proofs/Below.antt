-- Each kind is below itself.
use Rattle.std.proofs.Common.{inl, refl, List, [], ◌∷◌}
use Rattle.bind_kinds.specs.declared.kind.Kind.{Kind}
pub use Rattle.typing_queries.specs.Below.{Below, AllBelow, Has, HasAll}

pub below-self : (k : Kind) → Below k k
below-self k = inl refl

pub all-below-self : (ks : List Kind) → AllBelow ks ks
all-below-self [] = tt
all-below-self (k ∷ ks) = (below-self k, all-below-self ks)
