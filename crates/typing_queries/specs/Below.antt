-- Kinds that say no more than others: what binding knows of a value, and what its tree shows by
-- itself, which may be Null where more is known.
use Rattle.std.specs.Prelude.{◌≡◌, ◌⊎◌, List, [], ◌∷◌, Option, Some}
use Rattle.bind_kinds.specs.declared.kind.Kind.{Kind}
use Rattle.bind_kinds.specs.declared.kind.Kind.TheVariants.{Null}

-- the first is the second, or Null
abbrev pub Below : Kind → Kind → Type 0
Below j k = (j ≡ k) ⊎ (j ≡ Null)

-- each at its place, and as many
abbrev pub AllBelow : List Kind → List Kind → Type 0
AllBelow [] [] = Unit {0}
AllBelow [] (k ∷ ks) = ⊥
AllBelow (j ∷ js) [] = ⊥
AllBelow (j ∷ js) (k ∷ ks) = Below j k × AllBelow js ks

-- there is a kind, and it is below
abbrev pub Has : Option Kind → Kind → Type 0
Has o k = (j : Kind) × (o ≡ Some j) × Below j k

-- there are kinds, each below, and as many
abbrev pub HasAll : Option (List Kind) → List Kind → Type 0
HasAll o ks = (js : List Kind) × (o ≡ Some js) × AllBelow js ks
