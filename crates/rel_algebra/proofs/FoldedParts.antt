-- What is asked of a query that is folded: that each Apply in it can be removed, and that it fits.
use Rattle.std.proofs.Common.{◌≡◌, ℕ, suc, ◌+◌, true, List, ◌∷◌, length, Option, Some, None, ◌≤◌}
use Rattle.rel_algebra.specs.Emit.{Folded}
use Rattle.rel_algebra.specs.Plan.{aggregate, Nodes}
use Rattle.rel_algebra.specs.Removal.{all_removable, nodes_removable, removable, tree_width}
use Rattle.rel_algebra.specs.WellFormed.{aggregates_fit, tree_fits}
use Rattle.rel_algebra.proofs.FittingNodes.{FitAll}

abbrev pub NodesOk : Nodes → Type 0
NodesOk nodes = nodes_removable nodes ≡ true

abbrev pub PartsOk : Option Folded → Type 0
PartsOk None = Unit {0}
PartsOk (Some a) = (all_removable a.input ≡ true) × ((j : ℕ) → NodesOk (a.list j).nodes)

abbrev pub InputRemovable : Option Folded → Type 0
InputRemovable None = Unit {0}
InputRemovable (Some a) = removable (aggregate a.aggregates) a.input ≡ true

-- what is folded, asked on rows of m columns
abbrev pub FoldedFits : Option Folded → (List ℕ → ℕ) → ℕ → List ℕ → ℕ → Type 0
FoldedFits None S m ws ps = Unit {0}
FoldedFits (Some a) S m ws ps =
    (aggregates_fit a.aggregates (tree_width a.input) ≡ true)
    × (tree_fits a.input S (m ∷ ws) ps ≡ true) × FitAll (a.list m) S
    (m + length a.aggregates) ws ps × (suc m ≤ m + length a.aggregates)
