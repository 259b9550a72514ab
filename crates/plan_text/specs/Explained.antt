-- The reply to EXPLAIN: in how many places the query calls functions with plans and without, how many
-- nodes of some sorts its plan has, the plan's lines, and `00000`.
use Rattle.std.specs.Prelude.{ℕ, ◌++◌, codes, decimal, Option, Some, None}
use Rattle.rel_algebra.specs.Applies.{applies, counted}
use Rattle.rel_algebra.specs.Plan.{PlanTree}
use Rattle.rel_algebra.specs.PlanText.{Text}
use Rattle.plan_text.specs.PlanLines.{plan_text}
use Rattle.plan_text.specs.NodeCounts.{lookups, onces}

-- in how many places functions are called
abbrev pub places_text : ℕ → ℕ → Text
places_text inlined interpreted = codes "inlined " ++ decimal inlined ++ codes " interpreted " ++
    decimal interpreted

-- how many nodes run an inner plan
abbrev pub nodes_text : ℕ → ℕ → ℕ → Text
nodes_text apply lookup once = codes " apply " ++ decimal apply ++ codes " lookup " ++ decimal lookup ++
    codes " once " ++ decimal once

-- the line of the counts
abbrev pub counts_line : ℕ → ℕ → ℕ → ℕ → ℕ → Text
counts_line inlined interpreted apply lookup once =
    places_text inlined interpreted ++ nodes_text apply lookup once ++ codes "\n"

-- A query is answered row by row: no plan, so no node.
abbrev pub by_row_text : ℕ → ℕ → Text
by_row_text inlined interpreted = counts_line inlined interpreted 0 0 0 ++
    codes "row by row\n00000\n"

-- A query is answered by this plan, so none of its calls is interpreted.
abbrev pub by_plan_text : ℕ → PlanTree → Text
by_plan_text inlined plan =
    counts_line inlined 0 (counted (applies plan)) (counted (lookups plan)) (counted (onces plan))
    ++ plan_text plan ++ codes "00000\n"

-- a query that is answered by a plan, where there is one, or row by row
abbrev pub explained_text : ℕ → ℕ → Option PlanTree → Text
explained_text inlined interpreted None = by_row_text inlined interpreted
explained_text inlined interpreted (Some plan) = by_plan_text inlined plan
