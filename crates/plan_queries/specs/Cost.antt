-- How deep an emission can nest: what falls at each of its calls. Constructors that no bound tree
-- stands for end it.
use Rattle.std.specs.Prelude.{ℕ, ◌+◌, List, [], ◌∷◌, Option, Some, None}
use Rattle.rel_algebra.specs.Tree.{Expr, Chain, Operate, And, Or, Case, CaseOf, Coalesce, In}
use Rattle.rel_algebra.specs.Tree.{Exists, Single, Call, Links, NoLink, MoreLinks, Exprs, NoExpr}
use Rattle.rel_algebra.specs.Tree.{MoreExprs, Routine, Returned, Rows, NoRow, MoreRows, From, Table}
use Rattle.rel_algebra.specs.Tree.{Derived, Cross, Inner, LeftOuter, Query, Select, Grouped, Values}
use Rattle.rel_algebra.specs.Tree.{Ordered}
use Rattle.catalog_store.specs.View.{Joining, after_comma, crossing, matching, matching_or_nulls}
use Rattle.catalog_store.specs.View.{itself}
use Rattle.block_plans.specs.View.{exprs_seen}
use Rattle.block_plans.specs.Callees.{Callees}
use Rattle.bound_trees.specs.declared.query.BoundGrouping.{BoundGrouping}

abbrev mutual
  pub cost : Expr → ℕ
  cost (Chain e links) = cost e + links_cost links + 2
  cost (Operate operation es) = costs es + 3
  cost (And es) = costs es + 3
  cost (Or es) = costs es + 3
  cost (Case arms) = costs arms + 3
  cost (CaseOf e test result arms) = cost e + (cost test + (cost result + costs arms + 1) + 1) + 1 +
      3
  cost (Coalesce es) = costs es + 3
  cost (In e query) = cost e + query_cost query + 4
  cost (Exists query) = query_cost query + 3
  cost (Single query) = query_cost query + 3
  cost (Call name routine args) = costs args + routine_cost routine + 3
  cost _ = 1

  pub links_cost : Links → ℕ
  links_cost NoLink = 1
  links_cost (MoreLinks operator e links) = cost e + links_cost links + 1

  pub costs : Exprs → ℕ
  costs NoExpr = 1
  costs (MoreExprs e es) = cost e + costs es + 1

  pub routine_cost : Routine → ℕ
  routine_cost (Returned parameters returns e) = cost e + 1
  routine_cost _ = 1

  pub rows_cost : Rows → ℕ
  rows_cost NoRow = 1
  rows_cost (MoreRows es rows) = costs es + rows_cost rows + 1

  pub from_cost : From → ℕ
  from_cost (Table name) = 1
  from_cost (Derived query) = query_cost query + 2
  from_cost (Cross a b) = from_cost a + from_cost b + 3
  from_cost (Inner a b on) = from_cost a + from_cost b + costs on + 5
  from_cost (LeftOuter a b on) = from_cost a + from_cost b + costs on + 5

  pub query_cost : Query → ℕ
  query_cost (Select items from tests) = costs items + costs tests + from_cost from + 4
  query_cost (Grouped from tests keys parts aggregates having list) =
      costs parts + costs tests + costs having + costs list + from_cost from + 4
  query_cost (Values rows) = rows_cost rows + 3
  query_cost (Ordered query keys) = query_cost query + 1

-- ---- the items of FROM

-- the cost of an item of FROM with its ON, above what stands before it
abbrev pub joining_cost : Joining → ℕ
joining_cost (after_comma f) = from_cost f + 2
joining_cost (crossing f) = from_cost f + 2
joining_cost (matching f on) = from_cost f + costs on + 4
joining_cost (matching_or_nulls f on) = from_cost f + costs on + 4

-- that of several items, one step more for each
abbrev pub joinings_cost : List Joining → ℕ
joinings_cost [] = 0
joinings_cost (i ∷ is) = joining_cost i + 1 + joinings_cost is

-- the first is joined to nothing
abbrev pub items_cost : List Joining → ℕ
items_cost [] = 0
items_cost (i ∷ is) = from_cost (itself i) + joinings_cost is

-- ---- groups

-- the parts of a grouping with its HAVING
abbrev pub grouping_cost : Callees → Option BoundGrouping → ℕ
grouping_cost k None = 0
grouping_cost k (Some g) = costs (exprs_seen k g.parts) + costs (exprs_seen k g.having)
