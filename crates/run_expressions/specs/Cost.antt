-- How deep an evaluation can nest: what falls at each call of the interpreter.
use Rattle.std.specs.Prelude.{ℕ, ◌+◌}
use Rattle.rel_algebra.specs.Tree.{Expr, Literal, Column, Variable, Chain, Operate, And, Or, Case}
use Rattle.rel_algebra.specs.Tree.{CaseOf, Coalesce, In, Exists, Single, Call, CallSelf, Links}
use Rattle.rel_algebra.specs.Tree.{NoLink, MoreLinks, Exprs, NoExpr, MoreExprs, Routine, Returned}
use Rattle.rel_algebra.specs.Tree.{Rows, NoRow, MoreRows, From, Table, Derived, Cross, Inner}
use Rattle.rel_algebra.specs.Tree.{LeftOuter, Query, Select, Grouped, Values, Ordered}

-- Each counts at least one for itself, and what its parts count. A call counts two and the body
-- that it runs, and CASE with an operand three.
abbrev mutual
  -- of an expression
  pub cost : Expr → ℕ
  cost (Literal v) = 1
  cost (Column level i) = 1
  cost (Variable i) = 1
  cost (Chain e links) = cost e + links_cost links + 1
  cost (Operate operation es) = costs es + 1
  cost (And es) = costs es + 1
  cost (Or es) = costs es + 1
  cost (Case arms) = costs arms + 1
  cost (CaseOf e test result arms) = cost e + cost test + cost result + costs arms + 3
  cost (Coalesce es) = costs es + 1
  cost (In e query) = cost e + query_cost query + 1
  cost (Exists query) = query_cost query + 1
  cost (Single query) = query_cost query + 1
  cost (Call name routine args) = costs args + routine_cost routine + 2
  cost (CallSelf parameters args) = costs args + 1

  -- of the operators of a chain, each with what stands to its right
  pub links_cost : Links → ℕ
  links_cost NoLink = 1
  links_cost (MoreLinks operator e links) = cost e + links_cost links + 1

  -- of several expressions
  pub costs : Exprs → ℕ
  costs NoExpr = 1
  costs (MoreExprs e es) = cost e + costs es + 1

  -- of a routine: of a function that only returns an expression what this counts; no other is run
  pub routine_cost : Routine → ℕ
  routine_cost (Returned parameters returns e) = cost e + 1
  routine_cost _ = 1

  -- of the rows of VALUES
  pub rows_cost : Rows → ℕ
  rows_cost NoRow = 1
  rows_cost (MoreRows r rs) = costs r + rows_cost rs + 1

  -- of FROM, or a part of it
  pub from_cost : From → ℕ
  from_cost (Table name) = 1
  from_cost (Derived query) = query_cost query + 1
  from_cost (Cross a b) = from_cost a + from_cost b + 1
  from_cost (Inner a b on) = from_cost a + from_cost b + costs on + 1
  from_cost (LeftOuter a b on) = from_cost a + from_cost b + costs on + 1

  -- of a query; an order adds one, since its keys are columns of the list
  pub query_cost : Query → ℕ
  query_cost (Select items from conjuncts) = costs items + from_cost from + costs conjuncts + 1
  query_cost (Grouped from conjuncts k items ags having list) =
      from_cost from + costs conjuncts + costs items + costs having + costs list + 1
  query_cost (Values rows) = rows_cost rows + 1
  query_cost (Ordered query keys) = query_cost query + 1
