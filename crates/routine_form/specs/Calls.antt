-- What the functions weigh together that a bound tree calls, each as often as it is called.
-- ISO/IEC 9075-2, 10.4 (routine invocation).
use Rattle.std.specs.Prelude.{ℕ, List, Option, Some, None}
use Rattle.bound_trees.specs.declared.expr.BoundExpr.{BoundExpr, fold-BoundExpr}
use Rattle.bound_trees.specs.declared.expr.BoundExpr.TheOpen.{BoundExpr-F, BoundFromItem-F}
use Rattle.bound_trees.specs.declared.expr.BoundExpr.TheOpen.{BoundQuery-F, BoundRow-F}
use Rattle.bound_trees.specs.declared.expr.BoundExpr.TheOpen.{BoundSource-F, BoundGrouping-F}
use Rattle.bound_trees.specs.declared.expr.BoundExpr.TheOpen.{BoundLink-F, BoundSelect-F}
use Rattle.bound_trees.specs.declared.expr.BoundLink.{BoundLink, fold-BoundLink}
use Rattle.bound_trees.specs.declared.query.BoundFromItem.{BoundFromItem, fold-BoundFromItem}
use Rattle.bound_trees.specs.declared.query.BoundGrouping.{BoundGrouping, fold-BoundGrouping}
use Rattle.bound_trees.specs.declared.query.BoundQuery.{BoundQuery, fold-BoundQuery}
use Rattle.bound_trees.specs.declared.query.BoundRow.{BoundRow, fold-BoundRow}
use Rattle.bound_trees.specs.declared.query.BoundSelect.{BoundSelect, fold-BoundSelect}
use Rattle.bound_trees.specs.declared.query.BoundSource.{BoundSource, fold-BoundSource}
use Rattle.catalog_store.specs.Catalog.{Catalog, Object, TableObject, FunctionObject}
use Rattle.catalog_store.specs.Catalog.{InterpretedObject, ProcedureObject, object_named}
use Rattle.routine_form.specs.declared.sum.TheConstants.{HEAVIEST}
use Rattle.routine_form.specs.Sums.{add, total}

-- A function of the catalog has its weight. What is no function there is the routine in whose body
-- the call stands, and a call of itself is heaviest.
abbrev pub weight_in : Option Object → ℕ
weight_in (Some (FunctionObject f)) = f.weight
weight_in (Some (InterpretedObject f)) = f.weight
weight_in (Some (ProcedureObject p)) = HEAVIEST
weight_in (Some (TableObject t)) = HEAVIEST
weight_in None = HEAVIEST

-- what the routine of the name weighs in a call; the heaviest weight where the name is no
-- function's
abbrev pub weight_named : Catalog → List ℕ → ℕ
weight_named known name = weight_in (object_named name known)

-- ---- one level, with what stands inside already counted

-- A call counts its function's weight beside what its arguments count.
abbrev pub expr_calls : Catalog → BoundExpr-F ℕ ℕ ℕ ℕ ℕ ℕ ℕ ℕ → ℕ
expr_calls known (BoundExpr-F.Literal v) = 0
expr_calls known (BoundExpr-F.Column level i) = 0
expr_calls known (BoundExpr-F.Variable i) = 0
expr_calls known (BoundExpr-F.Operation word operands) = total operands
expr_calls known (BoundExpr-F.Chain first rest) = add first (total rest)
expr_calls known (BoundExpr-F.Call name args) = add (weight_named known name) (total args)
expr_calls known (BoundExpr-F.Single query) = query
expr_calls known (BoundExpr-F.Exists query) = query
expr_calls known (BoundExpr-F.In e query) = add e query

-- an item of FROM: what it reads, and its condition
abbrev pub item_calls : BoundFromItem-F ℕ ℕ ℕ ℕ ℕ ℕ ℕ ℕ → ℕ
item_calls (BoundFromItem-F.Comma f) = f
item_calls (BoundFromItem-F.Cross f) = f
item_calls (BoundFromItem-F.Inner f on) = add f (total on)
item_calls (BoundFromItem-F.Left f on) = add f (total on)

-- a query: ORDER BY takes columns of its list, and calls nothing
abbrev pub query_calls : BoundQuery-F ℕ ℕ ℕ ℕ ℕ ℕ ℕ ℕ → ℕ
query_calls (BoundQuery-F.Select select) = select
query_calls (BoundQuery-F.Values rows) = total rows
query_calls (BoundQuery-F.Ordered query keys) = query

-- a row of VALUES
abbrev pub row_calls : BoundRow-F ℕ ℕ ℕ ℕ ℕ ℕ ℕ ℕ → ℕ
row_calls (BoundRow-F.Row es) = total es

-- a table calls nothing; a derived table what its query calls
abbrev pub source_calls : BoundSource-F ℕ ℕ ℕ ℕ ℕ ℕ ℕ ℕ → ℕ
source_calls (BoundSource-F.Table name) = 0
source_calls (BoundSource-F.Derived query) = query

-- what is grouped, and HAVING
abbrev pub grouping_calls : BoundGrouping-F ℕ ℕ ℕ ℕ ℕ ℕ ℕ ℕ → ℕ
grouping_calls g = add (total g.parts) (total g.having)

-- the operand of a chain's link
abbrev pub link_calls : BoundLink-F ℕ ℕ ℕ ℕ ℕ ℕ ℕ ℕ → ℕ
link_calls l = l.operand

-- 0 where a query has no groups
abbrev pub if_there : Option ℕ → ℕ
if_there None = 0
if_there (Some w) = w

-- list, FROM, WHERE, groups and HAVING
abbrev pub select_calls : BoundSelect-F ℕ ℕ ℕ ℕ ℕ ℕ ℕ ℕ → ℕ
select_calls s = add (total s.items) (add (total s.from)
    (add (total s.conjuncts) (if_there s.grouping)))

-- ---- whole trees

-- the sum over an expression
abbrev pub calls_in : Catalog → BoundExpr → ℕ
calls_in known = fold-BoundExpr ℕ ℕ ℕ ℕ ℕ ℕ ℕ ℕ (expr_calls known) item_calls query_calls row_calls
    source_calls link_calls grouping_calls select_calls

-- the sum over an item of FROM
abbrev pub calls_in_item : Catalog → BoundFromItem → ℕ
calls_in_item known = fold-BoundFromItem ℕ ℕ ℕ ℕ ℕ ℕ ℕ ℕ (expr_calls known) item_calls query_calls
    row_calls source_calls link_calls grouping_calls select_calls

-- the sum over a query
abbrev pub calls_in_query : Catalog → BoundQuery → ℕ
calls_in_query known = fold-BoundQuery ℕ ℕ ℕ ℕ ℕ ℕ ℕ ℕ (expr_calls known) item_calls query_calls
    row_calls source_calls link_calls grouping_calls select_calls

-- the sum over a row of VALUES
abbrev pub calls_in_row : Catalog → BoundRow → ℕ
calls_in_row known = fold-BoundRow ℕ ℕ ℕ ℕ ℕ ℕ ℕ ℕ (expr_calls known) item_calls query_calls
    row_calls source_calls link_calls grouping_calls select_calls

-- the sum over a table or derived table
abbrev pub calls_in_source : Catalog → BoundSource → ℕ
calls_in_source known = fold-BoundSource ℕ ℕ ℕ ℕ ℕ ℕ ℕ ℕ (expr_calls known) item_calls query_calls
    row_calls source_calls link_calls grouping_calls select_calls

-- the sum over GROUP BY and HAVING
abbrev pub calls_in_grouping : Catalog → BoundGrouping → ℕ
calls_in_grouping known = fold-BoundGrouping ℕ ℕ ℕ ℕ ℕ ℕ ℕ ℕ (expr_calls known) item_calls
    query_calls row_calls source_calls link_calls grouping_calls select_calls

-- the sum over a link of a chain
abbrev pub calls_in_link : Catalog → BoundLink → ℕ
calls_in_link known = fold-BoundLink ℕ ℕ ℕ ℕ ℕ ℕ ℕ ℕ (expr_calls known) item_calls query_calls
    row_calls source_calls link_calls grouping_calls select_calls

-- the sum over a select
abbrev pub calls_in_select : Catalog → BoundSelect → ℕ
calls_in_select known = fold-BoundSelect ℕ ℕ ℕ ℕ ℕ ℕ ℕ ℕ (expr_calls known) item_calls query_calls
    row_calls source_calls link_calls grouping_calls select_calls

-- 0 where nothing is written
abbrev pub calls_if_there : Catalog → Option BoundExpr → ℕ
calls_if_there known None = 0
calls_if_there known (Some e) = calls_in known e
