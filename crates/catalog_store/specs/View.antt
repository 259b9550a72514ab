-- Which plain tree a bound tree stands for: a call stands for the tree of the function that it
-- names.
use Rattle.std.specs.Prelude.{ℕ, List, [], ◌∷◌, map, length, if◌then◌else◌, Option, Some, None}
use Rattle.sql_values.specs.declared.operators.Operator.{Operator}
use Rattle.sql_values.specs.declared.value.Value.TheVariants.{Null}
use Rattle.bound_trees.specs.Operands.{takes}
use Rattle.bound_trees.specs.declared.expr.BoundOperation.{BoundOperation}
use Rattle.bound_trees.specs.declared.expr.BoundOperation.TheVariants as bound
use Rattle.bound_trees.specs.declared.expr.BoundExpr.{BoundExpr, fold-BoundExpr}
use Rattle.bound_trees.specs.declared.expr.BoundExpr.TheOpen.{BoundExpr-F, BoundFromItem-F}
use Rattle.bound_trees.specs.declared.expr.BoundExpr.TheOpen.{BoundQuery-F, BoundRow-F}
use Rattle.bound_trees.specs.declared.expr.BoundExpr.TheOpen.{BoundSource-F, BoundGrouping-F}
use Rattle.bound_trees.specs.declared.expr.BoundExpr.TheOpen.{BoundLink-F, BoundSelect-F}
use Rattle.bound_trees.specs.declared.expr.BoundLink.{BoundLink, fold-BoundLink}
use Rattle.bound_trees.specs.declared.query.BoundFromItem.{BoundFromItem, fold-BoundFromItem}
use Rattle.bound_trees.specs.declared.query.BoundQuery.{BoundQuery, fold-BoundQuery}
use Rattle.bound_trees.specs.declared.query.BoundGrouping.{BoundGrouping, fold-BoundGrouping}
use Rattle.bound_trees.specs.declared.query.BoundRow.{BoundRow, fold-BoundRow}
use Rattle.bound_trees.specs.declared.query.BoundSelect.{BoundSelect, fold-BoundSelect}
use Rattle.bound_trees.specs.declared.query.BoundSource.{BoundSource, fold-BoundSource}
use Rattle.rel_algebra.specs.Tree.{Aggregate, Operation, Negation, Comparing, Opposite, NullTest}
use Rattle.rel_algebra.specs.Tree.{TrueTest, FalseTest, AnyOf, Modulo, CharLength, Substring, Cast}
use Rattle.rel_algebra.specs.Tree.{Expr, Literal, Column, Variable, Chain, Operate, And, Or, Case}
use Rattle.rel_algebra.specs.Tree.{CaseOf, Coalesce, In, Exists, Single, Call, Links, NoLink}
use Rattle.rel_algebra.specs.Tree.{MoreLinks, Exprs, NoExpr, MoreExprs, Rows, NoRow, MoreRows, From}
use Rattle.rel_algebra.specs.Tree.{Table, Derived, Cross, Inner, LeftOuter, Query, Select, Grouped}
use Rattle.rel_algebra.specs.Tree.{Values, Ordered}
use Rattle.catalog_store.specs.Catalog.{Catalog, routine_named}

-- an operator with the plain tree right of it
pub record Link : Type 0 where
  pub operator : Operator
  pub operand : Expr

-- a plain chain of links, from the first on
abbrev pub links : List Link → Links
links [] = NoLink
links (l ∷ ls) = MoreLinks l.operator l.operand (links ls)

-- plain expressions in a row, from the first on
abbrev pub exprs : List Expr → Exprs
exprs [] = NoExpr
exprs (e ∷ es) = MoreExprs e (exprs es)

-- how a word stands over its operands: it takes all of them, or is a construct that looks at them
-- in turn
pub data Standing : Type 0 where
  over_all : Operation → Standing
  as_and : Standing
  as_or : Standing
  as_coalesce : Standing
  as_case : Standing
  as_case_of : Standing

-- how each word stands
abbrev pub standing : BoundOperation → Standing
standing bound.Negation = over_all Negation
standing bound.Opposite = over_all Opposite
standing (bound.Comparing comparison) = over_all (Comparing comparison)
standing bound.NullTest = over_all NullTest
standing bound.TrueTest = over_all TrueTest
standing bound.FalseTest = over_all FalseTest
standing bound.AnyOf = over_all AnyOf
standing bound.Modulo = over_all Modulo
standing bound.CharLength = over_all CharLength
standing bound.Substring = over_all Substring
standing (bound.Cast t) = over_all (Cast t)
standing bound.And = as_and
standing bound.Or = as_or
standing bound.Coalesce = as_coalesce
standing bound.Case = as_case
standing bound.CaseOf = as_case_of

-- CASE with an operand has at least one comparison and its result
abbrev pub case_of : List Expr → Expr
case_of (e ∷ test ∷ result ∷ arms) = CaseOf e test result (exprs arms)
case_of _ = Literal Null

-- the plain tree of a word that stands so over its operands
abbrev pub stood : Standing → List Expr → Expr
stood (over_all operation) es = Operate operation (exprs es)
stood as_and es = And (exprs es)
stood as_or es = Or (exprs es)
stood as_coalesce es = Coalesce (exprs es)
stood as_case es = Case (exprs es)
stood as_case_of es = case_of es

-- a word with its operands; over another number of them than it takes it stands for NULL
abbrev pub operated : BoundOperation → List Expr → Expr
operated word es = if takes word (length es) then stood (standing word) es else Literal Null

-- ---- FROM

-- an item of FROM, by how it is joined to those before it
pub data Joining : Type 0 where
  after_comma : From → Joining
  crossing : From → Joining
  matching : From → Exprs → Joining
  matching_or_nulls : From → Exprs → Joining

-- FROM so far: what stands before the last comma, if there is one, and what stands after it
pub record Joined : Type 0 where
  pub before : Option From
  pub current : From

-- a comma is CROSS JOIN
abbrev pub beside : Option From → From → From
beside None current = current
beside (Some before) current = Cross before current

-- all items so far, once a comma closes those since the one before
abbrev pub closed : Joined → From
closed j = beside j.before j.current

-- the items since the last comma, joined to become this one
abbrev pub joined_by : Joined → From → Joined
joined_by j current = record { before = j.before; current = current }

-- one item more
abbrev pub grown : Joined → Joining → Joined
grown j (after_comma f) = record { before = Some (closed j); current = f }
grown j (crossing f) = joined_by j (Cross j.current f)
grown j (matching f on) = joined_by j (Inner j.current f on)
grown j (matching_or_nulls f on) = joined_by j (LeftOuter j.current f on)

-- the items of FROM taken in from left to right
abbrev pub all_grown : Joined → List Joining → Joined
all_grown j [] = j
all_grown j (i ∷ is) = all_grown (grown j i) is

-- an item without how it is joined: the first one of FROM is joined to nothing
abbrev pub itself : Joining → From
itself (after_comma f) = f
itself (crossing f) = f
itself (matching f on) = f
itself (matching_or_nulls f on) = f

-- the first item is joined to nothing
abbrev pub begun : Joining → Joined
begun i = record { before = None; current = itself i }

-- no rows, of no columns
abbrev pub nothing : From
nothing = Derived (Values NoRow)

-- the items from left to right
abbrev pub from_of : List Joining → From
from_of [] = nothing
from_of (i ∷ is) = closed (all_grown (begun i) is)

-- the rows of VALUES
abbrev pub rows : List Exprs → Rows
rows [] = NoRow
rows (r ∷ rs) = MoreRows r (rows rs)

-- ---- one level, with what stands inside already seen as its plain tree

-- how a query is grouped
pub record Grouping : Type 0 where
  pub keys : ℕ
  pub parts : Exprs
  pub aggregates : List Aggregate
  pub having : Exprs

-- a list over FROM and the conjuncts of WHERE, or over its groups
abbrev pub selected : Option Grouping → Exprs → From → Exprs → Query
selected None items from conjuncts = Select items from conjuncts
selected (Some g) items from conjuncts = Grouped from conjuncts g.keys g.parts g.aggregates g.having
    items

-- a node of an expression, once its operands and queries are plain trees
abbrev pub expr_step : Catalog → BoundExpr-F Expr Joining Query Exprs From Link Grouping Query →
    Expr
expr_step known (BoundExpr-F.Literal v) = Literal v
expr_step known (BoundExpr-F.Column level i) = Column level i
expr_step known (BoundExpr-F.Variable i) = Variable i
expr_step known (BoundExpr-F.Operation word operands) = operated word operands
expr_step known (BoundExpr-F.Chain first rest) = Chain first (links rest)
expr_step known (BoundExpr-F.Call name args) = Call name (routine_named name known) (exprs args)
expr_step known (BoundExpr-F.Single query) = Single query
expr_step known (BoundExpr-F.Exists query) = Exists query
expr_step known (BoundExpr-F.In e query) = In e query

-- an item of FROM with how it is joined
abbrev pub item_step : BoundFromItem-F Expr Joining Query Exprs From Link Grouping Query → Joining
item_step (BoundFromItem-F.Comma f) = after_comma f
item_step (BoundFromItem-F.Cross f) = crossing f
item_step (BoundFromItem-F.Inner f on) = matching f (exprs on)
item_step (BoundFromItem-F.Left f on) = matching_or_nulls f (exprs on)

-- a query, once its select is a plain tree
abbrev pub query_step : BoundQuery-F Expr Joining Query Exprs From Link Grouping Query → Query
query_step (BoundQuery-F.Select select) = select
query_step (BoundQuery-F.Values rs) = Values (rows rs)
query_step (BoundQuery-F.Ordered query keys) = Ordered query keys

-- a row of VALUES
abbrev pub row_step : BoundRow-F Expr Joining Query Exprs From Link Grouping Query → Exprs
row_step (BoundRow-F.Row es) = exprs es

-- a table, or a query as a derived table
abbrev pub source_step : BoundSource-F Expr Joining Query Exprs From Link Grouping Query → From
source_step (BoundSource-F.Table name) = Table name
source_step (BoundSource-F.Derived query) = Derived query

-- groups with their parts, aggregates and HAVING
abbrev pub grouping_step : BoundGrouping-F Expr Joining Query Exprs From Link Grouping Query →
    Grouping
grouping_step g = record {
  keys = g.keys;
  parts = exprs g.parts;
  aggregates = g.aggregates;
  having =
      exprs g.having;
}

-- a link of a chain
abbrev pub link_step : BoundLink-F Expr Joining Query Exprs From Link Grouping Query → Link
link_step l = record { operator = l.operator; operand = l.operand }

-- a select: grouped where it has a grouping
abbrev pub select_step : BoundSelect-F Expr Joining Query Exprs From Link Grouping Query → Query
select_step s = selected s.grouping (exprs s.items) (from_of s.from) (exprs s.conjuncts)

-- ---- whole trees

-- the plain expression that a bound one stands for, where its calls are of this catalog's functions
abbrev pub tree_of : Catalog → BoundExpr → Expr
tree_of known = fold-BoundExpr Expr Joining Query Exprs From Link Grouping Query (expr_step known)
    item_step query_step row_step source_step link_step grouping_step select_step

-- the plain item of FROM
abbrev pub item_of : Catalog → BoundFromItem → Joining
item_of known = fold-BoundFromItem Expr Joining Query Exprs From Link Grouping Query
    (expr_step known) item_step query_step row_step source_step link_step grouping_step select_step

-- the plain query
abbrev pub query_of : Catalog → BoundQuery → Query
query_of known = fold-BoundQuery Expr Joining Query Exprs From Link Grouping Query (expr_step known)
    item_step query_step row_step source_step link_step grouping_step select_step

-- the plain row of VALUES
abbrev pub row_of : Catalog → BoundRow → Exprs
row_of known = fold-BoundRow Expr Joining Query Exprs From Link Grouping Query (expr_step known)
    item_step query_step row_step source_step link_step grouping_step select_step

-- the plain table or derived table
abbrev pub source_of : Catalog → BoundSource → From
source_of known = fold-BoundSource Expr Joining Query Exprs From Link Grouping Query
    (expr_step known) item_step query_step row_step source_step link_step grouping_step select_step

-- the plain grouping
abbrev pub grouping_of : Catalog → BoundGrouping → Grouping
grouping_of known = fold-BoundGrouping Expr Joining Query Exprs From Link Grouping Query
    (expr_step known) item_step query_step row_step source_step link_step grouping_step select_step

-- the plain link of a chain
abbrev pub link_of : Catalog → BoundLink → Link
link_of known = fold-BoundLink Expr Joining Query Exprs From Link Grouping Query (expr_step known)
    item_step query_step row_step source_step link_step grouping_step select_step

-- the plain query that a bound select stands for
abbrev pub select_of : Catalog → BoundSelect → Query
select_of known = fold-BoundSelect Expr Joining Query Exprs From Link Grouping Query
    (expr_step known) item_step query_step row_step source_step link_step grouping_step select_step

-- plain expressions in a row
abbrev pub exprs_of : Catalog → List BoundExpr → Exprs
exprs_of known es = exprs (map (tree_of known) es)

-- plain links of a chain
abbrev pub links_of : Catalog → List BoundLink → Links
links_of known ls = links (map (link_of known) ls)

-- plain rows of VALUES
abbrev pub rows_of : Catalog → List BoundRow → Rows
rows_of known rs = rows (map (row_of known) rs)
