-- What a bound tree uses of a catalog, the functions that it calls and the tables that it reads,
-- and when these fit a catalog. ISO/IEC 9075-2, 7.6 (table reference) and 10.4 (routine
-- invocation).
use Rattle.std.specs.Prelude.{◌≡◌, ◌<◌, ℕ, List, [], ◌∷◌, ◌++◌, map, length, Option, None, Some}
use Rattle.std.specs.Prelude.{IsSome}
use Rattle.std.specs.List.{flat_map, list_any}
use Rattle.std.specs.Str.{bytes_eq}
use Rattle.row_types.specs.declared.RowType.{RowType}
use Rattle.bound_trees.specs.declared.expr.BoundExpr.{BoundExpr, fold-BoundExpr}
use Rattle.bound_trees.specs.declared.expr.BoundExpr.TheOpen.{BoundExpr-F, BoundFromItem-F}
use Rattle.bound_trees.specs.declared.expr.BoundExpr.TheOpen.{BoundQuery-F, BoundRow-F}
use Rattle.bound_trees.specs.declared.expr.BoundExpr.TheOpen.{BoundSource-F, BoundGrouping-F}
use Rattle.bound_trees.specs.declared.expr.BoundExpr.TheOpen.{BoundLink-F, BoundSelect-F}
use Rattle.bound_trees.specs.declared.expr.BoundLink.{BoundLink, fold-BoundLink}
use Rattle.bound_trees.specs.declared.query.BoundFromItem.{BoundFromItem, fold-BoundFromItem}
use Rattle.bound_trees.specs.declared.query.BoundGrouping.{BoundGrouping, fold-BoundGrouping}
use Rattle.bound_trees.specs.declared.query.BoundQuery.{BoundQuery, fold-BoundQuery}
use Rattle.bound_trees.specs.declared.query.BoundRow.{BoundRow, fold-BoundRow}
use Rattle.bound_trees.specs.declared.query.BoundSelect.{BoundSelect, fold-BoundSelect}
use Rattle.bound_trees.specs.declared.query.BoundSource.{BoundSource, fold-BoundSource}
use Rattle.catalog_store.specs.Catalog.{Function, TableObject, FunctionObject, Catalog}
use Rattle.catalog_store.specs.Catalog.{object_named}

-- a use of a name
pub data Use : Type 0 where
  -- a call of a function, with so many arguments
  calls : List ℕ → ℕ → Use
  -- a table in FROM
  reads : List ℕ → Use

-- uses in the order in which they stand in the text
abbrev pub Uses : Type 0
Uses = List Use

-- the uses of several parts, one after another
abbrev pub joined : List Uses → Uses
joined us = flat_map (λ u. u) us

-- ---- one level, with what stands inside already seen as its uses

-- A call uses its function, and what its arguments use; a subquery what its query uses.
abbrev pub expr_uses : BoundExpr-F Uses Uses Uses Uses Uses Uses Uses Uses → Uses
expr_uses (BoundExpr-F.Literal v) = []
expr_uses (BoundExpr-F.Column level i) = []
expr_uses (BoundExpr-F.Variable i) = []
expr_uses (BoundExpr-F.Operation word operands) = joined operands
expr_uses (BoundExpr-F.Chain first rest) = first ++ joined rest
expr_uses (BoundExpr-F.Call name args) = calls name (length args) ∷ joined args
expr_uses (BoundExpr-F.Single query) = query
expr_uses (BoundExpr-F.Exists query) = query
expr_uses (BoundExpr-F.In e query) = e ++ query

-- an item of FROM: its table or query, and then its condition
abbrev pub item_uses : BoundFromItem-F Uses Uses Uses Uses Uses Uses Uses Uses → Uses
item_uses (BoundFromItem-F.Comma f) = f
item_uses (BoundFromItem-F.Cross f) = f
item_uses (BoundFromItem-F.Inner f on) = f ++ joined on
item_uses (BoundFromItem-F.Left f on) = f ++ joined on

-- a query: ORDER BY takes columns of its list, and uses nothing more
abbrev pub query_uses : BoundQuery-F Uses Uses Uses Uses Uses Uses Uses Uses → Uses
query_uses (BoundQuery-F.Select select) = select
query_uses (BoundQuery-F.Values rows) = joined rows
query_uses (BoundQuery-F.Ordered query keys) = query

-- a row of VALUES
abbrev pub row_uses : BoundRow-F Uses Uses Uses Uses Uses Uses Uses Uses → Uses
row_uses (BoundRow-F.Row es) = joined es

-- A table's name is a use of the table.
abbrev pub source_uses : BoundSource-F Uses Uses Uses Uses Uses Uses Uses Uses → Uses
source_uses (BoundSource-F.Table name) = reads name ∷ []
source_uses (BoundSource-F.Derived query) = query

-- what is grouped, and HAVING
abbrev pub grouping_uses : BoundGrouping-F Uses Uses Uses Uses Uses Uses Uses Uses → Uses
grouping_uses g = joined g.parts ++ joined g.having

-- the operand of a chain's link
abbrev pub link_uses : BoundLink-F Uses Uses Uses Uses Uses Uses Uses Uses → Uses
link_uses l = l.operand

-- nothing where a query has no groups
abbrev pub if_grouped : Option Uses → Uses
if_grouped None = []
if_grouped (Some u) = u

-- FROM, WHERE, groups and HAVING, and then the list, in the order of their evaluation
abbrev pub select_uses : BoundSelect-F Uses Uses Uses Uses Uses Uses Uses Uses → Uses
select_uses s = joined s.from ++ (joined s.conjuncts ++ (if_grouped s.grouping ++ joined s.items))

-- ---- whole trees

-- what an expression uses
abbrev pub uses_in : BoundExpr → Uses
uses_in = fold-BoundExpr Uses Uses Uses Uses Uses Uses Uses Uses expr_uses item_uses query_uses
    row_uses source_uses link_uses grouping_uses select_uses

-- what an item of FROM uses
abbrev pub uses_in_item : BoundFromItem → Uses
uses_in_item = fold-BoundFromItem Uses Uses Uses Uses Uses Uses Uses Uses expr_uses item_uses
    query_uses row_uses source_uses link_uses grouping_uses select_uses

-- what a query uses
abbrev pub uses_in_query : BoundQuery → Uses
uses_in_query = fold-BoundQuery Uses Uses Uses Uses Uses Uses Uses Uses expr_uses item_uses
    query_uses row_uses source_uses link_uses grouping_uses select_uses

-- what a row of VALUES uses
abbrev pub uses_in_row : BoundRow → Uses
uses_in_row = fold-BoundRow Uses Uses Uses Uses Uses Uses Uses Uses expr_uses item_uses query_uses
    row_uses source_uses link_uses grouping_uses select_uses

-- what a table or derived table uses
abbrev pub uses_in_source : BoundSource → Uses
uses_in_source = fold-BoundSource Uses Uses Uses Uses Uses Uses Uses Uses expr_uses item_uses
    query_uses row_uses source_uses link_uses grouping_uses select_uses

-- what GROUP BY and HAVING use
abbrev pub uses_in_grouping : BoundGrouping → Uses
uses_in_grouping = fold-BoundGrouping Uses Uses Uses Uses Uses Uses Uses Uses expr_uses item_uses
    query_uses row_uses source_uses link_uses grouping_uses select_uses

-- what a link of a chain uses
abbrev pub uses_in_link : BoundLink → Uses
uses_in_link = fold-BoundLink Uses Uses Uses Uses Uses Uses Uses Uses expr_uses item_uses query_uses
    row_uses source_uses link_uses grouping_uses select_uses

-- what a select uses
abbrev pub uses_in_select : BoundSelect → Uses
uses_in_select = fold-BoundSelect Uses Uses Uses Uses Uses Uses Uses Uses expr_uses item_uses
    query_uses row_uses source_uses link_uses grouping_uses select_uses

-- ---- the names that are used

-- the name of a use
abbrev pub name_used : Use → List ℕ
name_used (calls name arguments) = name
name_used (reads name) = name

-- the names of uses, in their order, with repetitions
abbrev pub names_used : Uses → List (List ℕ)
names_used us = map name_used us

-- two lists have the same names, in whatever order and however often
abbrev pub SameNames : List (List ℕ) → List (List ℕ) → Type 0
SameNames xs ys = (name : List ℕ) → list_any (λ x. bytes_eq x name) xs ≡ list_any
    (λ y. bytes_eq y name) ys

-- ---- when they fit a catalog

-- a call fits where its function stands in the catalog, has as many parameters as the call has
-- arguments, and is lower than this height
pub record CallFits (known : Catalog) (height : ℕ) (name : List ℕ) (arguments : ℕ) : Type 0 where
  pub function : Function
  pub stands : object_named name known ≡ Some (FunctionObject function)
  pub as_many : length function.parameters ≡ arguments
  pub lower : function.height < height

-- a table in FROM fits where it stands in the catalog
pub record TableFits (known : Catalog) (name : List ℕ) : Type 0 where
  pub row_type : RowType
  pub stands : object_named name known ≡ Some (TableObject row_type)

-- A use fits where the name stands for such an object, and what is called is lower than `height`.
abbrev pub Fits : Catalog → ℕ → Use → Type 0
Fits known height (calls name arguments) = CallFits known height name arguments
Fits known height (reads name) = TableFits known name

-- All uses fit.
abbrev pub AllFit : Catalog → ℕ → Uses → Type 0
AllFit known height [] = Unit {0}
AllFit known height (u ∷ us) = Fits known height u × AllFit known height us

-- each name that a routine without a plan uses stands for something in the catalog
abbrev pub UsesStand : Catalog → List (List ℕ) → Type 0
UsesStand known [] = Unit {0}
UsesStand known (name ∷ names) = IsSome (object_named name known) × UsesStand known names
