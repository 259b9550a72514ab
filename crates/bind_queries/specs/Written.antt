-- Expressions and queries written out as plain trees, for worked rows: which tree of the code each
-- stands for.
use Rattle.std.specs.Prelude.{Bool, List, [], ◌∷◌, Option, Some, None}
use Rattle.sql_values.specs.declared.fold.FoldKind.{FoldKind}
use Rattle.syntax_trees.specs.declared.anchor.Anchor.{Anchor}
use Rattle.syntax_trees.specs.declared.anchor.ColumnName.{ColumnName}
use Rattle.syntax_trees.specs.declared.anchor.Ident.{Ident}
use Rattle.syntax_trees.specs.declared.expr.ChainOperator.{ChainOperator}
use Rattle.syntax_trees.specs.declared.expr.Literal.{Literal as LiteralOf}
use Rattle.syntax_trees.specs.declared.expr.Operation.{Operation as OperationOf}
use Rattle.syntax_trees.specs.declared.expr.Expr.{Expr as Tree, roll-Expr}
use Rattle.syntax_trees.specs.declared.expr.Expr.TheOpen.{Expr-F, FromItem-F, Query-F, SelectItem-F}
use Rattle.syntax_trees.specs.declared.expr.Expr.TheOpen.{TableRef-F, ValueRow-F}
use Rattle.syntax_trees.specs.declared.expr.Link.{Link, roll-Link}
use Rattle.syntax_trees.specs.declared.query.FromItem.{FromItem, roll-FromItem}
use Rattle.syntax_trees.specs.declared.query.Query.{Query as QueryTree, roll-Query}
use Rattle.syntax_trees.specs.declared.query.Select.{roll-Select}
use Rattle.syntax_trees.specs.declared.query.SelectItem.{SelectItem, roll-SelectItem}
use Rattle.syntax_trees.specs.declared.query.TableRef.{TableRef, roll-TableRef}
use Rattle.syntax_trees.specs.declared.query.ValueRow.{ValueRow, roll-ValueRow}
use Rattle.syntax_trees.specs.declared.query.Values.{roll-Values}

-- expressions and queries as they are written, with the token of each word and name
mutual
  -- an expression, by its form
  pub data Expr : Type 0 where
    Literal : Anchor → LiteralOf → Expr
    Name : ColumnName → Expr
    Call : Ident → Exprs → Expr
    Operation : Anchor → OperationOf → Exprs → Expr
    Aggregate : Anchor → FoldKind → Exprs → Expr
    Chain : Expr → Links → Expr
    Subquery : Query → Expr
    Exists : Anchor → Query → Expr
    InQuery : Anchor → Bool → Expr → Query → Expr

  -- expressions from left to right
  pub data Exprs : Type 0 where
    NoExpr : Exprs
    MoreExprs : Expr → Exprs → Exprs

  -- the operators of a chain, each with what stands right of it
  pub data Links : Type 0 where
    NoLink : Links
    MoreLinks : ChainOperator → Anchor → Expr → Links → Links

  -- an expression that may be left out
  pub data Perhaps : Type 0 where
    Nothing : Perhaps
    Just : Expr → Perhaps

  -- an item of a select list
  pub data Item : Type 0 where
    All : Anchor → Item
    Value : Expr → Option Ident → Item

  -- a select list
  pub data Items : Type 0 where
    NoItem : Items
    MoreItems : Item → Items → Items

  -- the rows of VALUES
  pub data Rows : Type 0 where
    NoRow : Rows
    MoreRows : Exprs → Rows → Rows

  -- a SELECT or VALUES
  pub data Query : Type 0 where
    -- the list, FROM, WHERE, GROUP BY and HAVING
    SelectOf : Anchor → Items → Froms → Perhaps → List ColumnName → Perhaps → Query
    ValuesOf : Anchor → Rows → Query

  -- the items of FROM
  pub data Froms : Type 0 where
    NoFrom : Froms
    MoreFroms : From → Froms → Froms

  -- an item of FROM, by what stands before it
  pub data From : Type 0 where
    Comma : Ref → From
    Cross : Ref → From
    Inner : Ref → Expr → From
    Left : Ref → Expr → From

  -- a table or a derived table, with its name and names of its columns
  pub data Ref : Type 0 where
    Table : Ident → Option Ident → Ref
    Derived : Query → Ident → List Ident → Ref

-- the tree of the code that each written form stands for
abbrev mutual
  pub expr_of : Expr → Tree
  expr_of (Literal at l) = roll-Expr (Expr-F.Literal at l)
  expr_of (Name c) = roll-Expr (Expr-F.Name c)
  expr_of (Call i es) = roll-Expr (Expr-F.Call i (exprs_of es))
  expr_of (Operation at operation es) = roll-Expr (Expr-F.Operation at operation (exprs_of es))
  expr_of (Aggregate at kind es) = roll-Expr (Expr-F.Aggregate at kind (exprs_of es))
  expr_of (Chain e ls) = roll-Expr (Expr-F.Chain (expr_of e) (links_of ls))
  expr_of (Subquery q) = roll-Expr (Expr-F.Subquery (query_of q))
  expr_of (Exists at q) = roll-Expr (Expr-F.Exists at (query_of q))
  expr_of (InQuery at negated e q) = roll-Expr (Expr-F.InQuery at negated (expr_of e) (query_of q))

  pub exprs_of : Exprs → List Tree
  exprs_of NoExpr = []
  exprs_of (MoreExprs e es) = expr_of e ∷ exprs_of es

  pub links_of : Links → List Link
  links_of NoLink = []
  links_of (MoreLinks operator at e ls) = roll-Link
      (record { operator = operator; anchor = at; operand = expr_of e }) ∷ links_of ls

  pub perhaps_of : Perhaps → Option Tree
  perhaps_of Nothing = None
  perhaps_of (Just e) = Some (expr_of e)

  pub item_of : Item → SelectItem
  item_of (All at) = roll-SelectItem (SelectItem-F.All at)
  item_of (Value e alias) = roll-SelectItem (SelectItem-F.Value (expr_of e) alias)

  pub items_of : Items → List SelectItem
  items_of NoItem = []
  items_of (MoreItems i is) = item_of i ∷ items_of is

  pub rows_of : Rows → List ValueRow
  rows_of NoRow = []
  rows_of (MoreRows es rs) = roll-ValueRow (ValueRow-F.Row (exprs_of es)) ∷ rows_of rs

  pub query_of : Query → QueryTree
  query_of (SelectOf at is fs filter columns having) =
      roll-Query
      (Query-F.Select (roll-Select (record {
        anchor = at;
        items = items_of is;
        from = froms_of fs;
        filter = perhaps_of filter;
        group_by = columns;
        having = perhaps_of having;
      })))
  query_of (ValuesOf at rows) = roll-Query (Query-F.Values
      (roll-Values (record { anchor = at; rows = rows_of rows })))

  pub froms_of : Froms → List FromItem
  froms_of NoFrom = []
  froms_of (MoreFroms f fs) = from_of f ∷ froms_of fs

  pub from_of : From → FromItem
  from_of (Comma r) = roll-FromItem (FromItem-F.Comma (ref_of r))
  from_of (Cross r) = roll-FromItem (FromItem-F.Cross (ref_of r))
  from_of (Inner r e) = roll-FromItem (FromItem-F.Inner (ref_of r) (expr_of e))
  from_of (Left r e) = roll-FromItem (FromItem-F.Left (ref_of r) (expr_of e))

  pub ref_of : Ref → TableRef
  ref_of (Table i alias) = roll-TableRef (TableRef-F.Table i alias)
  ref_of (Derived q i names) = roll-TableRef (TableRef-F.Derived (query_of q) i names)

-- ---- by lists

-- expressions in their order
abbrev pub exprs : List Expr → Exprs
exprs [] = NoExpr
exprs (e ∷ es) = MoreExprs e (exprs es)

-- items of FROM in their order
abbrev pub froms : List From → Froms
froms [] = NoFrom
froms (f ∷ fs) = MoreFroms f (froms fs)

-- items of a select list in their order
abbrev pub items : List Item → Items
items [] = NoItem
items (i ∷ is) = MoreItems i (items is)

-- rows of VALUES in their order
abbrev pub rows : List Exprs → Rows
rows [] = NoRow
rows (r ∷ rs) = MoreRows r (rows rs)

-- an expression that may be left out
abbrev pub perhaps : Option Expr → Perhaps
perhaps None = Nothing
perhaps (Some e) = Just e

-- a SELECT of a list, FROM, WHERE, GROUP BY and HAVING
abbrev pub Grouped : Anchor → List Item → Froms → Option Expr → List ColumnName → Option Expr →
    Query
Grouped at is fs filter columns having = SelectOf at (items is) fs (perhaps filter) columns
    (perhaps having)

-- without GROUP BY and HAVING
abbrev pub Select : Anchor → List Item → Froms → Option Expr → Query
Select at is fs filter = Grouped at is fs filter [] None

-- VALUES of these rows
abbrev pub Values : Anchor → List Exprs → Query
Values at rs = ValuesOf at (rows rs)
