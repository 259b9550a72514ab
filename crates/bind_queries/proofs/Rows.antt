-- The judge of plain trees, which computes, and that it is the judge of what they stand for.
use Rattle.std.proofs.Common.{◌≡◌, refl, ap, ap₂, ◌∙◌, List, [], ◌∷◌, map, Option, None, Some}
use Rattle.syntax_trees.specs.declared.anchor.Anchor.{Anchor}
use Rattle.syntax_trees.specs.declared.anchor.ColumnName.{ColumnName}
use Rattle.syntax_trees.specs.declared.expr.Expr.{Expr as Tree}
use Rattle.syntax_trees.specs.declared.expr.Expr.TheFolds.{map-Select, fold-roll-Expr}
use Rattle.syntax_trees.specs.declared.expr.Expr.TheFolds.{fold-roll-FromItem, fold-roll-Query}
use Rattle.syntax_trees.specs.declared.expr.Expr.TheFolds.{fold-roll-SelectItem, fold-roll-TableRef}
use Rattle.syntax_trees.specs.declared.expr.Expr.TheFolds.{fold-roll-ValueRow, fold-roll-Link}
use Rattle.syntax_trees.specs.declared.expr.Expr.TheFolds.{fold-roll-Select, fold-roll-Values}
use Rattle.syntax_trees.specs.declared.expr.Expr.TheOpen.{Expr-F, FromItem-F, Query-F, SelectItem-F}
use Rattle.syntax_trees.specs.declared.expr.Expr.TheOpen.{TableRef-F, ValueRow-F}
use Rattle.syntax_trees.specs.declared.expr.Link.{Link}
use Rattle.syntax_trees.specs.declared.query.FromItem.{FromItem}
use Rattle.syntax_trees.specs.declared.query.Query.{Query as QueryTree}
use Rattle.syntax_trees.specs.declared.query.Select.{Select as SelectTree, roll-Select}
use Rattle.syntax_trees.specs.declared.query.SelectItem.{SelectItem}
use Rattle.syntax_trees.specs.declared.query.TableRef.{TableRef}
use Rattle.syntax_trees.specs.declared.query.ValueRow.{ValueRow}
use Rattle.syntax_trees.specs.declared.query.Values.{Values as ValuesTree, roll-Values}
use Rattle.bind_kinds.specs.declared.kind.Kind.{Kind}
use Rattle.bind_sight.specs.Sight.{Seen}
use Rattle.bind_queries.specs.Judges.{Expression, JudgedItem, JudgedLink, JudgedRow, QueryJudge}
use Rattle.bind_queries.specs.Judges.{FromJudge, RefJudge}
use Rattle.bind_queries.specs.Queries.{expr_step, from_step, query_step, item_step, ref_step}
use Rattle.bind_queries.specs.Queries.{row_step, link_step, select_step, values_step, expression}
use Rattle.bind_queries.specs.Queries.{from_judge, query_judge, select_item, ref_judge, value_row}
use Rattle.bind_queries.specs.Queries.{judged_link, select_judge, values_judge, maybe}
use Rattle.bind_queries.specs.Written.{Expr, Exprs, Links, Literal, Name, Call, Operation}
use Rattle.bind_queries.specs.Written.{Aggregate, Chain, Subquery, Exists, InQuery, NoExpr}
use Rattle.bind_queries.specs.Written.{MoreExprs, NoLink, MoreLinks, Perhaps, Nothing, Just, Item}
use Rattle.bind_queries.specs.Written.{All, Value, Items, NoItem, MoreItems, Rows, NoRow, MoreRows}
use Rattle.bind_queries.specs.Written.{Query, SelectOf, ValuesOf, Froms, NoFrom, MoreFroms, From}
use Rattle.bind_queries.specs.Written.{Comma, Cross, Inner, Left, Ref, Table, Derived, expr_of}
use Rattle.bind_queries.specs.Written.{exprs_of, links_of, perhaps_of, item_of, items_of, rows_of}
use Rattle.bind_queries.specs.Written.{query_of, froms_of, from_of, ref_of}

abbrev mutual
  pub plain : Expr → Expression
  plain (Literal at l) = expr_step (Expr-F.Literal at l)
  plain (Name c) = expr_step (Expr-F.Name c)
  plain (Call i es) = expr_step (Expr-F.Call i (plains es))
  plain (Operation at operation es) = expr_step (Expr-F.Operation at operation (plains es))
  plain (Aggregate at kind es) = expr_step (Expr-F.Aggregate at kind (plains es))
  plain (Chain e ls) = expr_step (Expr-F.Chain (plain e) (plain_links ls))
  plain (Subquery q) = expr_step (Expr-F.Subquery (plain_query q))
  plain (Exists at q) = expr_step (Expr-F.Exists at (plain_query q))
  plain (InQuery at negated e q) = expr_step (Expr-F.InQuery at negated (plain e) (plain_query q))

  pub plains : Exprs → List Expression
  plains NoExpr = []
  plains (MoreExprs e es) = plain e ∷ plains es

  pub plain_links : Links → List JudgedLink
  plain_links NoLink = []
  plain_links (MoreLinks operator at e ls) = record {
    operator = operator;
    anchor = at;
    operand =
        plain e;
  } ∷ plain_links ls

  pub plain_perhaps : Perhaps → Option Expression
  plain_perhaps Nothing = None
  plain_perhaps (Just e) = Some (plain e)

  pub plain_item : Item → JudgedItem
  plain_item (All at) = item_step (SelectItem-F.All at)
  plain_item (Value e alias) = item_step (SelectItem-F.Value (plain e) alias)

  pub plain_items : Items → List JudgedItem
  plain_items NoItem = []
  plain_items (MoreItems i is) = plain_item i ∷ plain_items is

  pub plain_rows : Rows → List JudgedRow
  plain_rows NoRow = []
  plain_rows (MoreRows es rs) = plains es ∷ plain_rows rs

  pub plain_query : Query → QueryJudge
  plain_query (SelectOf at is fs filter columns having) =
      select_step (record {
        anchor = at;
        items = plain_items is;
        from = plain_froms fs;
        filter =
            plain_perhaps filter;
        group_by = columns;
        having = plain_perhaps having;
      })
  plain_query (ValuesOf at rows) = values_step (record { anchor = at; rows = plain_rows rows })

  pub plain_froms : Froms → List FromJudge
  plain_froms NoFrom = []
  plain_froms (MoreFroms f fs) = plain_from f ∷ plain_froms fs

  pub plain_from : From → FromJudge
  plain_from (Comma r) = from_step (FromItem-F.Comma (plain_ref r))
  plain_from (Cross r) = from_step (FromItem-F.Cross (plain_ref r))
  plain_from (Inner r e) = from_step (FromItem-F.Inner (plain_ref r) (plain e))
  plain_from (Left r e) = from_step (FromItem-F.Left (plain_ref r) (plain e))

  pub plain_ref : Ref → RefJudge
  plain_ref (Table i alias) = ref_step (TableRef-F.Table i alias)
  plain_ref (Derived q i names) = ref_step (TableRef-F.Derived (plain_query q) i names)

-- ---- a SELECT of the same parts

abbrev made : Anchor → List JudgedItem → List FromJudge → Option Expression → List ColumnName →
    Option Expression → QueryJudge
made at items from filter columns having = select_step
    (record {
      anchor = at;
      items = items;
      from = from;
      filter = filter;
      group_by = columns;
      having =
          having;
    })

select_same : (at : Anchor) (items : List SelectItem) (js : List JudgedItem) (from : List FromItem)
    (fs : List FromJudge) (filter : Option Tree) (f : Option Expression) (columns : List ColumnName)
    (having : Option Tree) (h : Option Expression)
    → map select_item items ≡ js → map from_judge from ≡ fs → maybe filter ≡ f → maybe having ≡ h
    → select_step (map-Select Tree FromItem QueryTree SelectItem TableRef ValueRow Link SelectTree
    ValuesTree Expression FromJudge QueryJudge JudgedItem RefJudge JudgedRow JudgedLink
    QueryJudge QueryJudge expression from_judge query_judge select_item ref_judge value_row
    judged_link select_judge values_judge
    (record {
      anchor = at;
      items = items;
      from = from;
      filter = filter;
      group_by = columns;
      having = having;
    }))
    ≡ made at js fs f columns h
select_same at items js from fs None f columns None h p q r w =
    λ i. made at (p i) (q i) (r i) columns (w i)
select_same at items js from fs None f columns (Some x) h p q r w =
    λ i. made at (p i) (q i) (r i) columns (w i)
select_same at items js from fs (Some y) f columns None h p q r w =
    λ i. made at (p i) (q i) (r i) columns (w i)
select_same at items js from fs (Some y) f columns (Some x) h p q r w =
    λ i. made at (p i) (q i) (r i) columns (w i)

mutual
  pub expr_plain : (e : Expr) → expression (expr_of e) ≡ plain e
  expr_plain (Literal at l) = fold-roll-Expr Expression FromJudge QueryJudge JudgedItem RefJudge
      JudgedRow JudgedLink QueryJudge QueryJudge expr_step from_step query_step item_step ref_step
      row_step link_step select_step values_step (Expr-F.Literal at l)
  expr_plain (Name c) = fold-roll-Expr Expression FromJudge QueryJudge JudgedItem RefJudge JudgedRow
      JudgedLink QueryJudge QueryJudge expr_step from_step query_step item_step ref_step row_step
      link_step select_step values_step (Expr-F.Name c)
  expr_plain (Call i es) = fold-roll-Expr Expression FromJudge QueryJudge JudgedItem RefJudge
      JudgedRow JudgedLink QueryJudge QueryJudge expr_step from_step query_step item_step ref_step
      row_step link_step select_step values_step (Expr-F.Call i (exprs_of es)) ∙
      ap (λ z. expr_step (Expr-F.Call i z)) (exprs_plain es)
  expr_plain (Operation at operation es) =
      fold-roll-Expr Expression FromJudge QueryJudge JudgedItem RefJudge JudgedRow JudgedLink
      QueryJudge QueryJudge expr_step from_step query_step item_step ref_step row_step link_step
      select_step values_step (Expr-F.Operation at operation (exprs_of es)) ∙
      ap (λ z. expr_step (Expr-F.Operation at operation z)) (exprs_plain es)
  expr_plain (Aggregate at kind es) =
      fold-roll-Expr Expression FromJudge QueryJudge JudgedItem RefJudge JudgedRow JudgedLink
      QueryJudge QueryJudge expr_step from_step query_step item_step ref_step row_step link_step
      select_step values_step (Expr-F.Aggregate at kind (exprs_of es)) ∙
      ap (λ z. expr_step (Expr-F.Aggregate at kind z)) (exprs_plain es)
  expr_plain (Chain e ls) =
      fold-roll-Expr Expression FromJudge QueryJudge JudgedItem RefJudge JudgedRow JudgedLink
      QueryJudge QueryJudge expr_step from_step query_step item_step ref_step row_step link_step
      select_step values_step (Expr-F.Chain (expr_of e) (links_of ls))
      ∙ ap₂ (λ (j : Expression) (js : List JudgedLink). expr_step (Expr-F.Chain j js))
      (expr_plain e) (links_plain ls)
  expr_plain (Subquery q) = fold-roll-Expr Expression FromJudge QueryJudge JudgedItem RefJudge
      JudgedRow JudgedLink QueryJudge QueryJudge expr_step from_step query_step item_step ref_step
      row_step link_step select_step values_step (Expr-F.Subquery (query_of q)) ∙
      ap (λ z. expr_step (Expr-F.Subquery z)) (query_same q)
  expr_plain (Exists at q) = fold-roll-Expr Expression FromJudge QueryJudge JudgedItem RefJudge
      JudgedRow JudgedLink QueryJudge QueryJudge expr_step from_step query_step item_step ref_step
      row_step link_step select_step values_step (Expr-F.Exists at (query_of q)) ∙
      ap (λ z. expr_step (Expr-F.Exists at z)) (query_same q)
  expr_plain (InQuery at negated e q) =
      fold-roll-Expr Expression FromJudge QueryJudge JudgedItem RefJudge JudgedRow JudgedLink
      QueryJudge QueryJudge expr_step from_step query_step item_step ref_step row_step link_step
      select_step values_step (Expr-F.InQuery at negated (expr_of e) (query_of q))
      ∙ ap₂ (λ (j : Expression) (z : QueryJudge). expr_step (Expr-F.InQuery at negated j z))
      (expr_plain e) (query_same q)

  pub exprs_plain : (es : Exprs) → map expression (exprs_of es) ≡ plains es
  exprs_plain NoExpr = refl
  exprs_plain (MoreExprs e es) = ap₂ (λ (j : Expression) (js : List Expression). j ∷ js)
      (expr_plain e) (exprs_plain es)

  links_plain : (ls : Links) → map judged_link (links_of ls) ≡ plain_links ls
  links_plain NoLink = refl
  links_plain (MoreLinks operator at e ls) =
      ap₂ (λ (l : JudgedLink) (more : List JudgedLink). l ∷ more)
      (fold-roll-Link Expression FromJudge QueryJudge JudgedItem RefJudge JudgedRow JudgedLink
      QueryJudge QueryJudge expr_step from_step query_step item_step ref_step row_step link_step
      select_step values_step (record { operator = operator; anchor = at; operand = expr_of e })
      ∙ ap (λ (j : Expression). record { operator = operator; anchor = at; operand = j })
      (expr_plain e)) (links_plain ls)

  perhaps_plain : (m : Perhaps) → maybe (perhaps_of m) ≡ plain_perhaps m
  perhaps_plain Nothing = refl
  perhaps_plain (Just e) = ap (λ j. Some j) (expr_plain e)

  item_plain : (i : Item) → select_item (item_of i) ≡ plain_item i
  item_plain (All at) = fold-roll-SelectItem Expression FromJudge QueryJudge JudgedItem RefJudge
      JudgedRow JudgedLink QueryJudge QueryJudge expr_step from_step query_step item_step ref_step
      row_step link_step select_step values_step (SelectItem-F.All at)
  item_plain (Value e alias) = fold-roll-SelectItem Expression FromJudge QueryJudge JudgedItem
      RefJudge JudgedRow JudgedLink QueryJudge QueryJudge expr_step from_step query_step item_step
      ref_step row_step link_step select_step values_step (SelectItem-F.Value (expr_of e) alias) ∙
      ap (λ z. item_step (SelectItem-F.Value z alias)) (expr_plain e)

  items_plain : (is : Items) → map select_item (items_of is) ≡ plain_items is
  items_plain NoItem = refl
  items_plain (MoreItems i is) = ap₂ (λ (j : JudgedItem) (js : List JudgedItem). j ∷ js)
      (item_plain i) (items_plain is)

  rows_plain : (rs : Rows) → map value_row (rows_of rs) ≡ plain_rows rs
  rows_plain NoRow = refl
  rows_plain (MoreRows es rs) =
      ap₂ (λ (j : JudgedRow) (js : List JudgedRow). j ∷ js)
      (fold-roll-ValueRow Expression FromJudge QueryJudge JudgedItem RefJudge JudgedRow JudgedLink
      QueryJudge QueryJudge expr_step from_step query_step item_step ref_step row_step link_step
      select_step values_step (ValueRow-F.Row (exprs_of es)) ∙ exprs_plain es) (rows_plain rs)

  pub query_same : (q : Query) → query_judge (query_of q) ≡ plain_query q
  query_same (SelectOf at is fs filter columns having) =
      fold-roll-Query Expression FromJudge QueryJudge JudgedItem RefJudge JudgedRow JudgedLink
      QueryJudge QueryJudge expr_step from_step query_step item_step ref_step row_step link_step
      select_step values_step (Query-F.Select
      (roll-Select (record {
        anchor = at;
        items = items_of is;
        from = froms_of fs;
        filter =
            perhaps_of filter;
        group_by = columns;
        having = perhaps_of having;
      })))
      ∙ fold-roll-Select Expression FromJudge QueryJudge JudgedItem RefJudge JudgedRow JudgedLink
      QueryJudge QueryJudge expr_step from_step query_step item_step ref_step row_step link_step
      select_step values_step (record {
        anchor = at;
        items = items_of is;
        from = froms_of fs;
        filter = perhaps_of filter;
        group_by = columns;
        having = perhaps_of having;
      })
      ∙ select_same at (items_of is) (plain_items is) (froms_of fs) (plain_froms fs)
      (perhaps_of filter) (plain_perhaps filter) columns (perhaps_of having)
      (plain_perhaps having)
      (items_plain is) (froms_plain fs) (perhaps_plain filter) (perhaps_plain having)
  query_same (ValuesOf at rs) =
      fold-roll-Query Expression FromJudge QueryJudge JudgedItem RefJudge JudgedRow JudgedLink
      QueryJudge QueryJudge expr_step from_step query_step item_step ref_step row_step link_step
      select_step values_step (Query-F.Values
      (roll-Values (record { anchor = at; rows = rows_of rs })))
      ∙ fold-roll-Values Expression FromJudge QueryJudge JudgedItem RefJudge JudgedRow JudgedLink
      QueryJudge QueryJudge expr_step from_step query_step item_step ref_step row_step link_step
      select_step values_step (record { anchor = at; rows = rows_of rs })
      ∙ ap (λ js. values_step (record { anchor = at; rows = js })) (rows_plain rs)

  froms_plain : (fs : Froms) → map from_judge (froms_of fs) ≡ plain_froms fs
  froms_plain NoFrom = refl
  froms_plain (MoreFroms f fs) = ap₂ (λ (j : FromJudge) (js : List FromJudge). j ∷ js)
      (from_plain f) (froms_plain fs)

  from_plain : (f : From) → from_judge (from_of f) ≡ plain_from f
  from_plain (Comma r) = fold-roll-FromItem Expression FromJudge QueryJudge JudgedItem RefJudge
      JudgedRow JudgedLink QueryJudge QueryJudge expr_step from_step query_step item_step ref_step
      row_step link_step select_step values_step (FromItem-F.Comma (ref_of r)) ∙
      ap (λ z. from_step (FromItem-F.Comma z)) (ref_plain r)
  from_plain (Cross r) = fold-roll-FromItem Expression FromJudge QueryJudge JudgedItem RefJudge
      JudgedRow JudgedLink QueryJudge QueryJudge expr_step from_step query_step item_step ref_step
      row_step link_step select_step values_step (FromItem-F.Cross (ref_of r)) ∙
      ap (λ z. from_step (FromItem-F.Cross z)) (ref_plain r)
  from_plain (Inner r e) =
      fold-roll-FromItem Expression FromJudge QueryJudge JudgedItem RefJudge JudgedRow JudgedLink
      QueryJudge QueryJudge expr_step from_step query_step item_step ref_step row_step link_step
      select_step values_step (FromItem-F.Inner (ref_of r) (expr_of e)) ∙
      ap₂ (λ (z : RefJudge) (j : Expression). from_step (FromItem-F.Inner z j)) (ref_plain r)
      (expr_plain e)
  from_plain (Left r e) =
      fold-roll-FromItem Expression FromJudge QueryJudge JudgedItem RefJudge JudgedRow JudgedLink
      QueryJudge QueryJudge expr_step from_step query_step item_step ref_step row_step link_step
      select_step values_step (FromItem-F.Left (ref_of r) (expr_of e)) ∙
      ap₂ (λ (z : RefJudge) (j : Expression). from_step (FromItem-F.Left z j)) (ref_plain r)
      (expr_plain e)

  ref_plain : (r : Ref) → ref_judge (ref_of r) ≡ plain_ref r
  ref_plain (Table i alias) = fold-roll-TableRef Expression FromJudge QueryJudge JudgedItem RefJudge
      JudgedRow JudgedLink QueryJudge QueryJudge expr_step from_step query_step item_step ref_step
      row_step link_step select_step values_step (TableRef-F.Table i alias)
  ref_plain (Derived q i names) = fold-roll-TableRef Expression FromJudge QueryJudge JudgedItem
      RefJudge JudgedRow JudgedLink QueryJudge QueryJudge expr_step from_step query_step item_step
      ref_step row_step link_step select_step values_step (TableRef-F.Derived (query_of q) i names)
      ∙ ap (λ z. ref_step (TableRef-F.Derived z i names)) (query_same q)

pub query_plain : (q : Query) (targets : List Kind) (outer : Seen) →
    query_judge (query_of q) targets outer ≡ plain_query q targets outer
query_plain q targets outer = ap (λ (j : QueryJudge). j targets outer) (query_same q)
