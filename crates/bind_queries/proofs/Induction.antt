-- Each expression and each query without faults uses what was noted, and has a plan: by induction
-- over written trees.
use Rattle.std.proofs.Common.{sym, subst, List, [], ◌∷◌, map, Option, Some, None}
use Rattle.syntax_trees.specs.Columns.{anchor_of_column}
use Rattle.syntax_trees.specs.declared.anchor.Anchor.{Anchor}
use Rattle.syntax_trees.specs.declared.anchor.ColumnName.{ColumnName}
use Rattle.syntax_trees.specs.declared.expr.Expr.{Expr, roll-Expr}
use Rattle.syntax_trees.specs.declared.expr.Expr.TheFolds.{map-Expr, map-FromItem, map-Query}
use Rattle.syntax_trees.specs.declared.expr.Expr.TheFolds.{map-SelectItem, map-TableRef}
use Rattle.syntax_trees.specs.declared.expr.Expr.TheFolds.{map-ValueRow, map-Link, map-Select}
use Rattle.syntax_trees.specs.declared.expr.Expr.TheFolds.{map-Values, fold-roll-Expr}
use Rattle.syntax_trees.specs.declared.expr.Expr.TheFolds.{fold-roll-FromItem, fold-roll-Query}
use Rattle.syntax_trees.specs.declared.expr.Expr.TheFolds.{fold-roll-SelectItem, fold-roll-TableRef}
use Rattle.syntax_trees.specs.declared.expr.Expr.TheFolds.{fold-roll-ValueRow, fold-roll-Link}
use Rattle.syntax_trees.specs.declared.expr.Expr.TheFolds.{fold-roll-Select, fold-roll-Values}
use Rattle.syntax_trees.specs.declared.expr.Expr.TheFolds.{ind-Expr, ind-Query}
use Rattle.syntax_trees.specs.declared.expr.Expr.TheOpen.{Expr-F, FromItem-F, Query-F, SelectItem-F}
use Rattle.syntax_trees.specs.declared.expr.Expr.TheOpen.{TableRef-F, ValueRow-F, Link-F, Select-F}
use Rattle.syntax_trees.specs.declared.expr.Expr.TheOpen.{Values-F}
use Rattle.syntax_trees.specs.declared.expr.Link.{Link, roll-Link}
use Rattle.syntax_trees.specs.declared.query.FromItem.{FromItem, roll-FromItem}
use Rattle.syntax_trees.specs.declared.query.Query.{Query, roll-Query}
use Rattle.syntax_trees.specs.declared.query.SelectItem.{SelectItem, roll-SelectItem}
use Rattle.syntax_trees.specs.declared.query.TableRef.{TableRef, roll-TableRef}
use Rattle.syntax_trees.specs.declared.query.ValueRow.{ValueRow, roll-ValueRow}
use Rattle.syntax_trees.specs.declared.query.Select.{Select, roll-Select}
use Rattle.syntax_trees.specs.declared.query.Values.{Values, roll-Values}
use Rattle.bound_trees.specs.declared.expr.BoundExpr.TheVariants as bound
use Rattle.catalog_store.specs.Planning.{AllPlanned}
use Rattle.bind_kinds.specs.Words.{value_of}
use Rattle.bind_sight.specs.Sight.{stands_for}
use Rattle.bind_parts.specs.From.{nothing_open}
use Rattle.bind_parts.specs.Typed.{named}
use Rattle.bind_parts.specs.Turns.{each_noted}
use Rattle.bind_queries.specs.Judges.{Expression, JudgedItem, JudgedLink, JudgedRow, QueryJudge}
use Rattle.bind_queries.specs.Judges.{FromJudge, RefJudge, operands}
use Rattle.bind_queries.specs.Queries.{expr_step, from_step, query_step, item_step, ref_step}
use Rattle.bind_queries.specs.Queries.{row_step, link_step, select_step, values_step, expression}
use Rattle.bind_queries.specs.Queries.{from_judge, query_judge, select_item, ref_judge, value_row}
use Rattle.bind_queries.specs.Queries.{judged_link, select_judge, values_judge}
use Rattle.bind_queries.specs.Selects.{selected}
use Rattle.bind_queries.proofs.Sets.{front_nil, back_nil}
use Rattle.bind_queries.proofs.Marks.{Known, Covers, grows-nothing, mark}
use Rattle.bind_queries.proofs.Bound.{literal-covers}
use Rattle.bind_queries.proofs.Forms.{Fitting, AllFitting, QueryFits, named-covers, operation-fits}
use Rattle.bind_queries.proofs.Forms.{chain-fits, call-fits, aggregate-fits, single-fits}
use Rattle.bind_queries.proofs.Forms.{exists-fits, member-fits}
use Rattle.bind_queries.proofs.Clauses.{ItemFits, AllItems, MaybeFits, all-fits, value-fits}
use Rattle.bind_queries.proofs.Froms.{RefFits, table-fits, derived-fits, FromFits, AllFrom}
use Rattle.bind_queries.proofs.Froms.{comma-fits, cross-fits, inner-fits, left-fits, opened-fit}
use Rattle.bind_queries.proofs.Froms.{item-marks}
use Rattle.bind_queries.proofs.Wholes.{AllRows, values-fit, selected-fits}

module _ (known : Known) (planned : AllPlanned known.catalog) where
  abbrev ShownExpr : Type 0
  ShownExpr = (x : Expr) × Fitting known planned (expression x).judge

  abbrev ShownFromItem : Type 0
  ShownFromItem = (x : FromItem) × FromFits known planned (from_judge x)

  abbrev ShownQuery : Type 0
  ShownQuery = (x : Query) × QueryFits known planned (query_judge x)

  abbrev ShownSelectItem : Type 0
  ShownSelectItem = (x : SelectItem) × ItemFits known planned (select_item x)

  abbrev ShownTableRef : Type 0
  ShownTableRef = (x : TableRef) × RefFits known planned (ref_judge x)

  abbrev ShownValueRow : Type 0
  ShownValueRow = (x : ValueRow) × AllFitting known planned (value_row x)

  abbrev ShownLink : Type 0
  ShownLink = (x : Link) × Fitting known planned (judged_link x).operand.judge

  abbrev ShownSelect : Type 0
  ShownSelect = (x : Select) × QueryFits known planned (select_judge x)

  abbrev ShownValues : Type 0
  ShownValues = (x : Values) × QueryFits known planned (values_judge x)

  abbrev expr-shown : Expr-F ShownExpr ShownFromItem ShownQuery ShownSelectItem ShownTableRef
      ShownValueRow ShownLink ShownSelect ShownValues →
      Expr-F Expr FromItem Query SelectItem TableRef ValueRow Link Select Values
  expr-shown y = map-Expr ShownExpr ShownFromItem ShownQuery ShownSelectItem ShownTableRef
      ShownValueRow ShownLink ShownSelect ShownValues Expr FromItem Query SelectItem TableRef
      ValueRow Link Select Values (λ x. x.0) (λ x. x.0) (λ x. x.0) (λ x. x.0) (λ x. x.0) (λ x. x.0)
      (λ x. x.0) (λ x. x.0) (λ x. x.0) y

  abbrev from-shown : FromItem-F ShownExpr ShownFromItem ShownQuery ShownSelectItem ShownTableRef
      ShownValueRow ShownLink ShownSelect ShownValues →
      FromItem-F Expr FromItem Query SelectItem TableRef ValueRow Link Select Values
  from-shown y = map-FromItem ShownExpr ShownFromItem ShownQuery ShownSelectItem ShownTableRef
      ShownValueRow ShownLink ShownSelect ShownValues Expr FromItem Query SelectItem TableRef
      ValueRow Link Select Values (λ x. x.0) (λ x. x.0) (λ x. x.0) (λ x. x.0) (λ x. x.0) (λ x. x.0)
      (λ x. x.0) (λ x. x.0) (λ x. x.0) y

  abbrev query-shown : Query-F ShownExpr ShownFromItem ShownQuery ShownSelectItem ShownTableRef
      ShownValueRow ShownLink ShownSelect ShownValues →
      Query-F Expr FromItem Query SelectItem TableRef ValueRow Link Select Values
  query-shown y = map-Query ShownExpr ShownFromItem ShownQuery ShownSelectItem ShownTableRef
      ShownValueRow ShownLink ShownSelect ShownValues Expr FromItem Query SelectItem TableRef
      ValueRow Link Select Values (λ x. x.0) (λ x. x.0) (λ x. x.0) (λ x. x.0) (λ x. x.0) (λ x. x.0)
      (λ x. x.0) (λ x. x.0) (λ x. x.0) y

  abbrev item-shown : SelectItem-F ShownExpr ShownFromItem ShownQuery ShownSelectItem ShownTableRef
      ShownValueRow ShownLink ShownSelect ShownValues →
      SelectItem-F Expr FromItem Query SelectItem TableRef ValueRow Link Select Values
  item-shown y = map-SelectItem ShownExpr ShownFromItem ShownQuery ShownSelectItem ShownTableRef
      ShownValueRow ShownLink ShownSelect ShownValues Expr FromItem Query SelectItem TableRef
      ValueRow Link Select Values (λ x. x.0) (λ x. x.0) (λ x. x.0) (λ x. x.0) (λ x. x.0) (λ x. x.0)
      (λ x. x.0) (λ x. x.0) (λ x. x.0) y

  abbrev ref-shown : TableRef-F ShownExpr ShownFromItem ShownQuery ShownSelectItem ShownTableRef
      ShownValueRow ShownLink ShownSelect ShownValues →
      TableRef-F Expr FromItem Query SelectItem TableRef ValueRow Link Select Values
  ref-shown y = map-TableRef ShownExpr ShownFromItem ShownQuery ShownSelectItem ShownTableRef
      ShownValueRow ShownLink ShownSelect ShownValues Expr FromItem Query SelectItem TableRef
      ValueRow Link Select Values (λ x. x.0) (λ x. x.0) (λ x. x.0) (λ x. x.0) (λ x. x.0) (λ x. x.0)
      (λ x. x.0) (λ x. x.0) (λ x. x.0) y

  abbrev row-shown : ValueRow-F ShownExpr ShownFromItem ShownQuery ShownSelectItem ShownTableRef
      ShownValueRow ShownLink ShownSelect ShownValues →
      ValueRow-F Expr FromItem Query SelectItem TableRef ValueRow Link Select Values
  row-shown y = map-ValueRow ShownExpr ShownFromItem ShownQuery ShownSelectItem ShownTableRef
      ShownValueRow ShownLink ShownSelect ShownValues Expr FromItem Query SelectItem TableRef
      ValueRow Link Select Values (λ x. x.0) (λ x. x.0) (λ x. x.0) (λ x. x.0) (λ x. x.0) (λ x. x.0)
      (λ x. x.0) (λ x. x.0) (λ x. x.0) y

  abbrev link-shown : Link-F ShownExpr ShownFromItem ShownQuery ShownSelectItem ShownTableRef
      ShownValueRow ShownLink ShownSelect ShownValues →
      Link-F Expr FromItem Query SelectItem TableRef ValueRow Link Select Values
  link-shown y = map-Link ShownExpr ShownFromItem ShownQuery ShownSelectItem ShownTableRef
      ShownValueRow ShownLink ShownSelect ShownValues Expr FromItem Query SelectItem TableRef
      ValueRow Link Select Values (λ x. x.0) (λ x. x.0) (λ x. x.0) (λ x. x.0) (λ x. x.0) (λ x. x.0)
      (λ x. x.0) (λ x. x.0) (λ x. x.0) y

  abbrev select-shown : Select-F ShownExpr ShownFromItem ShownQuery ShownSelectItem ShownTableRef
      ShownValueRow ShownLink ShownSelect ShownValues →
      Select-F Expr FromItem Query SelectItem TableRef ValueRow Link Select Values
  select-shown y = map-Select ShownExpr ShownFromItem ShownQuery ShownSelectItem ShownTableRef
      ShownValueRow ShownLink ShownSelect ShownValues Expr FromItem Query SelectItem TableRef
      ValueRow Link Select Values (λ x. x.0) (λ x. x.0) (λ x. x.0) (λ x. x.0) (λ x. x.0) (λ x. x.0)
      (λ x. x.0) (λ x. x.0) (λ x. x.0) y

  abbrev values-shown : Values-F ShownExpr ShownFromItem ShownQuery ShownSelectItem ShownTableRef
      ShownValueRow ShownLink ShownSelect ShownValues →
      Values-F Expr FromItem Query SelectItem TableRef ValueRow Link Select Values
  values-shown y = map-Values ShownExpr ShownFromItem ShownQuery ShownSelectItem ShownTableRef
      ShownValueRow ShownLink ShownSelect ShownValues Expr FromItem Query SelectItem TableRef
      ValueRow Link Select Values (λ x. x.0) (λ x. x.0) (λ x. x.0) (λ x. x.0) (λ x. x.0) (λ x. x.0)
      (λ x. x.0) (λ x. x.0) (λ x. x.0) y

  -- ---- lists

  all-shown : (es : List ShownExpr) → AllFitting known planned (map expression (map (λ x. x.0) es))
  all-shown [] = tt
  all-shown (e ∷ es) = (e.1, all-shown es)

  links-shown : (ls : List ShownLink) → AllFitting known planned
      (operands (map judged_link (map (λ x. x.0) ls)))
  links-shown [] = tt
  links-shown (l ∷ ls) = (l.1, links-shown ls)

  items-shown : (is : List ShownSelectItem) →
      AllItems known planned (map select_item (map (λ x. x.0) is))
  items-shown [] = tt
  items-shown (i ∷ is) = (i.1, items-shown is)

  rows-shown : (rs : List ShownValueRow) → AllRows known planned (map value_row (map (λ x. x.0) rs))
  rows-shown [] = tt
  rows-shown (r ∷ rs) = (r.1, rows-shown rs)

  from-all-shown : (fs : List ShownFromItem) →
      AllFrom known planned (map from_judge (map (λ x. x.0) fs))
  from-all-shown [] = tt
  from-all-shown (f ∷ fs) = (f.1, from-all-shown fs)

  -- ---- layers

  expr-layer : (y : Expr-F ShownExpr ShownFromItem ShownQuery ShownSelectItem ShownTableRef
      ShownValueRow ShownLink ShownSelect ShownValues) →
      Fitting known planned
      (expr_step (map-Expr Expr FromItem Query SelectItem TableRef ValueRow Link Select Values
      Expression FromJudge QueryJudge JudgedItem RefJudge JudgedRow JudgedLink QueryJudge QueryJudge
      expression from_judge query_judge select_item ref_judge value_row judged_link select_judge
      values_judge (expr-shown y))).judge
  expr-layer (Expr-F.Literal at l) s p is e =
      grows-nothing known s p [] (mark known (bound.Literal (value_of l)))
      (literal-covers known (value_of l))
  expr-layer (Expr-F.Name c) s p is e =
      let t = named (anchor_of_column c) (stands_for c s) in
      grows-nothing known s p t.uses (mark known t.value.tree)
      (named-covers known planned (anchor_of_column c) (stands_for c s) e)
  expr-layer (Expr-F.Call i es) s p is e = call-fits known planned i
      (map expression (map (λ x. x.0) es)) (all-shown es) s p is e
  expr-layer (Expr-F.Operation at operation es) s p is e = operation-fits known planned at operation
      (map expression (map (λ x. x.0) es)) (all-shown es) s p is e
  expr-layer (Expr-F.Aggregate at kind es) s p is e =
      aggregate-fits known planned at kind (map expression (map (λ x. x.0) es)) (all-shown es) s p
      is e
  expr-layer (Expr-F.Chain first links) s p is e =
      chain-fits known planned (expression first.0) (map judged_link (map (λ x. x.0) links)) first.1
      (links-shown links) s p is e
  expr-layer (Expr-F.Subquery q) s p is e = single-fits known planned (query_judge q.0) q.1 s p is e
  expr-layer (Expr-F.Exists at q) s p is e = exists-fits known planned at (query_judge q.0) q.1 s p
      is e
  expr-layer (Expr-F.InQuery at negated left q) s p is e =
      member-fits known planned at negated (expression left.0) (query_judge q.0) left.1 q.1 s p is e

  from-layer : (y : FromItem-F ShownExpr ShownFromItem ShownQuery ShownSelectItem ShownTableRef
      ShownValueRow ShownLink ShownSelect ShownValues) →
      FromFits known planned
      (from_step (map-FromItem Expr FromItem Query SelectItem TableRef ValueRow Link Select Values
      Expression FromJudge QueryJudge JudgedItem RefJudge JudgedRow JudgedLink QueryJudge QueryJudge
      expression from_judge query_judge select_item ref_judge value_row judged_link select_judge
      values_judge (from-shown y)))
  from-layer (FromItem-F.Comma r) s so is e = comma-fits known planned (ref_judge r.0) r.1 s so is e
  from-layer (FromItem-F.Cross r) s so is e = cross-fits known planned (ref_judge r.0) r.1 s so is e
  from-layer (FromItem-F.Inner r on) s so is e =
      inner-fits known planned (ref_judge r.0) (expression on.0).judge r.1 on.1 s so is e
  from-layer (FromItem-F.Left r on) s so is e =
      left-fits known planned (ref_judge r.0) (expression on.0).judge r.1 on.1 s so is e

  query-layer : (y : Query-F ShownExpr ShownFromItem ShownQuery ShownSelectItem ShownTableRef
      ShownValueRow ShownLink ShownSelect ShownValues) →
      QueryFits known planned
      (query_step (map-Query Expr FromItem Query SelectItem TableRef ValueRow Link Select Values
      Expression FromJudge QueryJudge JudgedItem RefJudge JudgedRow JudgedLink QueryJudge QueryJudge
      expression from_judge query_judge select_item ref_judge value_row judged_link select_judge
      values_judge (query-shown y)))
  query-layer (Query-F.Select select) targets s is e = select.1 targets s is e
  query-layer (Query-F.Values values) targets s is e = values.1 targets s is e

  item-layer : (y : SelectItem-F ShownExpr ShownFromItem ShownQuery ShownSelectItem ShownTableRef
      ShownValueRow ShownLink ShownSelect ShownValues) →
      ItemFits known planned
      (item_step (map-SelectItem Expr FromItem Query SelectItem TableRef ValueRow Link Select Values
      Expression FromJudge QueryJudge JudgedItem RefJudge JudgedRow JudgedLink QueryJudge QueryJudge
      expression from_judge query_judge select_item ref_judge value_row judged_link select_judge
      values_judge (item-shown y)))
  item-layer (SelectItem-F.All at) s so is e = all-fits known planned at s so is e
  item-layer (SelectItem-F.Value x alias) s so is e =
      value-fits known planned (expression x.0) alias s so x.1 is e

  ref-layer : (y : TableRef-F ShownExpr ShownFromItem ShownQuery ShownSelectItem ShownTableRef
      ShownValueRow ShownLink ShownSelect ShownValues) →
      RefFits known planned
      (ref_step (map-TableRef Expr FromItem Query SelectItem TableRef ValueRow Link Select Values
      Expression FromJudge QueryJudge JudgedItem RefJudge JudgedRow JudgedLink QueryJudge QueryJudge
      expression from_judge query_judge select_item ref_judge value_row judged_link select_judge
      values_judge (ref-shown y)))
  ref-layer (TableRef-F.Table i alias) s is e = table-fits known planned i alias s is e
  ref-layer (TableRef-F.Derived q i names) s is e =
      derived-fits known planned (query_judge q.0) i names q.1 s is e

  row-layer : (y : ValueRow-F ShownExpr ShownFromItem ShownQuery ShownSelectItem ShownTableRef
      ShownValueRow ShownLink ShownSelect ShownValues) →
      AllFitting known planned
      (row_step (map-ValueRow Expr FromItem Query SelectItem TableRef ValueRow Link Select Values
      Expression FromJudge QueryJudge JudgedItem RefJudge JudgedRow JudgedLink QueryJudge QueryJudge
      expression from_judge query_judge select_item ref_judge value_row judged_link select_judge
      values_judge (row-shown y)))
  row-layer (ValueRow-F.Row es) = all-shown es

  values-layer : (y : Values-F ShownExpr ShownFromItem ShownQuery ShownSelectItem ShownTableRef
      ShownValueRow ShownLink ShownSelect ShownValues) →
      QueryFits known planned
      (values_step (map-Values Expr FromItem Query SelectItem TableRef ValueRow Link Select Values
      Expression FromJudge QueryJudge JudgedItem RefJudge JudgedRow JudgedLink QueryJudge QueryJudge
      expression from_judge query_judge select_item ref_judge value_row judged_link select_judge
      values_judge (values-shown y)))
  values-layer y targets s is e = values-fit known planned y.anchor
      (map value_row (map (λ x. x.0) y.rows)) (rows-shown y.rows) targets s is e

  select-fits : (at : Anchor) (items : List JudgedItem) (from : List FromJudge)
      (filter : Option Expression) (group_by : List ColumnName) (having : Option Expression)
      → AllItems known planned items → AllFrom known planned from → MaybeFits known planned filter →
      MaybeFits known planned having
      → QueryFits known planned
      (select_step (record {
        anchor = at;
        items = items;
        from = from;
        filter = filter;
        group_by = group_by;
        having = having;
      }))
  select-fits at items from filter group_by having fi ff fw fh targets s is e =
      let so = each_noted (λ o (j : FromJudge). j s o) nothing_open from in
      let whole = selected at items filter group_by having targets s so.value in
      let opened = opened-fit known planned from s nothing_open ff is
      (front_nil so.faults whole.faults e) in
      selected-fits known planned at items filter group_by having targets s so.value so.uses fi fw
      fh is
      (subst (λ is. Covers known so.uses (item-marks known planned is)) (sym opened.2) opened.1)
      (back_nil so.faults whole.faults e)

  select-of : (at : Anchor) (items : List ShownSelectItem) (from : List ShownFromItem)
      (filter : Option ShownExpr) (group_by : List ColumnName) (having : Option ShownExpr)
      → QueryFits known planned
      (select_step (map-Select Expr FromItem Query SelectItem TableRef ValueRow Link Select
      Values Expression FromJudge QueryJudge JudgedItem RefJudge JudgedRow JudgedLink QueryJudge
      QueryJudge expression from_judge query_judge select_item ref_judge value_row judged_link
      select_judge values_judge (select-shown
      (record {
        anchor = at;
        items = items;
        from = from;
        filter = filter;
        group_by = group_by;
        having = having;
      }))))
  select-of at items from None group_by None =
      select-fits at (map select_item (map (λ x. x.0) items)) (map from_judge (map (λ x. x.0) from))
      None group_by None (items-shown items) (from-all-shown from) tt tt
  select-of at items from None group_by (Some y) =
      select-fits at (map select_item (map (λ x. x.0) items)) (map from_judge (map (λ x. x.0) from))
      None group_by (Some (expression y.0)) (items-shown items) (from-all-shown from) tt y.1
  select-of at items from (Some x) group_by None =
      select-fits at (map select_item (map (λ x. x.0) items)) (map from_judge (map (λ x. x.0) from))
      (Some (expression x.0)) group_by None (items-shown items) (from-all-shown from) x.1 tt
  select-of at items from (Some x) group_by (Some y) =
      select-fits at (map select_item (map (λ x. x.0) items)) (map from_judge (map (λ x. x.0) from))
      (Some (expression x.0)) group_by (Some (expression y.0)) (items-shown items)
      (from-all-shown from) x.1 y.1

  select-layer : (y : Select-F ShownExpr ShownFromItem ShownQuery ShownSelectItem ShownTableRef
      ShownValueRow ShownLink ShownSelect ShownValues) →
      QueryFits known planned
      (select_step (map-Select Expr FromItem Query SelectItem TableRef ValueRow Link Select Values
      Expression FromJudge QueryJudge JudgedItem RefJudge JudgedRow JudgedLink QueryJudge QueryJudge
      expression from_judge query_judge select_item ref_judge value_row judged_link select_judge
      values_judge (select-shown y)))
  select-layer y = select-of y.anchor y.items y.from y.filter y.group_by y.having

  -- ---- the induction

  pub expr-fits : (x : Expr) → Fitting known planned (expression x).judge
  expr-fits =
      ind-Expr (λ x. Fitting known planned (expression x).judge)
      (λ x. FromFits known planned (from_judge x)) (λ x. QueryFits known planned (query_judge x))
      (λ x. ItemFits known planned (select_item x)) (λ x. RefFits known planned (ref_judge x))
      (λ x. AllFitting known planned (value_row x))
      (λ x. Fitting known planned (judged_link x).operand.judge)
      (λ x. QueryFits known planned (select_judge x))
      (λ x. QueryFits known planned (values_judge x))
      (λ x y is. subst (λ z. Fitting known planned (expression (roll-Expr z)).judge) is
      (subst (λ (j : Expression). Fitting known planned (j).judge)
      (sym (fold-roll-Expr Expression FromJudge QueryJudge JudgedItem RefJudge JudgedRow
      JudgedLink QueryJudge QueryJudge expr_step from_step query_step item_step ref_step
      row_step link_step select_step values_step (expr-shown y))) (expr-layer y)))
      (λ x y is. subst (λ z. FromFits known planned (from_judge (roll-FromItem z))) is
      (subst (λ (j : FromJudge). FromFits known planned (j))
      (sym (fold-roll-FromItem Expression FromJudge QueryJudge JudgedItem RefJudge JudgedRow
      JudgedLink QueryJudge QueryJudge expr_step from_step query_step item_step ref_step
      row_step link_step select_step values_step (from-shown y))) (from-layer y)))
      (λ x y is. subst (λ z. QueryFits known planned (query_judge (roll-Query z))) is
      (subst (λ (j : QueryJudge). QueryFits known planned (j))
      (sym (fold-roll-Query Expression FromJudge QueryJudge JudgedItem RefJudge JudgedRow
      JudgedLink QueryJudge QueryJudge expr_step from_step query_step item_step ref_step
      row_step link_step select_step values_step (query-shown y))) (query-layer y)))
      (λ x y is. subst (λ z. ItemFits known planned (select_item (roll-SelectItem z))) is
      (subst (λ (j : JudgedItem). ItemFits known planned (j))
      (sym (fold-roll-SelectItem Expression FromJudge QueryJudge JudgedItem RefJudge JudgedRow
      JudgedLink QueryJudge QueryJudge expr_step from_step query_step item_step ref_step
      row_step link_step select_step values_step (item-shown y))) (item-layer y)))
      (λ x y is. subst (λ z. RefFits known planned (ref_judge (roll-TableRef z))) is
      (subst (λ (j : RefJudge). RefFits known planned (j))
      (sym (fold-roll-TableRef Expression FromJudge QueryJudge JudgedItem RefJudge JudgedRow
      JudgedLink QueryJudge QueryJudge expr_step from_step query_step item_step ref_step
      row_step link_step select_step values_step (ref-shown y))) (ref-layer y)))
      (λ x y is. subst (λ z. AllFitting known planned (value_row (roll-ValueRow z))) is
      (subst (λ (j : JudgedRow). AllFitting known planned (j))
      (sym (fold-roll-ValueRow Expression FromJudge QueryJudge JudgedItem RefJudge JudgedRow
      JudgedLink QueryJudge QueryJudge expr_step from_step query_step item_step ref_step
      row_step link_step select_step values_step (row-shown y))) (row-layer y)))
      (λ x y is. subst (λ z. Fitting known planned (judged_link (roll-Link z)).operand.judge) is
      (subst (λ (j : JudgedLink). Fitting known planned (j).operand.judge)
      (sym (fold-roll-Link Expression FromJudge QueryJudge JudgedItem RefJudge JudgedRow
      JudgedLink QueryJudge QueryJudge expr_step from_step query_step item_step ref_step
      row_step link_step select_step values_step (link-shown y))) y.operand.1))
      (λ x y is. subst (λ z. QueryFits known planned (select_judge (roll-Select z))) is
      (subst (λ (j : QueryJudge). QueryFits known planned (j))
      (sym (fold-roll-Select Expression FromJudge QueryJudge JudgedItem RefJudge JudgedRow
      JudgedLink QueryJudge QueryJudge expr_step from_step query_step item_step ref_step
      row_step link_step select_step values_step (select-shown y))) (select-layer y)))
      (λ x y is. subst (λ z. QueryFits known planned (values_judge (roll-Values z))) is
      (subst (λ (j : QueryJudge). QueryFits known planned (j))
      (sym (fold-roll-Values Expression FromJudge QueryJudge JudgedItem RefJudge JudgedRow
      JudgedLink QueryJudge QueryJudge expr_step from_step query_step item_step ref_step
      row_step link_step select_step values_step (values-shown y))) (values-layer y)))

  pub query-fits : (x : Query) → QueryFits known planned (query_judge x)
  query-fits =
      ind-Query (λ x. Fitting known planned (expression x).judge)
      (λ x. FromFits known planned (from_judge x)) (λ x. QueryFits known planned (query_judge x))
      (λ x. ItemFits known planned (select_item x)) (λ x. RefFits known planned (ref_judge x))
      (λ x. AllFitting known planned (value_row x))
      (λ x. Fitting known planned (judged_link x).operand.judge)
      (λ x. QueryFits known planned (select_judge x))
      (λ x. QueryFits known planned (values_judge x))
      (λ x y is. subst (λ z. Fitting known planned (expression (roll-Expr z)).judge) is
      (subst (λ (j : Expression). Fitting known planned (j).judge)
      (sym (fold-roll-Expr Expression FromJudge QueryJudge JudgedItem RefJudge JudgedRow
      JudgedLink QueryJudge QueryJudge expr_step from_step query_step item_step ref_step
      row_step link_step select_step values_step (expr-shown y))) (expr-layer y)))
      (λ x y is. subst (λ z. FromFits known planned (from_judge (roll-FromItem z))) is
      (subst (λ (j : FromJudge). FromFits known planned (j))
      (sym (fold-roll-FromItem Expression FromJudge QueryJudge JudgedItem RefJudge JudgedRow
      JudgedLink QueryJudge QueryJudge expr_step from_step query_step item_step ref_step
      row_step link_step select_step values_step (from-shown y))) (from-layer y)))
      (λ x y is. subst (λ z. QueryFits known planned (query_judge (roll-Query z))) is
      (subst (λ (j : QueryJudge). QueryFits known planned (j))
      (sym (fold-roll-Query Expression FromJudge QueryJudge JudgedItem RefJudge JudgedRow
      JudgedLink QueryJudge QueryJudge expr_step from_step query_step item_step ref_step
      row_step link_step select_step values_step (query-shown y))) (query-layer y)))
      (λ x y is. subst (λ z. ItemFits known planned (select_item (roll-SelectItem z))) is
      (subst (λ (j : JudgedItem). ItemFits known planned (j))
      (sym (fold-roll-SelectItem Expression FromJudge QueryJudge JudgedItem RefJudge JudgedRow
      JudgedLink QueryJudge QueryJudge expr_step from_step query_step item_step ref_step
      row_step link_step select_step values_step (item-shown y))) (item-layer y)))
      (λ x y is. subst (λ z. RefFits known planned (ref_judge (roll-TableRef z))) is
      (subst (λ (j : RefJudge). RefFits known planned (j))
      (sym (fold-roll-TableRef Expression FromJudge QueryJudge JudgedItem RefJudge JudgedRow
      JudgedLink QueryJudge QueryJudge expr_step from_step query_step item_step ref_step
      row_step link_step select_step values_step (ref-shown y))) (ref-layer y)))
      (λ x y is. subst (λ z. AllFitting known planned (value_row (roll-ValueRow z))) is
      (subst (λ (j : JudgedRow). AllFitting known planned (j))
      (sym (fold-roll-ValueRow Expression FromJudge QueryJudge JudgedItem RefJudge JudgedRow
      JudgedLink QueryJudge QueryJudge expr_step from_step query_step item_step ref_step
      row_step link_step select_step values_step (row-shown y))) (row-layer y)))
      (λ x y is. subst (λ z. Fitting known planned (judged_link (roll-Link z)).operand.judge) is
      (subst (λ (j : JudgedLink). Fitting known planned (j).operand.judge)
      (sym (fold-roll-Link Expression FromJudge QueryJudge JudgedItem RefJudge JudgedRow
      JudgedLink QueryJudge QueryJudge expr_step from_step query_step item_step ref_step
      row_step link_step select_step values_step (link-shown y))) y.operand.1))
      (λ x y is. subst (λ z. QueryFits known planned (select_judge (roll-Select z))) is
      (subst (λ (j : QueryJudge). QueryFits known planned (j))
      (sym (fold-roll-Select Expression FromJudge QueryJudge JudgedItem RefJudge JudgedRow
      JudgedLink QueryJudge QueryJudge expr_step from_step query_step item_step ref_step
      row_step link_step select_step values_step (select-shown y))) (select-layer y)))
      (λ x y is. subst (λ z. QueryFits known planned (values_judge (roll-Values z))) is
      (subst (λ (j : QueryJudge). QueryFits known planned (j))
      (sym (fold-roll-Values Expression FromJudge QueryJudge JudgedItem RefJudge JudgedRow
      JudgedLink QueryJudge QueryJudge expr_step from_step query_step item_step ref_step
      row_step link_step select_step values_step (values-shown y))) (values-layer y)))
