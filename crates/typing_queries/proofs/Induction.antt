-- What each expression and each query without faults is bound to is well typed: by induction over
-- written trees.
use Rattle.std.proofs.Common.{refl, sym, subst, List, [], ◌∷◌, map, Option, Some, None}
use Rattle.syntax_trees.specs.declared.anchor.Anchor.{Anchor}
use Rattle.syntax_trees.specs.declared.anchor.ColumnName.{ColumnName}
use Rattle.syntax_trees.specs.declared.expr.Expr.{Expr, roll-Expr}
use Rattle.syntax_trees.specs.declared.expr.Expr.TheFolds.{map-Expr, map-FromItem, map-Query}
use Rattle.syntax_trees.specs.declared.expr.Expr.TheFolds.{map-SelectItem, map-TableRef}
use Rattle.syntax_trees.specs.declared.expr.Expr.TheFolds.{map-ValueRow, map-Link, map-Select}
use Rattle.syntax_trees.specs.declared.expr.Expr.TheFolds.{map-Values, fold-roll-Expr}
use Rattle.syntax_trees.specs.declared.expr.Expr.TheFolds.{fold-roll-FromItem, fold-roll-Query}
use Rattle.syntax_trees.specs.declared.expr.Expr.TheFolds.{fold-roll-SelectItem, fold-roll-TableRef}
use Rattle.syntax_trees.specs.declared.expr.Expr.TheFolds.{fold-roll-ValueRow, fold-roll-Link}
use Rattle.syntax_trees.specs.declared.expr.Expr.TheFolds.{fold-roll-Select, fold-roll-Values}
use Rattle.syntax_trees.specs.declared.expr.Expr.TheFolds.{ind-Expr, ind-Query}
use Rattle.syntax_trees.specs.declared.expr.Expr.TheOpen.{Expr-F, FromItem-F, Query-F, SelectItem-F}
use Rattle.syntax_trees.specs.declared.expr.Expr.TheOpen.{TableRef-F, ValueRow-F, Link-F, Select-F}
use Rattle.syntax_trees.specs.declared.expr.Expr.TheOpen.{Values-F}
use Rattle.syntax_trees.specs.declared.expr.Link.{Link, roll-Link}
use Rattle.syntax_trees.specs.declared.query.FromItem.{FromItem, roll-FromItem}
use Rattle.syntax_trees.specs.declared.query.Query.{Query, roll-Query}
use Rattle.syntax_trees.specs.declared.query.SelectItem.{SelectItem, roll-SelectItem}
use Rattle.syntax_trees.specs.declared.query.TableRef.{TableRef, roll-TableRef}
use Rattle.syntax_trees.specs.declared.query.ValueRow.{ValueRow, roll-ValueRow}
use Rattle.syntax_trees.specs.declared.query.Select.{Select, roll-Select}
use Rattle.syntax_trees.specs.declared.query.Values.{Values, roll-Values}
use Rattle.bind_parts.specs.From.{nothing_open}
use Rattle.bind_parts.specs.Turns.{each_noted}
use Rattle.bind_queries.specs.Judges.{Expression, JudgedItem, JudgedLink, JudgedRow, QueryJudge}
use Rattle.bind_queries.specs.Judges.{FromJudge, RefJudge, operands}
use Rattle.bind_queries.specs.Queries.{expr_step, from_step, query_step, item_step, ref_step}
use Rattle.bind_queries.specs.Queries.{row_step, link_step, select_step, values_step, expression}
use Rattle.bind_queries.specs.Queries.{from_judge, query_judge, select_item, ref_judge, value_row}
use Rattle.bind_queries.specs.Queries.{judged_link, select_judge, values_judge}
use Rattle.bind_queries.specs.Selects.{selected}
use Rattle.bind_queries.proofs.Laws.{front_nil, back_nil}
use Rattle.typing_trees.specs.Queries.{nothing_joined}
use Rattle.typing_queries.proofs.Levels.{joined-nothing}
use Rattle.typing_queries.proofs.Forms.{AllFitting, literal-fits, name-fits, operation-fits}
use Rattle.typing_queries.proofs.Forms.{chain-fits, call-fits, aggregate-fits, single-fits}
use Rattle.typing_queries.proofs.Forms.{exists-fits, member-fits}
use Rattle.typing_queries.proofs.Froms.{table-fits, derived-fits, AllFrom, comma-fits, cross-fits}
use Rattle.typing_queries.proofs.Froms.{inner-fits, left-fits, opened-fit}
use Rattle.typing_queries.proofs.Judged.{Fitting, QueryFits, RefFits, FromFits}
use Rattle.typing_queries.proofs.Lists.{ItemFits, AllItems, MaybeFits, all-fits, value-fits}
use Rattle.typing_queries.proofs.Selects.{selected-fits}
use Rattle.typing_queries.proofs.Values.{AllRows, values-fit}

abbrev ShownExpr : Type 0
ShownExpr = (x : Expr) × Fitting (expression x).judge

abbrev ShownFromItem : Type 0
ShownFromItem = (x : FromItem) × FromFits (from_judge x)

abbrev ShownQuery : Type 0
ShownQuery = (x : Query) × QueryFits (query_judge x)

abbrev ShownSelectItem : Type 0
ShownSelectItem = (x : SelectItem) × ItemFits (select_item x)

abbrev ShownTableRef : Type 0
ShownTableRef = (x : TableRef) × RefFits (ref_judge x)

abbrev ShownValueRow : Type 0
ShownValueRow = (x : ValueRow) × AllFitting (value_row x)

abbrev ShownLink : Type 0
ShownLink = (x : Link) × Fitting (judged_link x).operand.judge

abbrev ShownSelect : Type 0
ShownSelect = (x : Select) × QueryFits (select_judge x)

abbrev ShownValues : Type 0
ShownValues = (x : Values) × QueryFits (values_judge x)

abbrev expr-shown : Expr-F ShownExpr ShownFromItem ShownQuery ShownSelectItem ShownTableRef
    ShownValueRow ShownLink ShownSelect ShownValues →
    Expr-F Expr FromItem Query SelectItem TableRef ValueRow Link Select Values
expr-shown y = map-Expr ShownExpr ShownFromItem ShownQuery ShownSelectItem ShownTableRef
    ShownValueRow ShownLink ShownSelect ShownValues Expr FromItem Query SelectItem TableRef ValueRow
    Link Select Values (λ x. x.0) (λ x. x.0) (λ x. x.0) (λ x. x.0) (λ x. x.0) (λ x. x.0) (λ x. x.0)
    (λ x. x.0) (λ x. x.0) y

abbrev from-shown : FromItem-F ShownExpr ShownFromItem ShownQuery ShownSelectItem ShownTableRef
    ShownValueRow ShownLink ShownSelect ShownValues →
    FromItem-F Expr FromItem Query SelectItem TableRef ValueRow Link Select Values
from-shown y = map-FromItem ShownExpr ShownFromItem ShownQuery ShownSelectItem ShownTableRef
    ShownValueRow ShownLink ShownSelect ShownValues Expr FromItem Query SelectItem TableRef ValueRow
    Link Select Values (λ x. x.0) (λ x. x.0) (λ x. x.0) (λ x. x.0) (λ x. x.0) (λ x. x.0) (λ x. x.0)
    (λ x. x.0) (λ x. x.0) y

abbrev query-shown : Query-F ShownExpr ShownFromItem ShownQuery ShownSelectItem ShownTableRef
    ShownValueRow ShownLink ShownSelect ShownValues →
    Query-F Expr FromItem Query SelectItem TableRef ValueRow Link Select Values
query-shown y = map-Query ShownExpr ShownFromItem ShownQuery ShownSelectItem ShownTableRef
    ShownValueRow ShownLink ShownSelect ShownValues Expr FromItem Query SelectItem TableRef ValueRow
    Link Select Values (λ x. x.0) (λ x. x.0) (λ x. x.0) (λ x. x.0) (λ x. x.0) (λ x. x.0) (λ x. x.0)
    (λ x. x.0) (λ x. x.0) y

abbrev item-shown : SelectItem-F ShownExpr ShownFromItem ShownQuery ShownSelectItem ShownTableRef
    ShownValueRow ShownLink ShownSelect ShownValues →
    SelectItem-F Expr FromItem Query SelectItem TableRef ValueRow Link Select Values
item-shown y = map-SelectItem ShownExpr ShownFromItem ShownQuery ShownSelectItem ShownTableRef
    ShownValueRow ShownLink ShownSelect ShownValues Expr FromItem Query SelectItem TableRef ValueRow
    Link Select Values (λ x. x.0) (λ x. x.0) (λ x. x.0) (λ x. x.0) (λ x. x.0) (λ x. x.0) (λ x. x.0)
    (λ x. x.0) (λ x. x.0) y

abbrev ref-shown : TableRef-F ShownExpr ShownFromItem ShownQuery ShownSelectItem ShownTableRef
    ShownValueRow ShownLink ShownSelect ShownValues →
    TableRef-F Expr FromItem Query SelectItem TableRef ValueRow Link Select Values
ref-shown y = map-TableRef ShownExpr ShownFromItem ShownQuery ShownSelectItem ShownTableRef
    ShownValueRow ShownLink ShownSelect ShownValues Expr FromItem Query SelectItem TableRef ValueRow
    Link Select Values (λ x. x.0) (λ x. x.0) (λ x. x.0) (λ x. x.0) (λ x. x.0) (λ x. x.0) (λ x. x.0)
    (λ x. x.0) (λ x. x.0) y

abbrev row-shown : ValueRow-F ShownExpr ShownFromItem ShownQuery ShownSelectItem ShownTableRef
    ShownValueRow ShownLink ShownSelect ShownValues →
    ValueRow-F Expr FromItem Query SelectItem TableRef ValueRow Link Select Values
row-shown y = map-ValueRow ShownExpr ShownFromItem ShownQuery ShownSelectItem ShownTableRef
    ShownValueRow ShownLink ShownSelect ShownValues Expr FromItem Query SelectItem TableRef ValueRow
    Link Select Values (λ x. x.0) (λ x. x.0) (λ x. x.0) (λ x. x.0) (λ x. x.0) (λ x. x.0) (λ x. x.0)
    (λ x. x.0) (λ x. x.0) y

abbrev link-shown : Link-F ShownExpr ShownFromItem ShownQuery ShownSelectItem ShownTableRef
    ShownValueRow ShownLink ShownSelect ShownValues →
    Link-F Expr FromItem Query SelectItem TableRef ValueRow Link Select Values
link-shown y = map-Link ShownExpr ShownFromItem ShownQuery ShownSelectItem ShownTableRef
    ShownValueRow ShownLink ShownSelect ShownValues Expr FromItem Query SelectItem TableRef ValueRow
    Link Select Values (λ x. x.0) (λ x. x.0) (λ x. x.0) (λ x. x.0) (λ x. x.0) (λ x. x.0) (λ x. x.0)
    (λ x. x.0) (λ x. x.0) y

abbrev select-shown : Select-F ShownExpr ShownFromItem ShownQuery ShownSelectItem ShownTableRef
    ShownValueRow ShownLink ShownSelect ShownValues →
    Select-F Expr FromItem Query SelectItem TableRef ValueRow Link Select Values
select-shown y = map-Select ShownExpr ShownFromItem ShownQuery ShownSelectItem ShownTableRef
    ShownValueRow ShownLink ShownSelect ShownValues Expr FromItem Query SelectItem TableRef ValueRow
    Link Select Values (λ x. x.0) (λ x. x.0) (λ x. x.0) (λ x. x.0) (λ x. x.0) (λ x. x.0) (λ x. x.0)
    (λ x. x.0) (λ x. x.0) y

abbrev values-shown : Values-F ShownExpr ShownFromItem ShownQuery ShownSelectItem ShownTableRef
    ShownValueRow ShownLink ShownSelect ShownValues →
    Values-F Expr FromItem Query SelectItem TableRef ValueRow Link Select Values
values-shown y = map-Values ShownExpr ShownFromItem ShownQuery ShownSelectItem ShownTableRef
    ShownValueRow ShownLink ShownSelect ShownValues Expr FromItem Query SelectItem TableRef ValueRow
    Link Select Values (λ x. x.0) (λ x. x.0) (λ x. x.0) (λ x. x.0) (λ x. x.0) (λ x. x.0) (λ x. x.0)
    (λ x. x.0) (λ x. x.0) y

-- ---- lists

all-shown : (es : List ShownExpr) → AllFitting (map expression (map (λ x. x.0) es))
all-shown [] = tt
all-shown (e ∷ es) = (e.1, all-shown es)

links-shown : (ls : List ShownLink) → AllFitting (operands (map judged_link (map (λ x. x.0) ls)))
links-shown [] = tt
links-shown (l ∷ ls) = (l.1, links-shown ls)

items-shown : (is : List ShownSelectItem) → AllItems (map select_item (map (λ x. x.0) is))
items-shown [] = tt
items-shown (i ∷ is) = (i.1, items-shown is)

rows-shown : (rs : List ShownValueRow) → AllRows (map value_row (map (λ x. x.0) rs))
rows-shown [] = tt
rows-shown (r ∷ rs) = (r.1, rows-shown rs)

from-all-shown : (fs : List ShownFromItem) → AllFrom (map from_judge (map (λ x. x.0) fs))
from-all-shown [] = tt
from-all-shown (f ∷ fs) = (f.1, from-all-shown fs)

-- ---- layers

expr-layer : (y : Expr-F ShownExpr ShownFromItem ShownQuery ShownSelectItem ShownTableRef
    ShownValueRow ShownLink ShownSelect ShownValues) →
    Fitting (expr_step (map-Expr Expr FromItem Query SelectItem TableRef ValueRow Link Select Values
    Expression FromJudge QueryJudge JudgedItem RefJudge JudgedRow JudgedLink QueryJudge QueryJudge
    expression from_judge query_judge select_item ref_judge value_row judged_link select_judge
    values_judge (expr-shown y))).judge
expr-layer (Expr-F.Literal at l) s p e inner may = literal-fits at l s p e inner may
expr-layer (Expr-F.Name c) s p e inner may = name-fits c s p e inner may
expr-layer (Expr-F.Call i es) s p e inner may =
    call-fits i (map expression (map (λ x. x.0) es)) (all-shown es) s p e inner may
expr-layer (Expr-F.Operation at operation es) s p e inner may =
    operation-fits at operation (map expression (map (λ x. x.0) es)) (all-shown es) s p e inner may
expr-layer (Expr-F.Aggregate at kind es) s p e inner may =
    aggregate-fits at kind (map expression (map (λ x. x.0) es)) (all-shown es) s p e inner may
expr-layer (Expr-F.Chain first links) s p e inner may =
    chain-fits (expression first.0) (map judged_link (map (λ x. x.0) links)) first.1
    (links-shown links) s p e inner may
expr-layer (Expr-F.Subquery q) s p e inner may = single-fits (query_judge q.0) q.1 s p e inner may
expr-layer (Expr-F.Exists at q) s p e inner may =
    exists-fits at (query_judge q.0) q.1 s p e inner may
expr-layer (Expr-F.InQuery at negated left q) s p e inner may =
    member-fits at negated (expression left.0) (query_judge q.0) left.1 q.1 s p e inner may

from-layer : (y : FromItem-F ShownExpr ShownFromItem ShownQuery ShownSelectItem ShownTableRef
    ShownValueRow ShownLink ShownSelect ShownValues) →
    FromFits (from_step (map-FromItem Expr FromItem Query SelectItem TableRef ValueRow Link Select
    Values Expression FromJudge QueryJudge JudgedItem RefJudge JudgedRow JudgedLink QueryJudge
    QueryJudge expression from_judge query_judge select_item ref_judge value_row judged_link
    select_judge values_judge (from-shown y)))
from-layer (FromItem-F.Comma r) s so e a sees opens =
    comma-fits (ref_judge r.0) r.1 s so e a sees opens
from-layer (FromItem-F.Cross r) s so e a sees opens =
    cross-fits (ref_judge r.0) r.1 s so e a sees opens
from-layer (FromItem-F.Inner r on) s so e a sees opens =
    inner-fits (ref_judge r.0) (expression on.0).judge r.1 on.1 s so e a sees opens
from-layer (FromItem-F.Left r on) s so e a sees opens =
    left-fits (ref_judge r.0) (expression on.0).judge r.1 on.1 s so e a sees opens

query-layer : (y : Query-F ShownExpr ShownFromItem ShownQuery ShownSelectItem ShownTableRef
    ShownValueRow ShownLink ShownSelect ShownValues) →
    QueryFits (query_step (map-Query Expr FromItem Query SelectItem TableRef ValueRow Link Select
    Values Expression FromJudge QueryJudge JudgedItem RefJudge JudgedRow JudgedLink QueryJudge
    QueryJudge expression from_judge query_judge select_item ref_judge value_row judged_link
    select_judge values_judge (query-shown y)))
query-layer (Query-F.Select select) targets s e a sees = select.1 targets s e a sees
query-layer (Query-F.Values values) targets s e a sees = values.1 targets s e a sees

item-layer : (y : SelectItem-F ShownExpr ShownFromItem ShownQuery ShownSelectItem ShownTableRef
    ShownValueRow ShownLink ShownSelect ShownValues) →
    ItemFits (item_step (map-SelectItem Expr FromItem Query SelectItem TableRef ValueRow Link Select
    Values Expression FromJudge QueryJudge JudgedItem RefJudge JudgedRow JudgedLink QueryJudge
    QueryJudge expression from_judge query_judge select_item ref_judge value_row judged_link
    select_judge values_judge (item-shown y)))
item-layer (SelectItem-F.All at) s so e inner may = all-fits at s so e inner
item-layer (SelectItem-F.Value x alias) s so e inner may =
    value-fits (expression x.0) alias s so x.1 e inner may

ref-layer : (y : TableRef-F ShownExpr ShownFromItem ShownQuery ShownSelectItem ShownTableRef
    ShownValueRow ShownLink ShownSelect ShownValues) →
    RefFits (ref_step (map-TableRef Expr FromItem Query SelectItem TableRef ValueRow Link Select
    Values Expression FromJudge QueryJudge JudgedItem RefJudge JudgedRow JudgedLink QueryJudge
    QueryJudge expression from_judge query_judge select_item ref_judge value_row judged_link
    select_judge values_judge (ref-shown y)))
ref-layer (TableRef-F.Table i alias) s e a sees = table-fits i alias s e a sees
ref-layer (TableRef-F.Derived q i names) s e a sees =
    derived-fits (query_judge q.0) i names q.1 s e a sees

row-layer : (y : ValueRow-F ShownExpr ShownFromItem ShownQuery ShownSelectItem ShownTableRef
    ShownValueRow ShownLink ShownSelect ShownValues) →
    AllFitting (row_step (map-ValueRow Expr FromItem Query SelectItem TableRef ValueRow Link Select
    Values Expression FromJudge QueryJudge JudgedItem RefJudge JudgedRow JudgedLink QueryJudge
    QueryJudge expression from_judge query_judge select_item ref_judge value_row judged_link
    select_judge values_judge (row-shown y)))
row-layer (ValueRow-F.Row es) = all-shown es

values-layer : (y : Values-F ShownExpr ShownFromItem ShownQuery ShownSelectItem ShownTableRef
    ShownValueRow ShownLink ShownSelect ShownValues) →
    QueryFits (values_step (map-Values Expr FromItem Query SelectItem TableRef ValueRow Link Select
    Values Expression FromJudge QueryJudge JudgedItem RefJudge JudgedRow JudgedLink QueryJudge
    QueryJudge expression from_judge query_judge select_item ref_judge value_row judged_link
    select_judge values_judge (values-shown y)))
values-layer y targets s e a sees = values-fit y.anchor (map value_row (map (λ x. x.0) y.rows))
    (rows-shown y.rows) targets s e a sees

select-fits : (at : Anchor) (items : List JudgedItem) (from : List FromJudge)
    (filter : Option Expression) (group_by : List ColumnName) (having : Option Expression)
    → AllItems items → AllFrom from → MaybeFits filter → MaybeFits having
    → QueryFits (select_step (record {
      anchor = at;
      items = items;
      from = from;
      filter = filter;
      group_by = group_by;
      having = having;
    }))
select-fits at items from filter group_by having fi ff fw fh targets s e a sees =
    let so = each_noted (λ o (j : FromJudge). j s o) nothing_open from in
    let whole = selected at items filter group_by having targets s so.value in
    selected-fits at items filter group_by having targets s so.value fi fw fh
    (back_nil so.faults whole.faults e) a sees
    (opened-fit from s nothing_open ff (front_nil so.faults whole.faults e) a sees
    (nothing_joined, refl, joined-nothing))

select-of : (at : Anchor) (items : List ShownSelectItem) (from : List ShownFromItem)
    (filter : Option ShownExpr) (group_by : List ColumnName) (having : Option ShownExpr)
    → QueryFits (select_step (map-Select Expr FromItem Query SelectItem TableRef ValueRow Link
    Select Values Expression FromJudge QueryJudge JudgedItem RefJudge JudgedRow JudgedLink
    QueryJudge QueryJudge expression from_judge query_judge select_item ref_judge value_row
    judged_link select_judge values_judge
    (select-shown (record {
      anchor = at;
      items = items;
      from = from;
      filter = filter;
      group_by =
          group_by;
      having = having;
    }))))
select-of at items from None group_by None =
    select-fits at (map select_item (map (λ x. x.0) items)) (map from_judge (map (λ x. x.0) from))
    None group_by None (items-shown items) (from-all-shown from) tt tt
select-of at items from None group_by (Some y) =
    select-fits at (map select_item (map (λ x. x.0) items)) (map from_judge (map (λ x. x.0) from))
    None group_by (Some (expression y.0)) (items-shown items) (from-all-shown from) tt y.1
select-of at items from (Some x) group_by None =
    select-fits at (map select_item (map (λ x. x.0) items)) (map from_judge (map (λ x. x.0) from))
    (Some (expression x.0)) group_by None (items-shown items) (from-all-shown from) x.1 tt
select-of at items from (Some x) group_by (Some y) =
    select-fits at (map select_item (map (λ x. x.0) items)) (map from_judge (map (λ x. x.0) from))
    (Some (expression x.0)) group_by (Some (expression y.0)) (items-shown items)
    (from-all-shown from) x.1 y.1

select-layer : (y : Select-F ShownExpr ShownFromItem ShownQuery ShownSelectItem ShownTableRef
    ShownValueRow ShownLink ShownSelect ShownValues) →
    QueryFits (select_step (map-Select Expr FromItem Query SelectItem TableRef ValueRow Link Select
    Values Expression FromJudge QueryJudge JudgedItem RefJudge JudgedRow JudgedLink QueryJudge
    QueryJudge expression from_judge query_judge select_item ref_judge value_row judged_link
    select_judge values_judge (select-shown y)))
select-layer y = select-of y.anchor y.items y.from y.filter y.group_by y.having

-- ---- the induction

pub expr-fits : (x : Expr) → Fitting (expression x).judge
expr-fits =
    ind-Expr (λ x. Fitting (expression x).judge) (λ x. FromFits (from_judge x))
    (λ x. QueryFits (query_judge x)) (λ x. ItemFits (select_item x)) (λ x. RefFits (ref_judge x))
    (λ x. AllFitting (value_row x)) (λ x. Fitting (judged_link x).operand.judge)
    (λ x. QueryFits (select_judge x)) (λ x. QueryFits (values_judge x))
    (λ x y is. subst (λ z. Fitting (expression (roll-Expr z)).judge) is
    (subst (λ (j : Expression). Fitting (j).judge)
    (sym (fold-roll-Expr Expression FromJudge QueryJudge JudgedItem RefJudge JudgedRow
    JudgedLink QueryJudge QueryJudge expr_step from_step query_step item_step ref_step row_step
    link_step select_step values_step (expr-shown y))) (expr-layer y)))
    (λ x y is. subst (λ z. FromFits (from_judge (roll-FromItem z))) is
    (subst (λ (j : FromJudge). FromFits (j))
    (sym (fold-roll-FromItem Expression FromJudge QueryJudge JudgedItem RefJudge JudgedRow
    JudgedLink QueryJudge QueryJudge expr_step from_step query_step item_step ref_step row_step
    link_step select_step values_step (from-shown y))) (from-layer y)))
    (λ x y is. subst (λ z. QueryFits (query_judge (roll-Query z))) is
    (subst (λ (j : QueryJudge). QueryFits (j))
    (sym (fold-roll-Query Expression FromJudge QueryJudge JudgedItem RefJudge JudgedRow
    JudgedLink QueryJudge QueryJudge expr_step from_step query_step item_step ref_step row_step
    link_step select_step values_step (query-shown y))) (query-layer y)))
    (λ x y is. subst (λ z. ItemFits (select_item (roll-SelectItem z))) is
    (subst (λ (j : JudgedItem). ItemFits (j))
    (sym (fold-roll-SelectItem Expression FromJudge QueryJudge JudgedItem RefJudge JudgedRow
    JudgedLink QueryJudge QueryJudge expr_step from_step query_step item_step ref_step row_step
    link_step select_step values_step (item-shown y))) (item-layer y)))
    (λ x y is. subst (λ z. RefFits (ref_judge (roll-TableRef z))) is
    (subst (λ (j : RefJudge). RefFits (j))
    (sym (fold-roll-TableRef Expression FromJudge QueryJudge JudgedItem RefJudge JudgedRow
    JudgedLink QueryJudge QueryJudge expr_step from_step query_step item_step ref_step row_step
    link_step select_step values_step (ref-shown y))) (ref-layer y)))
    (λ x y is. subst (λ z. AllFitting (value_row (roll-ValueRow z))) is
    (subst (λ (j : JudgedRow). AllFitting (j))
    (sym (fold-roll-ValueRow Expression FromJudge QueryJudge JudgedItem RefJudge JudgedRow
    JudgedLink QueryJudge QueryJudge expr_step from_step query_step item_step ref_step row_step
    link_step select_step values_step (row-shown y))) (row-layer y)))
    (λ x y is. subst (λ z. Fitting (judged_link (roll-Link z)).operand.judge) is
    (subst (λ (j : JudgedLink). Fitting (j).operand.judge)
    (sym (fold-roll-Link Expression FromJudge QueryJudge JudgedItem RefJudge JudgedRow
    JudgedLink QueryJudge QueryJudge expr_step from_step query_step item_step ref_step row_step
    link_step select_step values_step (link-shown y))) y.operand.1))
    (λ x y is. subst (λ z. QueryFits (select_judge (roll-Select z))) is
    (subst (λ (j : QueryJudge). QueryFits (j))
    (sym (fold-roll-Select Expression FromJudge QueryJudge JudgedItem RefJudge JudgedRow
    JudgedLink QueryJudge QueryJudge expr_step from_step query_step item_step ref_step row_step
    link_step select_step values_step (select-shown y))) (select-layer y)))
    (λ x y is. subst (λ z. QueryFits (values_judge (roll-Values z))) is
    (subst (λ (j : QueryJudge). QueryFits (j))
    (sym (fold-roll-Values Expression FromJudge QueryJudge JudgedItem RefJudge JudgedRow
    JudgedLink QueryJudge QueryJudge expr_step from_step query_step item_step ref_step row_step
    link_step select_step values_step (values-shown y))) (values-layer y)))

pub query-fits : (x : Query) → QueryFits (query_judge x)
query-fits =
    ind-Query (λ x. Fitting (expression x).judge) (λ x. FromFits (from_judge x))
    (λ x. QueryFits (query_judge x)) (λ x. ItemFits (select_item x)) (λ x. RefFits (ref_judge x))
    (λ x. AllFitting (value_row x)) (λ x. Fitting (judged_link x).operand.judge)
    (λ x. QueryFits (select_judge x)) (λ x. QueryFits (values_judge x))
    (λ x y is. subst (λ z. Fitting (expression (roll-Expr z)).judge) is
    (subst (λ (j : Expression). Fitting (j).judge)
    (sym (fold-roll-Expr Expression FromJudge QueryJudge JudgedItem RefJudge JudgedRow
    JudgedLink QueryJudge QueryJudge expr_step from_step query_step item_step ref_step row_step
    link_step select_step values_step (expr-shown y))) (expr-layer y)))
    (λ x y is. subst (λ z. FromFits (from_judge (roll-FromItem z))) is
    (subst (λ (j : FromJudge). FromFits (j))
    (sym (fold-roll-FromItem Expression FromJudge QueryJudge JudgedItem RefJudge JudgedRow
    JudgedLink QueryJudge QueryJudge expr_step from_step query_step item_step ref_step row_step
    link_step select_step values_step (from-shown y))) (from-layer y)))
    (λ x y is. subst (λ z. QueryFits (query_judge (roll-Query z))) is
    (subst (λ (j : QueryJudge). QueryFits (j))
    (sym (fold-roll-Query Expression FromJudge QueryJudge JudgedItem RefJudge JudgedRow
    JudgedLink QueryJudge QueryJudge expr_step from_step query_step item_step ref_step row_step
    link_step select_step values_step (query-shown y))) (query-layer y)))
    (λ x y is. subst (λ z. ItemFits (select_item (roll-SelectItem z))) is
    (subst (λ (j : JudgedItem). ItemFits (j))
    (sym (fold-roll-SelectItem Expression FromJudge QueryJudge JudgedItem RefJudge JudgedRow
    JudgedLink QueryJudge QueryJudge expr_step from_step query_step item_step ref_step row_step
    link_step select_step values_step (item-shown y))) (item-layer y)))
    (λ x y is. subst (λ z. RefFits (ref_judge (roll-TableRef z))) is
    (subst (λ (j : RefJudge). RefFits (j))
    (sym (fold-roll-TableRef Expression FromJudge QueryJudge JudgedItem RefJudge JudgedRow
    JudgedLink QueryJudge QueryJudge expr_step from_step query_step item_step ref_step row_step
    link_step select_step values_step (ref-shown y))) (ref-layer y)))
    (λ x y is. subst (λ z. AllFitting (value_row (roll-ValueRow z))) is
    (subst (λ (j : JudgedRow). AllFitting (j))
    (sym (fold-roll-ValueRow Expression FromJudge QueryJudge JudgedItem RefJudge JudgedRow
    JudgedLink QueryJudge QueryJudge expr_step from_step query_step item_step ref_step row_step
    link_step select_step values_step (row-shown y))) (row-layer y)))
    (λ x y is. subst (λ z. Fitting (judged_link (roll-Link z)).operand.judge) is
    (subst (λ (j : JudgedLink). Fitting (j).operand.judge)
    (sym (fold-roll-Link Expression FromJudge QueryJudge JudgedItem RefJudge JudgedRow
    JudgedLink QueryJudge QueryJudge expr_step from_step query_step item_step ref_step row_step
    link_step select_step values_step (link-shown y))) y.operand.1))
    (λ x y is. subst (λ z. QueryFits (select_judge (roll-Select z))) is
    (subst (λ (j : QueryJudge). QueryFits (j))
    (sym (fold-roll-Select Expression FromJudge QueryJudge JudgedItem RefJudge JudgedRow
    JudgedLink QueryJudge QueryJudge expr_step from_step query_step item_step ref_step row_step
    link_step select_step values_step (select-shown y))) (select-layer y)))
    (λ x y is. subst (λ z. QueryFits (values_judge (roll-Values z))) is
    (subst (λ (j : QueryJudge). QueryFits (j))
    (sym (fold-roll-Values Expression FromJudge QueryJudge JudgedItem RefJudge JudgedRow
    JudgedLink QueryJudge QueryJudge expr_step from_step query_step item_step ref_step row_step
    link_step select_step values_step (values-shown y))) (values-layer y)))
