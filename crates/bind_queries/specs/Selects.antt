-- SELECT over what FROM brings in sight. ISO/IEC 9075-2, 7.13 (group by clause), 7.14 (having
-- clause) and 7.16 (query specification).
use Rattle.std.specs.Prelude.{Bool, List, length, Option, is_some}
use Rattle.std.specs.List.{list_any}
use Rattle.syntax_trees.specs.declared.anchor.Anchor.{Anchor}
use Rattle.syntax_trees.specs.declared.anchor.ColumnName.{ColumnName}
use Rattle.bound_trees.specs.declared.expr.BoundExpr.{BoundExpr}
use Rattle.bind_faults.specs.Faults.{Noted, ◌>>=◌, as_value, both}
use Rattle.bind_kinds.specs.declared.kind.Kind.{Kind}
use Rattle.bind_sight.specs.Sight.{Seen, inside}
use Rattle.bind_parts.specs.declared.from.Opened.{Opened}
use Rattle.bind_parts.specs.declared.aggregates.Parts.{Parts}
use Rattle.bind_parts.specs.declared.list.Outputs.{Outputs}
use Rattle.bind_parts.specs.declared.select.ListClauses.{ListClauses}
use Rattle.bind_parts.specs.declared.select.RowClauses.{RowClauses}
use Rattle.bind_parts.specs.declared.typed.TypedQuery.{TypedQuery}
use Rattle.bind_parts.specs.From.{row_level, list_level}
use Rattle.bind_parts.specs.Grouping.{is_grouped, grouping_of}
use Rattle.bind_parts.specs.Selects.{select_typed}
use Rattle.bind_parts.specs.Typed.{Beside, first_parts}
use Rattle.bind_queries.specs.Judges.{Expression, JudgedItem}
use Rattle.bind_queries.specs.Lists.{listed, judged_filter, judged_having}

-- the condition of WHERE and the grouping columns, over FROM's row
abbrev pub rowed : Option Expression → List ColumnName → Seen → Noted RowClauses
rowed filter group_by seen = both (λ conjuncts g. record { conjuncts = conjuncts; grouping = g })
    (judged_filter filter seen) (grouping_of group_by seen)

-- the conjuncts of WHERE, and after them the grouping columns
abbrev pub with_grouping : List BoundExpr → List ColumnName → Seen → Noted RowClauses
with_grouping conjuncts group_by seen =
    as_value (λ g. record { conjuncts = conjuncts; grouping = g }) (grouping_of group_by seen)

-- the same output columns, with other parts of the group
abbrev pub with_parts : Outputs → Parts → Outputs
with_parts o parts = record { columns = o.columns; heads = o.heads; trees = o.trees; parts = parts }

-- a select list with HAVING, and the parts that HAVING left
abbrev pub with_having : Outputs → Beside (List BoundExpr) → ListClauses
with_having o h = record { outputs = with_parts o h.parts; having = h.value }

-- HAVING, whose aggregates stand after those of the list among the parts
abbrev pub after_list : Option Expression → Seen → Outputs → Noted ListClauses
after_list having seen o = as_value (with_having o) (judged_having having seen o.parts)

-- the list, and then HAVING
abbrev pub list_and_having : List Kind → List JudgedItem → Option Expression → Parts → Seen →
    Noted ListClauses
list_and_having targets items having parts seen =
    listed targets items parts seen >>= after_list having seen

-- the list and HAVING over FROM's row or its groups, and the query that they make with FROM, WHERE
-- and GROUP BY
abbrev pub list_typed : Anchor → List JudgedItem → Option Expression → Bool → List Kind → Seen →
    Opened → RowClauses → Noted TypedQuery
list_typed at items having grouped targets outer so r =
    as_value (select_typed at so.from r.conjuncts grouped (length r.grouping.keys))
    (list_and_having targets items having (first_parts r.grouping.trees)
    (inside (list_level so r.grouping.keys grouped) outer))

-- by an aggregate in the list, GROUP BY or HAVING
abbrev pub grouped : List JudgedItem → List ColumnName → Option Expression → Bool
grouped items group_by having = is_grouped (list_any (λ i. i.aggregates) items) group_by
    (is_some having)

-- WHERE and GROUP BY over FROM's row, then the list and HAVING
abbrev pub selected : Anchor → List JudgedItem → Option Expression → List ColumnName →
    Option Expression → List Kind → Seen → Opened → Noted TypedQuery
selected at items filter group_by having targets outer so =
    rowed filter group_by (inside (row_level so) outer) >>= list_typed at items having
    (grouped items group_by having) targets outer so
