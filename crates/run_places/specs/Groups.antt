-- What a SELECT makes of the rows of its FROM, one by one or in groups. ISO/IEC 9075-2, 7.13 (group
-- by clause), 7.14 (having clause) and 7.16 (query specification).
use Rattle.std.specs.Prelude.{ℕ, List, ◌∷◌, fold, Option}
use Rattle.row_types.specs.Rows.{Row}
use Rattle.rel_algebra.specs.Tree.{Aggregate, Exprs}
use Rattle.rel_algebra.specs.World.{Eval, Frame, ◌>>=◌, give, each_kept, Called}
use Rattle.rel_algebra.specs.Meaning.{carried, record_of}
use Rattle.rel_algebra.specs.Groups.{Group, groups}
use Rattle.rel_algebra.specs.Joins.{places, numbered, group_row}
use Rattle.catalog_store.specs.View.{Grouping}
use Rattle.group_index.specs.declared.finished_group.FinishedGroup.{FinishedGroup}
use Rattle.group_index.specs.Folded.{Folded, with_row}
use Rattle.run_rows.specs.GroupRows.{row_of_ends}

-- one by one: of each row the tests, and where they are true the list
abbrev pub records_by : Called → Exprs → Exprs → List Row → Frame → List Row → Eval (List Row)
records_by self items conjuncts outer f rows = each_kept
    (λ (row : Row). record_of items conjuncts self (row ∷ outer) f) rows

-- of one group its aggregates are finished, and then come HAVING and the list
abbrev pub group_record : Called → List (Aggregate × ℕ) → Exprs → Exprs → List Row → Frame → Group →
    Eval (Option Row)
group_record self ags having list outer f g = do
  row ← carried (group_row ags g)
  record_of list having self (row ∷ outer) f

-- the groups of what was evaluated of each row: its grouping columns, and then the aggregates'
-- arguments
abbrev pub groups_by : Called → ℕ → List Aggregate → Exprs → Exprs → List Row → Frame → List Row →
    Eval (List Row)
groups_by self keys ags having list outer f parts =
    each_kept (group_record self (numbered keys ags) having list outer f)
    (groups (places 0 keys) parts)

-- in groups: the parts of all rows that are kept, and then the groups in turn
abbrev pub grouped_by : Called → Grouping → Exprs → Exprs → List Row → Frame → List Row → Eval
    (List Row)
grouped_by self g conjuncts list outer f rows = do
  parts ← records_by self g.parts conjuncts outer f rows
  groups_by self g.keys g.aggregates g.having list outer f parts

-- ---- of rows that are folded as they come

-- the parts of more rows
abbrev pub parts_folded : Called → Folded → Exprs → Exprs → List Row → Frame → List Row → Eval
    Folded
parts_folded self already parts conjuncts outer f rows = do
  more ← records_by self parts conjuncts outer f rows
  give (fold with_row already more)

-- of a group that is finished what its aggregates give, and then HAVING and the list
abbrev pub end_record : Called → Exprs → Exprs → List Row → Frame → FinishedGroup → Eval
    (Option Row)
end_record self having list outer f g = do
  row ← carried (row_of_ends g.key g.ends)
  record_of list having self (row ∷ outer) f
