-- Statements that store: SET, SELECT INTO, FETCH and GET DIAGNOSTICS, and OPEN and CLOSE. ISO/IEC
-- 9075-4, 14.5 (assignment statement); ISO/IEC 9075-2, 14.4 to 14.7 (open, fetch, close and select
-- statements) and 23.1 (get diagnostics statement).
use Rattle.std.specs.Prelude.{ℕ, ◌==◌, true, not, List, [], ◌++◌, map, length, Option, Some, None}
use Rattle.std.specs.Prelude.{is_some}
use Rattle.std.specs.List.{flat_map}
use Rattle.sql_values.specs.declared.value.Value.TheVariants.{Int}
use Rattle.syntax_trees.specs.declared.anchor.Ident.{Ident}
use Rattle.statement_trees.specs.declared.condition.ConditionItem.{ConditionItem}
use Rattle.statement_trees.specs.declared.condition.ConditionItemName.{ConditionItemName}
use Rattle.statement_trees.specs.declared.condition.ConditionItemName.TheVariants as item_name
use Rattle.statement_trees.specs.declared.condition.ConditionNumber.{ConditionNumber}
use Rattle.statement_trees.specs.declared.condition.ConditionNumber.TheVariants as number
use Rattle.statement_trees.specs.declared.condition.DiagnosticsArea.{DiagnosticsArea}
use Rattle.statement_trees.specs.declared.condition.DiagnosticsArea.TheVariants as area
use Rattle.statement_trees.specs.declared.condition.DiagnosticsInformation.{DiagnosticsInformation}
use Rattle.statement_trees.specs.declared.condition.DiagnosticsInformation.TheVariants as information
use Rattle.statement_trees.specs.declared.condition.GetDiagnostics.{GetDiagnostics}
use Rattle.statement_trees.specs.declared.condition.StatementItem.{StatementItem}
use Rattle.statement_trees.specs.declared.condition.StatementItemName.{StatementItemName}
use Rattle.statement_trees.specs.declared.condition.StatementItemName.TheVariants as area_item
use Rattle.statement_trees.specs.declared.writing.Assignment.{Assignment}
use Rattle.statement_trees.specs.declared.writing.Fetch.{Fetch}
use Rattle.statement_trees.specs.declared.writing.SelectInto.{SelectInto}
use Rattle.bound_trees.specs.declared.condition.BoundArea.{BoundArea}
use Rattle.bound_trees.specs.declared.condition.BoundArea.TheVariants as bound_area
use Rattle.bound_trees.specs.declared.condition.BoundConditionItem.{BoundConditionItem}
use Rattle.bound_trees.specs.declared.condition.BoundConditionItem.TheVariants as condition_item
use Rattle.bound_trees.specs.declared.condition.BoundConditionRead.{BoundConditionRead}
use Rattle.bound_trees.specs.declared.condition.BoundDiagnostics.{BoundDiagnostics}
use Rattle.bound_trees.specs.declared.condition.BoundInformation.{BoundInformation}
use Rattle.bound_trees.specs.declared.condition.BoundInformation.TheVariants as bound_information
use Rattle.bound_trees.specs.declared.condition.BoundStatementItem.{BoundStatementItem}
use Rattle.bound_trees.specs.declared.condition.BoundStatementItem.TheVariants as statement_item
use Rattle.bound_trees.specs.declared.condition.BoundStatementRead.{BoundStatementRead}
use Rattle.bound_trees.specs.declared.expr.BoundExpr.{BoundExpr}
use Rattle.bound_trees.specs.declared.expr.BoundExpr.TheVariants as expr
use Rattle.bound_trees.specs.declared.statement.BoundTarget.{BoundTarget}
use Rattle.bind_faults.specs.declared.fault.Fault.{Fault}
use Rattle.bind_faults.specs.declared.fault.FaultKind.TheVariants.{UnknownName, WrongCount}
use Rattle.bind_faults.specs.Faults.{Noted, ◌>>◌, as_value, fault_if}
use Rattle.bind_kinds.specs.declared.kind.Kind.{Kind}
use Rattle.bind_kinds.specs.declared.kind.Kind.TheVariants.{Integer, Text}
use Rattle.bind_kinds.specs.Kinds.{head_of, misfit, in_turn}
use Rattle.bind_sight.specs.declared.scope.Cursor.{Cursor}
use Rattle.bind_sight.specs.declared.scope.Variable.{Variable}
use Rattle.bind_sight.specs.Scopes.{variable_named, cursor_named}
use Rattle.bind_parts.specs.declared.typed.TypedQuery.{TypedQuery}
use Rattle.bind_queries.specs.Judges.{QueryJudge}
use Rattle.bind_queries.specs.Queries.{select_item, judge_parts, maybe}
use Rattle.bind_changes.specs.Writing.{asked}
use Rattle.bind_simple.specs.declared.storing.SelectedInto.{SelectedInto}
use Rattle.bind_simple.specs.declared.storing.Assigned.{Assigned}
use Rattle.bind_simple.specs.declared.target.Stored.{Stored}
use Rattle.bind_simple.specs.Places.{Surroundings, seen_from}
use Rattle.bind_simple.specs.Values.{value_of_kind, stored_at, faults_at, targets_at}
use Rattle.bind_simple.specs.Values.{targets_faults, targets_of, kinds_of, head_at, heads_at}

-- ---- SET

-- the bound SET
abbrev pub assigned_to : Stored → BoundExpr → Assigned
assigned_to t e = record { target = t.target; value = e }

-- SET: its value is of the kind of its target
abbrev pub judged_set : Assignment → Surroundings → Noted Assigned
judged_set a p =
    faults_at a.target p >> as_value (assigned_to (stored_at a.target p))
    (value_of_kind (stored_at a.target p).kind a.value p)

-- ---- SELECT INTO

-- as many columns as targets
abbrev pub into_faults : List Stored → TypedQuery → List Fault
into_faults ts q = fault_if (not (length q.columns == length ts)) WrongCount q.at

-- the bound SELECT INTO
abbrev pub selected_into : List Stored → TypedQuery → SelectedInto
selected_into ts q = record { query = q.tree; targets = targets_of ts }

-- each column is of the kind of its target
abbrev pub judge_selection : SelectInto → QueryJudge
judge_selection s = judge_parts s.anchor (map select_item s.items) s.from
    (maybe s.filter) s.group_by (maybe s.having)

-- SELECT INTO for targets that are resolved
abbrev pub selected_for : SelectInto → List Stored → Surroundings → Noted SelectedInto
selected_for s ts p = asked (selected_into ts) (into_faults ts)
    (judge_selection s (kinds_of ts) (seen_from p))

-- SELECT INTO: its targets, then its query
abbrev pub judged_select_into : SelectInto → Surroundings → Noted SelectedInto
judged_select_into s p = targets_faults s.targets p >> selected_for s (targets_at s.targets p) p

-- ---- cursors

-- a cursor of the name is in sight
abbrev pub cursor_faults : Ident → Option (ℕ × Cursor) → List Fault
cursor_faults i found = fault_if (not (is_some found)) UnknownName i.anchor

-- the slot of a cursor; 0 where none is found
abbrev pub cursor_slot : Option (ℕ × Cursor) → ℕ
cursor_slot None = 0
cursor_slot (Some c) = c.0

-- the cursor of a name in sight
abbrev pub cursor_at : Ident → Surroundings → Option (ℕ × Cursor)
cursor_at i p = cursor_named i.name p.scopes

-- a cursor has as many columns as there are targets, and each is of the kind of its target, at
-- which it is shown
abbrev pub fetch_faults : Ident → Option (ℕ × Cursor) → List Stored → List Fault
fetch_faults i None ts = []
fetch_faults i (Some c) ts = fault_if (not (length c.1.kinds == length ts)) WrongCount i.anchor ++
    in_turn c.1.kinds (heads_at ts)

-- the targets of FETCH
abbrev pub fetched_targets : Fetch → Surroundings → List BoundTarget
fetched_targets s p = targets_of (targets_at s.targets p)

-- the cursor is in sight, the targets may be stored into, and the columns fit them
abbrev pub fetched_faults : Fetch → Surroundings → List Fault
fetched_faults s p =
    cursor_faults s.cursor (cursor_at s.cursor p)
    ++ (targets_faults s.targets p ++ fetch_faults s.cursor (cursor_at s.cursor p)
    (targets_at s.targets p))

-- ---- GET DIAGNOSTICS

-- which diagnostics area is read
abbrev pub area_of : DiagnosticsArea → BoundArea
area_of area.Current = bound_area.Current
area_of area.Stacked = bound_area.Stacked

-- what is read of a statement's diagnostics
abbrev pub statement_item_of : StatementItemName → BoundStatementItem
statement_item_of area_item.Number = statement_item.Number
statement_item_of area_item.RowCount = statement_item.RowCount

-- what is read of a condition
abbrev pub condition_item_of : ConditionItemName → BoundConditionItem
condition_item_of item_name.ReturnedSqlstate = condition_item.ReturnedSqlstate
condition_item_of item_name.MessageText = condition_item.MessageText

-- a target of the kind of what is read, at which it is shown
abbrev pub read_faults : Kind → Ident → Surroundings → List Fault
read_faults kind i p = faults_at i p ++ misfit kind (head_at (stored_at i p))

-- an item of the statement's, with its target
abbrev pub statement_read : Surroundings → StatementItem → BoundStatementRead
statement_read p s = record {
  item = statement_item_of s.item;
  target =
      (stored_at s.target p).target;
}

-- an item of a condition's, with its target
abbrev pub condition_read : Surroundings → ConditionItem → BoundConditionRead
condition_read p s = record {
  item = condition_item_of s.item;
  target =
      (stored_at s.target p).target;
}

-- the number of a condition that a variable has
abbrev pub number_faults : Ident → Option (ℕ × Variable) → List Fault
number_faults i None = fault_if true UnknownName i.anchor
number_faults i (Some v) = misfit Integer (head_of v.1.kind i.anchor)

-- the slot of a variable; 0 where none is found
abbrev pub slot_in : Option (ℕ × Variable) → ℕ
slot_in None = 0
slot_in (Some v) = v.0

-- the number of a condition: a literal, or a variable
abbrev pub number_of : ConditionNumber → Surroundings → BoundExpr
number_of (number.Number at n) p = expr.Literal (Int n)
number_of (number.Variable i) p = expr.Variable (slot_in (variable_named i.name p.scopes))

-- a variable there is in sight and of kind Integer
abbrev pub faults_of_number : ConditionNumber → Surroundings → List Fault
faults_of_number (number.Number at n) p = []
faults_of_number (number.Variable i) p = number_faults i (variable_named i.name p.scopes)

-- what is asked of the targets of a statement's items, which are numbers
abbrev pub statement_faults : List StatementItem → Surroundings → List Fault
statement_faults is p = flat_map (λ s. read_faults Integer s.target p) is

-- what is asked of the targets of a condition's items, which are texts
abbrev pub condition_faults : List ConditionItem → Surroundings → List Fault
condition_faults is p = flat_map (λ s. read_faults Text s.target p) is

-- what GET DIAGNOSTICS reads, with its targets
abbrev pub information_of : DiagnosticsInformation → Surroundings → BoundInformation
information_of (information.Statement is) p =
    bound_information.Statement (map (statement_read p) is)
information_of (information.Condition n is) p =
    bound_information.Condition (number_of n p) (map (condition_read p) is)

-- what is asked of the number and the targets
abbrev pub information_faults : DiagnosticsInformation → Surroundings → List Fault
information_faults (information.Statement is) p = statement_faults is p
information_faults (information.Condition n is) p = faults_of_number n p ++ condition_faults is p

-- the bound GET DIAGNOSTICS
abbrev pub diagnostics_of : GetDiagnostics → Surroundings → BoundDiagnostics
diagnostics_of s p = record { area = area_of s.area; information = information_of s.information p }
