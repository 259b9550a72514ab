-- Statements that hold no statement: the bound statement that each stands for, and the name faults
-- in it, by where it stands. ISO/IEC 9075-4, 14 (control statements), and 17 (diagnostics
-- management).
use Rattle.std.specs.Prelude.{ℕ, true, not, List, [], Option, Some, None, is_some}
use Rattle.sql_values.specs.declared.value.SqlType.{SqlType}
use Rattle.syntax_trees.specs.declared.anchor.Anchor.{Anchor}
use Rattle.syntax_trees.specs.declared.anchor.Ident.{Ident}
use Rattle.syntax_trees.specs.declared.expr.Expr.{Expr}
use Rattle.statement_trees.specs.declared.condition.GetDiagnostics.{GetDiagnostics}
use Rattle.statement_trees.specs.declared.writing.Delete.{Delete}
use Rattle.statement_trees.specs.declared.writing.Fetch.{Fetch}
use Rattle.statement_trees.specs.declared.writing.Insert.{Insert}
use Rattle.statement_trees.specs.declared.writing.Update.{Update}
use Rattle.bound_trees.specs.declared.statement.BoundStmt.{BoundStmt}
use Rattle.bound_trees.specs.declared.statement.BoundStmt.TheVariants as bound
use Rattle.bind_faults.specs.declared.fault.Fault.{Fault}
use Rattle.bind_faults.specs.declared.fault.FaultKind.TheVariants.{UnknownName, NotPermitted}
use Rattle.bind_faults.specs.Faults.{Noted, give, ◌>>◌, as_value, fault_if}
use Rattle.bind_kinds.specs.declared.kind.Kind.{Kind}
use Rattle.bind_kinds.specs.declared.kind.Kind.TheVariants.{Null}
use Rattle.bind_kinds.specs.Kinds.{kind_of_type}
use Rattle.bind_changes.specs.Writing.{judged_insert, judged_update, judged_delete}
use Rattle.bind_rules.specs.declared.labels.Labelled.{Labelled}
use Rattle.bind_rules.specs.Labels.{label_named}
use Rattle.bind_rules.specs.Targets.{return_faults}
use Rattle.bind_simple.specs.Places.{Surroundings, seen_from}
use Rattle.bind_simple.specs.Storing.{cursor_at, cursor_faults, cursor_slot, fetched_targets}
use Rattle.bind_simple.specs.Storing.{fetched_faults, information_faults, diagnostics_of}
use Rattle.bind_simple.specs.Values.{value_of_kind}

-- ---- judges

-- how a statement is judged by where it stands: its bound tree, its faults and what it uses
abbrev pub Judge : Type 0
Judge = Surroundings → Noted BoundStmt

-- ---- LEAVE and ITERATE

-- how many outwards what is left stands; 0 where nothing is found
abbrev pub level_of : Option Labelled → ℕ
level_of None = 0
level_of (Some l) = l.level

-- LEAVE names a label around it that may be left
abbrev pub leave_faults : Ident → Option Labelled → List Fault
leave_faults i found = fault_if (not (is_some found)) UnknownName i.anchor

-- ITERATE names a loop
abbrev pub iterate_faults : Anchor → Ident → Option Labelled → List Fault
iterate_faults at i None = fault_if true UnknownName i.anchor
iterate_faults at i (Some l) = fault_if (not l.is_loop) NotPermitted at

-- LEAVE
abbrev pub judged_leave : Ident → Judge
judged_leave i p = leave_faults i (label_named i.name p.labels) >> give
    (bound.Leave (level_of (label_named i.name p.labels)))

-- ITERATE
abbrev pub judged_iterate : Anchor → Ident → Judge
judged_iterate at i p = iterate_faults at i (label_named i.name p.labels) >> give
    (bound.Iterate (level_of (label_named i.name p.labels)))

-- ---- RETURN

-- the kind of what RETURN gives; outside of functions every kind fits
abbrev pub returned_kind : Option SqlType → Kind
returned_kind None = Null
returned_kind (Some t) = kind_of_type t

-- it stands in a function, and its value is of the kind of the type that is returned
abbrev pub judged_return : Anchor → Expr → Judge
judged_return at e p =
    return_faults at p.returns >> as_value (λ b. bound.Return b)
    (value_of_kind (returned_kind p.returns) e p)

-- ---- OPEN, CLOSE and FETCH

-- OPEN of a cursor in sight
abbrev pub judged_open : Ident → Judge
judged_open i p = cursor_faults i (cursor_at i p) >> give (bound.Open (cursor_slot (cursor_at i p)))

-- CLOSE of a cursor in sight
abbrev pub judged_close : Ident → Judge
judged_close i p = cursor_faults i (cursor_at i p) >> give
    (bound.Close (cursor_slot (cursor_at i p)))

-- FETCH from a cursor in sight into its targets
abbrev pub judged_fetch : Fetch → Judge
judged_fetch s p = fetched_faults s p >> give
    (bound.Fetch (cursor_slot (cursor_at s.cursor p)) (fetched_targets s p))

-- GET DIAGNOSTICS into its targets
abbrev pub judged_get : GetDiagnostics → Judge
judged_get s p = information_faults s.information p >> give
    (bound.GetDiagnostics (diagnostics_of s p))

-- ---- INSERT, UPDATE and DELETE

-- INSERT in a routine
abbrev pub inserted : Insert → Judge
inserted s p = as_value (λ b. bound.Insert b.insert b.listed) (judged_insert s (seen_from p))

-- UPDATE in a routine
abbrev pub changed : Update → Judge
changed s p = as_value (λ b. bound.Update b) (judged_update s (seen_from p))

-- DELETE in a routine
abbrev pub removed : Delete → Judge
removed s p = as_value (λ b. bound.Delete b) (judged_delete s (seen_from p))

-- ---- what stands in no routine

-- a definition, DROP, a query or EXPLAIN
abbrev pub misplaced : Anchor → Noted BoundStmt
misplaced at = fault_if true NotPermitted at >> give (bound.Loop [])
