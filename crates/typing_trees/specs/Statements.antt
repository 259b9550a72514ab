-- When bound statements are well typed, by what stands around them: each value is of the kind that
-- is wanted, and each slot, cursor and label that is named is there. ISO/IEC 9075-4, 14 (control
-- statements), 17.2 (signal statement) and 17.3 (resignal statement); ISO/IEC 9075-2, 14.4 to 14.15
-- (cursors, and statements that write), 15.1 (call statement), 15.2 (return statement) and 23.1
-- (get diagnostics statement).
use Rattle.std.specs.Prelude.{ℕ, nat_eq, Bool, true, false, not, ◌&&◌, ◌||◌, List, [], ◌∷◌, ◌++◌}
use Rattle.std.specs.Prelude.{map, length, replicate, slice_get, Option, Some, None, is_some}
use Rattle.std.specs.List.{list_all}
use Rattle.sql_values.specs.declared.value.SqlType.{SqlType}
use Rattle.sql_values.specs.declared.value.SqlType.TheVariants as type
use Rattle.bound_trees.specs.declared.change.BoundDelete.{BoundDelete}
use Rattle.bound_trees.specs.declared.change.BoundInsert.{BoundInsert}
use Rattle.bound_trees.specs.declared.change.BoundUpdate.{BoundUpdate}
use Rattle.bound_trees.specs.declared.condition.BoundConditionRead.{BoundConditionRead}
use Rattle.bound_trees.specs.declared.condition.BoundHandlerType.{BoundHandlerType}
use Rattle.bound_trees.specs.declared.condition.BoundHandlerType.TheVariants.{Continue, Exit, Undo}
use Rattle.bound_trees.specs.declared.condition.BoundInformation.{BoundInformation}
use Rattle.bound_trees.specs.declared.condition.BoundInformation.TheVariants as information
use Rattle.bound_trees.specs.declared.condition.BoundStatementRead.{BoundStatementRead}
use Rattle.bound_trees.specs.declared.expr.BoundExpr.{BoundExpr}
use Rattle.bound_trees.specs.declared.query.BoundQuery.{BoundQuery}
use Rattle.bound_trees.specs.declared.statement.BoundArgument.{BoundArgument}
use Rattle.bound_trees.specs.declared.statement.BoundArgument.TheVariants as argument
use Rattle.bound_trees.specs.declared.statement.BoundBlock.{BoundBlock, fold-BoundBlock}
use Rattle.bound_trees.specs.declared.statement.BoundBranch.{BoundBranch, fold-BoundBranch}
use Rattle.bound_trees.specs.declared.statement.BoundCall.{BoundCall}
use Rattle.bound_trees.specs.declared.statement.BoundHandler.{BoundHandler, fold-BoundHandler}
use Rattle.bound_trees.specs.declared.statement.BoundStmt.{BoundStmt, fold-BoundStmt}
use Rattle.bound_trees.specs.declared.statement.BoundStmt.TheOpen.{BoundStmt-F, BoundBlock-F}
use Rattle.bound_trees.specs.declared.statement.BoundStmt.TheOpen.{BoundBranch-F, BoundHandler-F}
use Rattle.bound_trees.specs.declared.statement.BoundTarget.{BoundTarget}
use Rattle.bound_trees.specs.declared.statement.BoundVariables.{BoundVariables}
use Rattle.catalog_store.specs.declared.entry.ParameterMode.{ParameterMode}
use Rattle.catalog_store.specs.declared.entry.ParameterMode.TheVariants as mode
use Rattle.catalog_store.specs.declared.entry.ProcedureHead.{ProcedureHead}
use Rattle.bind_kinds.specs.declared.kind.Kind.{Kind}
use Rattle.bind_kinds.specs.declared.kind.Kind.TheVariants.{Integer, Text, Boolean}
use Rattle.bind_kinds.specs.Kinds.{kind_of_type, fits}
use Rattle.typing_trees.specs.Kinds.{each_fits}
use Rattle.typing_trees.specs.Around.{Around, Slot, stored, read, with_slots, then, only_if}
use Rattle.typing_trees.specs.Queries.{ExprKind, kind_of, kinds_of_query, columns_of_table}

-- ---- where a statement stands

-- a compound statement or a loop around it: whether it is a loop, and whether what stands here may
-- leave it
pub record Outer : Type 0 where
  pub is_loop : Bool
  pub may_leave : Bool

-- What stands around its expressions; the kinds of the columns of the cursors, by their slots; the
-- compound statements and loops around it, the innermost first; the type that is returned, in a
-- function; and the procedures.
pub record Inside : Type 0 where
  pub around : Around
  pub cursors : List (List Kind)
  pub outer : List Outer
  pub returns : Option SqlType
  pub procedures : List ℕ → Option ProcedureHead

-- with other statements around it
abbrev pub with_outer : List Outer → Inside → Inside
with_outer outer i = record {
  around = i.around;
  cursors = i.cursors;
  outer = outer;
  returns =
      i.returns;
  procedures = i.procedures;
}

-- in a loop, and in a compound statement
abbrev pub in_loop : Inside → Inside
in_loop i = with_outer (record { is_loop = true; may_leave = true } ∷ i.outer) i

-- in a compound statement, which LEAVE may leave and ITERATE may not name
abbrev pub in_block : Inside → Inside
in_block i = with_outer (record { is_loop = false; may_leave = true } ∷ i.outer) i

-- the innermost one may not be left, as from a handler's action
abbrev pub barred : List Outer → List Outer
barred [] = []
barred (o ∷ os) = record { is_loop = o.is_loop; may_leave = false } ∷ os

-- in an action of the compound statement that is innermost, which it may not leave
abbrev pub in_action : Inside → Inside
in_action i = with_outer (barred i.outer) i

-- with these slots and cursors
abbrev pub with_declared : List Slot → List (List Kind) → Inside → Inside
with_declared slots cursors i = record {
  around = with_slots slots i.around;
  cursors = cursors;
  outer = i.outer;
  returns = i.returns;
  procedures = i.procedures;
}

-- with these slots
abbrev pub with_read : List Slot → Inside → Inside
with_read slots i = with_declared slots i.cursors i

-- ---- values

-- it is there, and the test holds of it
abbrev pub holds : {A : Type 0} → Option A → (A → Bool) → Bool
holds None p = false
holds (Some x) p = p x

-- a value of a kind that fits
abbrev pub is_of : Kind → Option Kind → Bool
is_of wanted k = holds k (fits wanted)

-- an expression is well typed, and its value fits the kind
abbrev pub value_of : Kind → BoundExpr → Around → Bool
value_of wanted e a = is_of wanted (kind_of e a)

-- the same of an expression that may be left out
abbrev pub if_there : Kind → Option BoundExpr → Around → Bool
if_there wanted None a = true
if_there wanted (Some e) a = value_of wanted e a

-- ---- targets

-- the same type, VARCHAR of the same length too
abbrev pub same_type : SqlType → SqlType → Bool
same_type type.Integer type.Integer = true
same_type (type.Varchar m) (type.Varchar n) = nat_eq m n
same_type type.Boolean type.Boolean = true
same_type _ t = false

-- a variable of just this type; a column of FOR is read alone
abbrev pub stores : SqlType → Slot → Bool
stores t (stored s) = same_type s t
stores t (read k) = false

-- a slot into which values are stored, of its type
abbrev pub is_target : List Slot → BoundTarget → Bool
is_target slots t = holds (slice_get slots t.slot) (stores t.data_type)

-- the kind of a variable's type
abbrev pub kind_of_target : BoundTarget → Kind
kind_of_target t = kind_of_type t.data_type

-- what takes a value of a kind
abbrev pub takes_value : List Slot → BoundTarget → Option Kind → Bool
takes_value slots t k = is_target slots t && is_of (kind_of_target t) k

-- what take the values of a row
abbrev pub take_row : List Slot → List BoundTarget → Option (List Kind) → Bool
take_row slots ts ks = list_all (is_target slots) ts && holds ks (each_fits (map kind_of_target ts))

-- ---- INSERT, UPDATE and DELETE

-- the kinds at places of a row
abbrev pub at_places : List Kind → List ℕ → Option (List Kind)
at_places row [] = Some []
at_places row (p ∷ ps) = then (slice_get row p) (λ k. then (at_places row ps) (λ ks. Some (k ∷ ks)))

-- all columns of a table, or those that are listed
abbrev pub columns_into : List Kind → Option (List ℕ) → Option (List Kind)
columns_into columns None = Some columns
columns_into columns (Some places) = at_places columns places

-- all columns, and then those that are assigned
abbrev pub columns_and : List Kind → List ℕ → Option (List Kind)
columns_and columns places = then (at_places columns places) (λ ks. Some (columns ++ ks))

-- as many columns as are wanted, each of a kind that fits
abbrev pub rows_fit : Option (List Kind) → Option (List Kind) → Bool
rows_fit wanted ks = holds wanted (λ ws. holds ks (each_fits ws))

-- INSERT: the source's columns fit those that are stored into
abbrev pub insert_typed : BoundInsert → Option (List ℕ) → Around → Bool
insert_typed b places a = rows_fit (then (columns_of_table (a.tables b.table))
    (λ cs. columns_into cs places)) (kinds_of_query b.source a)

-- UPDATE: the rows that are met have all columns of the table, and then a value for each assigned
-- one
abbrev pub update_typed : BoundUpdate → Around → Bool
update_typed b a = rows_fit (then (columns_of_table (a.tables b.table))
    (λ cs. columns_and cs b.targets)) (kinds_of_query b.rows a)

-- DELETE: the rows that are met have the columns of the table
abbrev pub delete_typed : BoundDelete → Around → Bool
delete_typed b a = rows_fit (columns_of_table (a.tables b.table)) (kinds_of_query b.rows a)

-- ---- CALL

-- what a parameter wants
pub record Want : Type 0 where
  pub mode : ParameterMode
  pub data_type : SqlType

-- by the modes and the types of the parameters; one without a mode takes any value
abbrev pub wants : List ParameterMode → List SqlType → List (Option Want)
wants ms [] = []
wants [] (t ∷ ts) = None ∷ wants [] ts
wants (m ∷ ms) (t ∷ ts) = Some (record { mode = m; data_type = t }) ∷ wants ms ts

-- A value for IN; from the script also for INOUT, whose value is given back to it.
abbrev pub takes_expr : Bool → ParameterMode → Bool
takes_expr script mode.In = true
takes_expr script mode.Out = false
takes_expr script mode.Inout = script

-- a variable for OUT and INOUT, in a routine or block
abbrev pub takes_variable : Bool → ParameterMode → Bool
takes_variable script mode.In = false
takes_variable script mode.Out = not script
takes_variable script mode.Inout = not script

-- a value of OUT that is given back to the script
abbrev pub is_given : Bool → ParameterMode → Bool
is_given script mode.In = false
is_given script mode.Out = script
is_given script mode.Inout = false

-- an argument against its parameter: a value, a variable of that type, or in a script `?`
abbrev pub argument_typed : Bool → Around → Option Want → BoundArgument → Bool
argument_typed script a None (argument.Value e) = is_some (kind_of e a)
argument_typed script a None (argument.Variable t) = false
argument_typed script a None argument.Given = script
argument_typed script a (Some w) (argument.Value e) =
    takes_expr script w.mode && value_of (kind_of_type w.data_type) e a
argument_typed script a (Some w) (argument.Variable t) = takes_variable script w.mode &&
    (is_target a.slots t && fits (kind_of_type w.data_type) (kind_of_target t))
argument_typed script a (Some w) argument.Given = is_given script w.mode

-- as many arguments as parameters, each one as its parameter wants
abbrev pub arguments_typed : Bool → Around → List (Option Want) → List BoundArgument → Bool
arguments_typed script a [] [] = true
arguments_typed script a [] (x ∷ xs) = false
arguments_typed script a (w ∷ ws) [] = false
arguments_typed script a (w ∷ ws) (x ∷ xs) = argument_typed script a w x && arguments_typed script a
    ws xs

-- a CALL of the script's, or of a routine or block
abbrev pub call_typed : Bool → BoundCall → Inside → Bool
call_typed script c i = holds (i.procedures c.procedure)
    (λ p. arguments_typed script i.around (wants p.modes p.parameters) c.arguments)

-- ---- GET DIAGNOSTICS

-- a number
abbrev pub statement_read_typed : List Slot → BoundStatementRead → Bool
statement_read_typed slots r = is_target slots r.target && fits Integer (kind_of_target r.target)

-- a text
abbrev pub condition_read_typed : List Slot → BoundConditionRead → Bool
condition_read_typed slots r = is_target slots r.target && fits Text (kind_of_target r.target)

-- items of the statement are numbers; those of a condition, told by a number, are texts
abbrev pub information_typed : BoundInformation → Around → Bool
information_typed (information.Statement rs) a = list_all (statement_read_typed a.slots) rs
information_typed (information.Condition n rs) a =
    value_of Integer n a && list_all (condition_read_typed a.slots) rs

-- ---- statements that hold statements

-- whether a statement is well typed, by what stands around it
abbrev pub Typed : Type 0
Typed = Inside → Bool

-- a branch: the kind of its test, and whether its statements are well typed
pub record TypedBranch : Type 0 where
  pub test : ExprKind
  pub body : List Typed

-- a handler: whether it is UNDO, and whether its action is well typed
pub record TypedHandler : Type 0 where
  pub undoes : Bool
  pub action : Typed

-- each of several statements
abbrev pub all_typed : List Typed → Inside → Bool
all_typed ss i = list_all (λ (s : Typed). s i) ss

-- a test of the kind that is wanted, and the statements
abbrev pub branch_typed : Kind → Inside → TypedBranch → Bool
branch_typed wanted i b = is_of wanted (b.test i.around) && all_typed b.body i

-- each branch: its test is of the kind that is wanted, and its statements are well typed
abbrev pub branches_typed : Kind → List TypedBranch → Inside → Bool
branches_typed wanted bs i = list_all (branch_typed wanted i) bs

-- without an operand each test is a truth value, else it is of the operand's kind
abbrev pub case_typed : Option BoundExpr → List TypedBranch → Inside → Bool
case_typed None bs i = branches_typed Boolean bs i
case_typed (Some e) bs i = holds (kind_of e i.around) (λ k. branches_typed k bs i)

-- the statements of FOR see the columns of its query
abbrev pub for_typed : BoundQuery → ℕ → List Typed → Typed
for_typed q slot body i =
    holds (kinds_of_query q i.around) (λ ks. nat_eq slot (length i.around.slots) && all_typed body
    (with_read (i.around.slots ++ map read ks) i))

-- so many levels outwards stands a statement that may be left from here
abbrev pub may_leave : List Outer → ℕ → Bool
may_leave outer level = holds (slice_get outer level) (λ o. o.may_leave)

-- so many levels outwards stands a loop that may be left, and so begun again, from here
abbrev pub may_iterate : List Outer → ℕ → Bool
may_iterate outer level = holds (slice_get outer level) (λ o. o.may_leave && o.is_loop)

-- RETURN stands in a function, and its value fits what that returns
abbrev pub return_typed : BoundExpr → Inside → Bool
return_typed e i = holds i.returns (λ t. value_of (kind_of_type t) e i.around)

-- ---- compound statements

-- slots after those so far; a default sees the variables before it
abbrev pub declared : Around → List Slot → List BoundVariables → Option (List Slot)
declared a slots [] = Some slots
declared a slots (v ∷ vs) =
    only_if (nat_eq v.first (length slots) && if_there (kind_of_type v.data_type) v.default
    (with_slots slots a))
    (declared a (slots ++ replicate v.count (stored v.data_type)) vs)

-- the kinds of the columns of each query
abbrev pub each_kinds : List BoundQuery → Around → Option (List (List Kind))
each_kinds [] a = Some []
each_kinds (q ∷ qs) a = then (kinds_of_query q a)
    (λ ks. then (each_kinds qs a) (λ kss. Some (ks ∷ kss)))

-- UNDO stands in ATOMIC compound statements alone
abbrev pub handler_typed : Bool → Inside → TypedHandler → Bool
handler_typed atomic i h = (atomic || not h.undoes) && h.action (in_action i)

-- handlers and statements of a compound statement; UNDO wants one that is ATOMIC
abbrev pub parts_typed : Bool → List TypedHandler → List Typed → Inside → Bool
parts_typed atomic hs ss i = list_all (handler_typed atomic i) hs && all_typed ss i

-- the cursors see all variables, and the handlers and statements also the cursors
abbrev pub after_variables : BoundBlock-F Typed Typed TypedBranch TypedHandler → Inside →
    List Slot → Bool
after_variables b i slots =
    nat_eq b.first_cursor (length i.cursors)
    && holds (each_kinds b.cursors (with_slots slots i.around))
    (λ kss. parts_typed b.atomic b.handlers b.statements
    (with_declared slots (i.cursors ++ kss) i))

-- ---- one level, with what stands inside already seen as typed or not

-- a statement, once those in it are judged by what stands around them
abbrev pub stmt_typed : BoundStmt-F Typed Typed TypedBranch TypedHandler → Typed
stmt_typed (BoundStmt-F.Insert b places) i = insert_typed b places i.around
stmt_typed (BoundStmt-F.Update b) i = update_typed b i.around
stmt_typed (BoundStmt-F.Delete b) i = delete_typed b i.around
stmt_typed (BoundStmt-F.Call c) i = call_typed false c i
stmt_typed (BoundStmt-F.Block b) i = b (in_block i)
stmt_typed (BoundStmt-F.If bs ss) i = branches_typed Boolean bs i && all_typed ss i
stmt_typed (BoundStmt-F.Case operand bs ss) i = case_typed operand bs i && all_typed ss i
stmt_typed (BoundStmt-F.Set t e) i = takes_value i.around.slots t (kind_of e i.around)
stmt_typed (BoundStmt-F.SelectInto q ts) i = take_row i.around.slots ts (kinds_of_query q i.around)
stmt_typed (BoundStmt-F.Loop body) i = all_typed body (in_loop i)
stmt_typed (BoundStmt-F.While test body) i = value_of Boolean test i.around && all_typed body
    (in_loop i)
stmt_typed (BoundStmt-F.Repeat body test) i =
    all_typed body (in_loop i) && value_of Boolean test i.around
stmt_typed (BoundStmt-F.For q slot body) i = for_typed q slot body (in_loop i)
stmt_typed (BoundStmt-F.Open slot) i = is_some (slice_get i.cursors slot)
stmt_typed (BoundStmt-F.Close slot) i = is_some (slice_get i.cursors slot)
stmt_typed (BoundStmt-F.Fetch slot ts) i = take_row i.around.slots ts (slice_get i.cursors slot)
stmt_typed (BoundStmt-F.Signal s) i = if_there Text s.message i.around
stmt_typed (BoundStmt-F.Resignal s) i = if_there Text s.message i.around
stmt_typed (BoundStmt-F.GetDiagnostics d) i = information_typed d.information i.around
stmt_typed (BoundStmt-F.Leave level) i = may_leave i.outer level
stmt_typed (BoundStmt-F.Iterate level) i = may_iterate i.outer level
stmt_typed (BoundStmt-F.Return e) i = return_typed e i

-- a compound statement: its variables first, whose defaults see those before them
abbrev pub block_typed : BoundBlock-F Typed Typed TypedBranch TypedHandler → Typed
block_typed b i = holds (declared i.around i.around.slots b.variables) (after_variables b i)

-- a branch
abbrev pub branch_parts : BoundBranch-F Typed Typed TypedBranch TypedHandler → TypedBranch
branch_parts b = record { test = kind_of b.test; body = b.body }

-- whether the handler is UNDO
abbrev pub undoes : BoundHandlerType → Bool
undoes Continue = false
undoes Exit = false
undoes Undo = true

-- a handler
abbrev pub handler_parts : BoundHandler-F Typed Typed TypedBranch TypedHandler → TypedHandler
handler_parts h = record { undoes = undoes h.handler_type; action = h.action }

-- ---- whole trees

-- A statement is well typed.
abbrev pub is_typed : BoundStmt → Typed
is_typed = fold-BoundStmt Typed Typed TypedBranch TypedHandler stmt_typed block_typed branch_parts
    handler_parts

-- The same of a compound statement.
abbrev pub block_is_typed : BoundBlock → Typed
block_is_typed = fold-BoundBlock Typed Typed TypedBranch TypedHandler stmt_typed block_typed
    branch_parts handler_parts

-- the same of a branch
abbrev pub branch_of : BoundBranch → TypedBranch
branch_of = fold-BoundBranch Typed Typed TypedBranch TypedHandler stmt_typed block_typed
    branch_parts handler_parts

-- the same of a handler
abbrev pub handler_of : BoundHandler → TypedHandler
handler_of = fold-BoundHandler Typed Typed TypedBranch TypedHandler stmt_typed block_typed
    branch_parts handler_parts
