-- CALL: the procedure, and its arguments. ISO/IEC 9075-2, 15.1 (call statement) and 10.4 (routine
-- invocation).
use Rattle.std.specs.Prelude.{ℕ, ◌==◌, ◌||◌, Bool, true, false, not, if◌then◌else◌, List, [], ◌∷◌}
use Rattle.std.specs.Prelude.{◌++◌, length, slice_get, Option, Some, None}
use Rattle.std.specs.Str.{bytes_eq}
use Rattle.sql_values.specs.declared.value.SqlType.{SqlType}
use Rattle.syntax_trees.specs.declared.anchor.Ident.{Ident}
use Rattle.syntax_trees.specs.declared.expr.Expr.{Expr, out-Expr}
use Rattle.syntax_trees.specs.declared.expr.Expr.TheOpen.{Expr-F}
use Rattle.syntax_trees.specs.declared.expr.Link.{Link}
use Rattle.syntax_trees.specs.declared.query.FromItem.{FromItem}
use Rattle.syntax_trees.specs.declared.query.Query.{Query}
use Rattle.syntax_trees.specs.declared.query.Select.{Select}
use Rattle.syntax_trees.specs.declared.query.SelectItem.{SelectItem}
use Rattle.syntax_trees.specs.declared.query.TableRef.{TableRef}
use Rattle.syntax_trees.specs.declared.query.ValueRow.{ValueRow}
use Rattle.syntax_trees.specs.declared.query.Values.{Values}
use Rattle.statement_trees.specs.declared.writing.Argument.{Argument}
use Rattle.statement_trees.specs.declared.writing.Argument.TheVariants as argument
use Rattle.statement_trees.specs.declared.writing.Call.{Call}
use Rattle.bound_trees.specs.declared.expr.BoundExpr.{BoundExpr}
use Rattle.bound_trees.specs.declared.statement.BoundArgument.{BoundArgument}
use Rattle.bound_trees.specs.declared.statement.BoundArgument.TheVariants as bound
use Rattle.bound_trees.specs.declared.statement.BoundCall.{BoundCall}
use Rattle.bound_trees.specs.declared.statement.BoundTarget.{BoundTarget}
use Rattle.catalog_store.specs.Catalog.{Object, TableObject, FunctionObject, InterpretedObject}
use Rattle.catalog_store.specs.Catalog.{ProcedureObject, object_named}
use Rattle.catalog_store.specs.declared.entry.ParameterMode.{ParameterMode}
use Rattle.catalog_store.specs.declared.entry.ProcedureHead.{ProcedureHead}
use Rattle.bind_faults.specs.declared.fault.Fault.{Fault}
use Rattle.bind_faults.specs.declared.fault.FaultKind.TheVariants.{UnknownName, WrongCount}
use Rattle.bind_faults.specs.Faults.{Noted, give, after, ◌>>◌, as_value, fault_if}
use Rattle.bind_sight.specs.declared.scope.EnclosingRoutine.{EnclosingRoutine}
use Rattle.bind_sight.specs.declared.scope.Scope.{Scope}
use Rattle.bind_sight.specs.declared.scope.Variable.{Variable}
use Rattle.bind_sight.specs.Scopes.{variable_named}
use Rattle.bind_parts.specs.Turns.{each_noted}
use Rattle.bind_changes.specs.Writing.{asked}
use Rattle.bind_rules.specs.declared.arguments.Wanted.{Wanted}
use Rattle.bind_rules.specs.Arguments.{is_in, value_faults, given_faults}
use Rattle.bind_simple.specs.Places.{Surroundings}
use Rattle.bind_simple.specs.Values.{judged_expr}

-- ---- the procedure

-- the head of a procedure of the catalog; what else has the name is none
abbrev pub procedure_in : Option Object → Option ProcedureHead
procedure_in None = None
procedure_in (Some (TableObject t)) = None
procedure_in (Some (FunctionObject f)) = None
procedure_in (Some (InterpretedObject f)) = None
procedure_in (Some (ProcedureObject q)) = Some
    (record {
      modes = q.modes;
      parameters = q.parameters;
      access = q.access;
      height = q.height;
      weight = q.weight;
      uses = q.uses;
    })

-- whether a name is that of the routine around the statement
abbrev pub is_own : List ℕ → Option EnclosingRoutine → Bool
is_own name None = false
is_own name (Some own) = bytes_eq own.name name

-- the procedure around the statement, or one of the catalog
abbrev pub procedure_named : List ℕ → Surroundings → Option ProcedureHead
procedure_named name p = if is_own name p.own then p.procedure else procedure_in
    (object_named name p.catalog)

-- there is one, and it has so many parameters as there are arguments
abbrev pub name_faults : Ident → ℕ → Option ProcedureHead → List Fault
name_faults i arguments None = fault_if true UnknownName i.anchor
name_faults i arguments (Some q) = fault_if (not (arguments == length q.parameters)) WrongCount
    i.anchor

-- a procedure that is known is used
abbrev pub name_uses : List ℕ → Option ProcedureHead → List (List ℕ)
name_uses name None = []
name_uses name (Some q) = name ∷ []

-- it is used
abbrev pub judged_name : Ident → ℕ → Option ProcedureHead → Noted (Unit {0})
judged_name i arguments q = record {
  value = tt;
  faults = name_faults i arguments q;
  uses =
      name_uses i.name q;
}

-- ---- arguments

-- what a parameter wants of its argument: its mode and its type
abbrev pub wanted_by : Option ParameterMode → Option SqlType → Option Wanted
wanted_by None t = None
wanted_by (Some m) None = None
wanted_by (Some m) (Some t) = Some (record { mode = m; data_type = t })

-- what the parameter at a place wants, if there is one
abbrev pub wanted_at : Option ProcedureHead → ℕ → Option Wanted
wanted_at None place = None
wanted_at (Some q) place = wanted_by (slice_get q.modes place) (slice_get q.parameters place)

-- an expression, opened one layer
abbrev pub Form : Type 0
Form = Expr-F Expr FromItem Query SelectItem TableRef ValueRow Link Select Values

-- a qualified name is no variable
abbrev pub if_plain : Option Ident → Option (ℕ × Variable) → Option (ℕ × Variable)
if_plain None found = found
if_plain (Some q) found = None

-- the variable that an expression is
abbrev pub variable_of : Form → List Scope → Option (ℕ × Variable)
variable_of (Expr-F.Name c) ss = if_plain c.qualifier (variable_named c.name.name ss)
variable_of _ ss = None

-- a variable that has a type is a target, a column of FOR is none
abbrev pub with_type : ℕ → Option SqlType → Option BoundTarget
with_type slot None = None
with_type slot (Some t) = Some (record { slot = slot; data_type = t })

-- into a variable or parameter values are stored, into a column of FOR none
abbrev pub target_in : Option (ℕ × Variable) → Option BoundTarget
target_in None = None
target_in (Some v) = with_type v.0 v.1.data_type

-- the variable that an expression is, by the scopes in sight
abbrev pub variable_meant : Expr → Surroundings → Option (ℕ × Variable)
variable_meant e p = variable_of (out-Expr e) p.scopes

-- the variable that an expression is, if values may be stored into it
abbrev pub target_meant : Expr → Surroundings → Option BoundTarget
target_meant e p = target_in (variable_meant e p)

-- ---- what stands for an argument

-- a value that is given back to a routine or block goes into a variable
abbrev pub variable_or : BoundExpr → Option BoundTarget → BoundArgument
variable_or e None = bound.Value e
variable_or e (Some target) = bound.Variable target

-- what stands for an argument: its value, or the variable into which it is given back
abbrev pub argument_of : Bool → Option Wanted → Option BoundTarget → BoundExpr → BoundArgument
argument_of script None target e = bound.Value e
argument_of script (Some w) target e = if script || is_in w.mode then bound.Value e else variable_or
    e target

-- an argument that is an expression
abbrev pub judged_value : Bool → Surroundings → Option Wanted → Expr → Noted BoundArgument
judged_value script p w e =
    asked (λ t. argument_of script w (target_meant e p) t.tree)
    (λ t. value_faults script w (target_meant e p) t.head) (judged_expr e p)

-- an expression, or `?`
abbrev pub judged_argument : Bool → Surroundings → Option Wanted → Argument → Noted BoundArgument
judged_argument script p w (argument.Value e) = judged_value script p w e
judged_argument script p w (argument.Parameter at) = given_faults script w at >> give bound.Given

-- one argument more, by the parameter of its place
abbrev pub one_argument : Bool → Surroundings → Option ProcedureHead → List BoundArgument →
    Argument → Noted (List BoundArgument)
one_argument script p q so a = as_value (λ b. so ++ b ∷ [])
    (judged_argument script p (wanted_at q (length so)) a)

-- the arguments, in their order
abbrev pub judged_arguments : Bool → Surroundings → Option ProcedureHead → List Argument →
    Noted (List BoundArgument)
judged_arguments script p q arguments = each_noted (one_argument script p q) [] arguments

-- the bound CALL
abbrev pub call_of : List ℕ → List BoundArgument → BoundCall
call_of name arguments = record { procedure = name; arguments = arguments }

-- a CALL of a procedure that is found or not
abbrev pub called : Bool → Call → Option ProcedureHead → Surroundings → Noted BoundCall
called script s q p = after (judged_name s.name (length s.arguments) q)
    (as_value (call_of s.name.name) (judged_arguments script p q s.arguments))

-- a CALL of the script's, or of a routine or block
abbrev pub judged_call : Bool → Call → Surroundings → Noted BoundCall
judged_call script s p = called script s (procedure_named s.name.name p) p
