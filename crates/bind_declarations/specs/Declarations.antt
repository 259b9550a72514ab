-- Declarations of a compound statement. ISO/IEC 9075-4, 14.2 (handler declaration), 14.3 (condition
-- declaration) and 14.4 (SQL variable declaration); ISO/IEC 9075-2, 14.1 (declare cursor).
use Rattle.std.specs.Prelude.{ℕ, Bool, ◌||◌, List, [], ◌∷◌, ◌++◌, map, length, Option, Some, None}
use Rattle.std.specs.Prelude.{is_some}
use Rattle.syntax_trees.specs.declared.anchor.Anchor.{Anchor}
use Rattle.syntax_trees.specs.declared.anchor.Ident.{Ident}
use Rattle.syntax_trees.specs.declared.expr.Expr.{Expr}
use Rattle.syntax_trees.specs.declared.query.OrderedQuery.{OrderedQuery}
use Rattle.statement_trees.specs.declared.condition.ConditionValue.{ConditionValue}
use Rattle.statement_trees.specs.declared.condition.ConditionValue.TheVariants as waited
use Rattle.statement_trees.specs.declared.declaration.ConditionDeclaration.{ConditionDeclaration}
use Rattle.statement_trees.specs.declared.declaration.CursorDeclaration.{CursorDeclaration}
use Rattle.statement_trees.specs.declared.declaration.HandlerType.{HandlerType}
use Rattle.statement_trees.specs.declared.declaration.HandlerType.TheVariants as type
use Rattle.statement_trees.specs.declared.declaration.VariableDeclaration.{VariableDeclaration}
use Rattle.bound_trees.specs.declared.condition.BoundConditionValue.{BoundConditionValue}
use Rattle.bound_trees.specs.declared.condition.BoundConditionValue.TheVariants as value
use Rattle.bound_trees.specs.declared.condition.BoundHandlerType.{BoundHandlerType}
use Rattle.bound_trees.specs.declared.condition.BoundHandlerType.TheVariants as bound_type
use Rattle.bound_trees.specs.declared.expr.BoundExpr.{BoundExpr}
use Rattle.bound_trees.specs.declared.statement.BoundHandler.{BoundHandler, roll-BoundHandler}
use Rattle.bound_trees.specs.declared.statement.BoundStmt.{BoundStmt}
use Rattle.bind_faults.specs.declared.fault.Fault.{Fault}
use Rattle.bind_faults.specs.declared.fault.FaultKind.TheVariants.{DuplicateName}
use Rattle.bind_faults.specs.Faults.{Noted, give, ◌>>◌, as_value, fault_if}
use Rattle.bind_kinds.specs.declared.kind.Kind.{Kind}
use Rattle.bind_kinds.specs.Kinds.{kind_of_type}
use Rattle.bind_kinds.specs.Types.{type_of, type_faults}
use Rattle.bind_sight.specs.declared.output.Output.{Output}
use Rattle.bind_sight.specs.declared.scope.Cursor.{Cursor}
use Rattle.bind_sight.specs.declared.scope.Scope.{Scope}
use Rattle.bind_sight.specs.declared.scope.Variable.{Variable}
use Rattle.bind_sight.specs.Index.{place_of}
use Rattle.bind_sight.specs.Scopes.{empty_scope}
use Rattle.bind_parts.specs.declared.typed.TypedQuery.{TypedQuery}
use Rattle.bind_queries.specs.Order.{judge_ordered_typed}
use Rattle.bind_changes.specs.Writing.{asked}
use Rattle.bind_rules.specs.Handlers.{undo_faults, twice_faults}
use Rattle.bind_declarations.specs.declared.declared.Declared.{Declared}
use Rattle.bind_declarations.specs.Loops.{next_slot, next_cursor, slot_after}
use Rattle.bind_simple.specs.Places.{Surroundings, seen_from, with_scope, in_action}
use Rattle.bind_simple.specs.States.{state_faults, state_of, state_named, faults_of_condition}
use Rattle.bind_simple.specs.Values.{value_of_kind}
use Rattle.bind_rules.specs.Targets.{variable_of}

-- ---- what is declared so far

-- nothing yet, after the scopes outside
abbrev pub nothing_declared : Surroundings → Declared
nothing_declared p = record {
  scope = empty_scope (next_slot p.scopes) (next_cursor p.scopes);
  variables = [];
  cursors = [];
  handlers = [];
}

-- what stands after the declarations so far sees what they declare
abbrev pub after_declared : Declared → Surroundings → Surroundings
after_declared so p = with_scope so.scope p

-- ---- names

-- variables, conditions and cursors of a compound statement have one set of names
abbrev pub is_declared : List ℕ → Scope → Bool
is_declared name s = (is_some (place_of name s.variables) || is_some (place_of name s.conditions))
    || is_some (place_of name s.cursors)

-- DuplicateName at a name that the compound statement has already
abbrev pub again : Ident → Scope → List Fault
again i s = fault_if (is_declared i.name s) DuplicateName i.anchor

-- ---- variables

-- a scope with one variable more
abbrev pub with_variable : List ℕ → Variable → Scope → Scope
with_variable name v s = record {
  loop_name = s.loop_name;
  first = s.first;
  variables = s.variables ++ name ∷ [];
  held = s.held ++ v ∷ [];
  conditions = s.conditions;
  states = s.states;
  first_cursor = s.first_cursor;
  cursors = s.cursors;
  columns = s.columns;
}

-- a scope with the variables of one declaration
abbrev pub with_variables : List Ident → Variable → Scope → Scope
with_variables [] v s = s
with_variables (i ∷ is) v s = with_variables is v (with_variable i.name v s)

-- what is asked of each of their names, in turn
abbrev pub names_faults : List Ident → Variable → Scope → List Fault
names_faults [] v s = []
names_faults (i ∷ is) v s = again i s ++ names_faults is v (with_variable i.name v s)

-- the default is judged before the names stand
abbrev pub judged_default : Option Expr → Kind → Surroundings → Noted (Option BoundExpr)
judged_default None kind p = give None
judged_default (Some e) kind p = as_value (λ b. Some b) (value_of_kind kind e p)

-- the default, in sight of what is declared before it
abbrev pub default_after : VariableDeclaration → Scope → Surroundings → Noted (Option BoundExpr)
default_after d s p = judged_default d.default (kind_of_type (type_of d.data_type)) (with_scope s p)

-- what is declared, with the variables of one declaration more
abbrev pub with_group : VariableDeclaration → Declared → Option BoundExpr → Declared
with_group d so default = record {
  scope = with_variables d.names (variable_of (type_of d.data_type)) so.scope;
  variables = so.variables ++ record {
    first = slot_after so.scope;
    count = length d.names;
    data_type = type_of d.data_type;
    default = default;
  } ∷ [];
  cursors = so.cursors;
  handlers = so.handlers;
}

-- DECLARE of variables
abbrev pub judged_variables : VariableDeclaration → Surroundings → Declared → Noted Declared
judged_variables d p so =
    type_faults d.data_type
    >> asked (with_group d so) (λ b. names_faults d.names (variable_of (type_of d.data_type))
    so.scope)
    (default_after d so.scope p)

-- ---- conditions

-- a scope with one condition more
abbrev pub with_condition : List ℕ → List ℕ → Scope → Scope
with_condition name state s = record {
  loop_name = s.loop_name;
  first = s.first;
  variables = s.variables;
  held = s.held;
  conditions = s.conditions ++ name ∷ [];
  states = s.states ++ state ∷ [];
  first_cursor = s.first_cursor;
  cursors = s.cursors;
  columns = s.columns;
}

-- what is declared, with another scope
abbrev pub over_scope : Scope → Declared → Declared
over_scope s so = record {
  scope = s;
  variables = so.variables;
  cursors = so.cursors;
  handlers =
      so.handlers;
}

-- the state is an SQLSTATE, and the name is new
abbrev pub condition_faults : ConditionDeclaration → Declared → List Fault
condition_faults d so = state_faults d.state ++ again d.name so.scope

-- what is declared, with one condition more
abbrev pub condition_declared : ConditionDeclaration → Declared → Declared
condition_declared d so = over_scope (with_condition d.name.name (state_of d.state) so.scope) so

-- DECLARE of a condition
abbrev pub judged_condition : ConditionDeclaration → Declared → Noted Declared
judged_condition d so = condition_faults d so >> give (condition_declared d so)

-- ---- cursors

-- a cursor by the kinds of its columns
abbrev pub cursor_over : List Output → Cursor
cursor_over cs = record { kinds = map (λ c. c.kind) cs }

-- the cursor of a query
abbrev pub cursor_of : TypedQuery → Cursor
cursor_of q = cursor_over q.columns

-- a scope with one cursor more
abbrev pub with_cursor : List ℕ → Cursor → Scope → Scope
with_cursor name c s = record {
  loop_name = s.loop_name;
  first = s.first;
  variables = s.variables;
  held = s.held;
  conditions = s.conditions;
  states = s.states;
  first_cursor = s.first_cursor;
  cursors = s.cursors ++ name ∷ [];
  columns = s.columns ++ c ∷ [];
}

-- what is declared, with the cursor of a bound query more
abbrev pub with_cursor_of : List ℕ → Declared → TypedQuery → Declared
with_cursor_of name so q = record {
  scope = with_cursor name (cursor_of q) so.scope;
  variables = so.variables;
  cursors = so.cursors ++ q.tree ∷ [];
  handlers = so.handlers;
}

-- the query of a cursor, in sight of what is declared before it
abbrev pub query_after : OrderedQuery → Scope → Surroundings → Noted TypedQuery
query_after q s p = judge_ordered_typed q (seen_from (with_scope s p))

-- DECLARE of a cursor
abbrev pub judged_cursor : CursorDeclaration → Surroundings → Declared → Noted Declared
judged_cursor d p so = asked (with_cursor_of d.name.name so) (λ q. again d.name so.scope)
    (query_after d.query so.scope p)

-- ---- handlers

-- CONTINUE, EXIT and UNDO, as bound trees have them
abbrev pub type_of_handler : HandlerType → BoundHandlerType
type_of_handler type.Continue = bound_type.Continue
type_of_handler type.Exit = bound_type.Exit
type_of_handler type.Undo = bound_type.Undo

-- what a handler waits for; a condition is its state
abbrev pub value_of : Surroundings → ConditionValue → BoundConditionValue
value_of p (waited.Sqlstate at s) = value.State (state_of s)
value_of p (waited.Condition i) = value.State (state_named i p)
value_of p (waited.SqlException at) = value.SqlException
value_of p (waited.SqlWarning at) = value.SqlWarning
value_of p (waited.NotFound at) = value.NotFound

-- the token of what a handler waits for
abbrev pub anchor_of_value : ConditionValue → Anchor
anchor_of_value (waited.Sqlstate at s) = at
anchor_of_value (waited.Condition i) = i.anchor
anchor_of_value (waited.SqlException at) = at
anchor_of_value (waited.SqlWarning at) = at
anchor_of_value (waited.NotFound at) = at

-- a state is an SQLSTATE, and a condition is in sight
abbrev pub own_faults : Surroundings → ConditionValue → List Fault
own_faults p (waited.Sqlstate at s) = state_faults s
own_faults p (waited.Condition i) = faults_of_condition i p
own_faults p (waited.SqlException at) = []
own_faults p (waited.SqlWarning at) = []
own_faults p (waited.NotFound at) = []

-- after values of the same handler
abbrev pub values_after : Surroundings → List BoundHandler → List BoundConditionValue →
    List ConditionValue → List Fault
values_after p handlers before [] = []
values_after p handlers before (v ∷ vs) =
    own_faults p v ++ (twice_faults (value_of p v) (anchor_of_value v) handlers before ++
    values_after p handlers (before ++ value_of p v ∷ []) vs)

-- what is asked of all that a handler waits for
abbrev pub values_faults : Surroundings → List BoundHandler → List ConditionValue → List Fault
values_faults p handlers vs = values_after p handlers [] vs

-- the bound handler
abbrev pub handler_of : HandlerType → List BoundConditionValue → BoundStmt → BoundHandler
handler_of type values action = roll-BoundHandler
    (record { handler_type = type_of_handler type; values = values; action = action })

-- what is declared, with one handler more
abbrev pub with_handler : Declared → BoundHandler → Declared
with_handler so h = record {
  scope = so.scope;
  variables = so.variables;
  cursors = so.cursors;
  handlers = so.handlers ++ h ∷ [];
}

-- A handler after others, by how its action is judged: the action sees no scope of handlers of its
-- compound statement, and may not leave that.
abbrev pub judged_after : HandlerType → List ConditionValue → (Surroundings → Noted BoundStmt) →
    List BoundHandler → Surroundings → Noted BoundHandler
judged_after handler values action handlers here =
    values_faults here handlers values >> as_value (handler_of handler (map (value_of here) values))
    (action (in_action here))

-- DECLARE of a handler, by how its action is judged
abbrev pub judged_handler : Anchor → HandlerType → List ConditionValue →
    (Surroundings → Noted BoundStmt) → Bool → Surroundings → Declared → Noted Declared
judged_handler at handler values action atomic p so =
    undo_faults at handler atomic >> as_value (with_handler so)
    (judged_after handler values action so.handlers (after_declared so p))
