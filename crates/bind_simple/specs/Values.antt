-- Values in statements, and the variables into which they are stored. ISO/IEC 9075-4, 14.5
-- (assignment statement); ISO/IEC 9075-2, 9.2 (store assignment).
use Rattle.std.specs.Prelude.{ℕ, List, map, Option, Some, None}
use Rattle.std.specs.List.{flat_map}
use Rattle.sql_values.specs.declared.value.SqlType.{SqlType}
use Rattle.sql_values.specs.declared.value.SqlType.TheVariants.{Integer}
use Rattle.syntax_trees.specs.declared.anchor.Anchor.{Anchor}
use Rattle.syntax_trees.specs.declared.anchor.Ident.{Ident}
use Rattle.syntax_trees.specs.declared.expr.Expr.{Expr}
use Rattle.bound_trees.specs.declared.expr.BoundExpr.{BoundExpr}
use Rattle.bound_trees.specs.declared.statement.BoundTarget.{BoundTarget}
use Rattle.bind_faults.specs.declared.fault.Fault.{Fault}
use Rattle.bind_faults.specs.Faults.{Noted}
use Rattle.bind_kinds.specs.declared.kind.OperandHead.{OperandHead}
use Rattle.bind_kinds.specs.declared.kind.Kind.{Kind}
use Rattle.bind_kinds.specs.declared.kind.Kind.TheVariants.{Null}
use Rattle.bind_kinds.specs.Kinds.{head_of, misfit}
use Rattle.bind_sight.specs.declared.scope.Variable.{Variable}
use Rattle.bind_sight.specs.Scopes.{variable_named}
use Rattle.bind_parts.specs.declared.typed.Typed.{Typed}
use Rattle.bind_queries.specs.Names.{judge}
use Rattle.bind_changes.specs.Writing.{asked}
use Rattle.bind_rules.specs.Targets.{target_faults}
use Rattle.bind_simple.specs.declared.target.Stored.{Stored}
use Rattle.bind_simple.specs.Places.{Surroundings, seen_from}

-- an expression of a statement
abbrev pub judged_expr : Expr → Surroundings → Noted Typed
judged_expr e p = judge e (seen_from p)

-- a value, of the kind that is wanted
abbrev pub value_of_kind : Kind → Expr → Surroundings → Noted BoundExpr
value_of_kind kind e p = asked (λ t. t.tree) (λ t. misfit kind t.head) (judged_expr e p)

-- ---- targets

-- the type of a target; a column of FOR, which is none, counts as an INTEGER
abbrev pub or_integer : Option SqlType → SqlType
or_integer None = Integer
or_integer (Some t) = t

-- what is stored there is of its kind; a name that stands for nothing takes every kind
abbrev pub stored_in : Anchor → Option (ℕ × Variable) → Stored
stored_in at None = record {
  target = record { slot = 0; data_type = Integer };
  kind = Null;
  at =
      at;
}
stored_in at (Some v) = record {
  target = record {
    slot = v.0;
    data_type =
        or_integer v.1.data_type;
  };
  kind = v.1.kind;
  at = at;
}

-- the target of a name
abbrev pub stored_at : Ident → Surroundings → Stored
stored_at i p = stored_in i.anchor (variable_named i.name p.scopes)

-- what is asked of a target by its name
abbrev pub faults_at : Ident → Surroundings → List Fault
faults_at i p = target_faults i (variable_named i.name p.scopes)

-- the targets, in their order
abbrev pub targets_at : List Ident → Surroundings → List Stored
targets_at is p = map (λ i. stored_at i p) is

-- what is asked of each
abbrev pub targets_faults : List Ident → Surroundings → List Fault
targets_faults is p = flat_map (λ i. faults_at i p) is

-- where values are stored
abbrev pub targets_of : List Stored → List BoundTarget
targets_of ts = map (λ t. t.target) ts

-- the kinds that are stored
abbrev pub kinds_of : List Stored → List Kind
kinds_of ts = map (λ t. t.kind) ts

-- what is stored there, as if it stood at the target
abbrev pub head_at : Stored → OperandHead
head_at t = head_of t.kind t.at

-- each target as if a value stood there
abbrev pub heads_at : List Stored → List OperandHead
heads_at ts = map head_at ts
