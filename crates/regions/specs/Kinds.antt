-- Functions in form whose expressions, queries and targets have the kinds that they are wanted to
-- have: then each operand in the plan has its kind, and the plan's one column that of the result.
use Rattle.std.specs.Prelude.{◌≡◌, true, List, [], ◌∷◌}
use Rattle.sql_values.specs.declared.value.SqlType.{SqlType}
use Rattle.rel_algebra.specs.Kinds.{Kinds, Tables, TypedStmt, scalars_good, scalars_kinds}
use Rattle.rel_algebra.specs.Kinds.{table_widths, tree_good, tree_kinds, type_kind, type_kinds}
use Rattle.rel_algebra.specs.Plan.{Scalars}
use Rattle.regions.specs.Inline.{inline_with}
use Rattle.regions.specs.Theorem.{parameters_of}
use Rattle.regions.specs.Tree.{Routine, Body}
use Rattle.regions.specs.TreeBodies.{stmt_of}

-- a function whose statements are typed, among all statements
abbrev pub RoutineTyped : Routine → Tables → Type 0
RoutineTyped (Body types returns body) T = TypedStmt (stmt_of body) T returns types

-- the type of its result
abbrev pub result_of : Routine → SqlType
result_of (Body types returns body) = returns

-- the plan of a function under rows outside and arguments of these kinds
pub record KindedInline (r : Routine) (T : Tables) (params : Scalars) (ks : List Kinds)
    (ps : Kinds) : Type 0 where
  -- each operand has its kind
  pub good : tree_good (inline_with r (table_widths T) params) T ks ps ≡ true
  -- its column has the kind of the result
  pub kinds : tree_kinds (inline_with r (table_widths T) params) T ks ps
      ≡ type_kind (result_of r) ∷ []

-- The plan of a function whose statements are typed is well kinded, where each scalar that reads a
-- parameter has exactly the kind of its type: NULL alone has not, so that a caller reads each
-- parameter as its type takes it.
abbrev pub KindedInlines : Type 0
KindedInlines = (r : Routine) (T : Tables) (params : Scalars) (ks : List Kinds) (ps : Kinds) →
    RoutineTyped r T → scalars_kinds params ([] ∷ ks) ps ≡ type_kinds (parameters_of r) →
    scalars_good params ([] ∷ ks) ps ≡ true → KindedInline r T params ks ps
