-- The catalog: what its names stand for, in the order of their making. ISO/IEC 9075-2, 4.17
-- (schemas) and 11.60 (routines).
use Rattle.std.specs.Prelude.{ℕ, Bool, List, [], ◌∷◌, map, false, if◌then◌else◌, Option, Some, None}
use Rattle.std.specs.Str.{bytes_eq}
use Rattle.sql_values.specs.declared.value.SqlType.{SqlType}
use Rattle.row_types.specs.declared.RowType.{RowType}
use Rattle.rel_algebra.specs.Tree.{Routine, Procedure as ProcedureTree, Compound, NoVariable}
use Rattle.rel_algebra.specs.Tree.{NoHandler, NoStmt}
use Rattle.bound_trees.specs.declared.statement.BoundStmt.{BoundStmt}
use Rattle.catalog_store.specs.declared.entry.DataAccess.{DataAccess}
use Rattle.catalog_store.specs.declared.entry.ParameterMode.{ParameterMode}

-- a function with a plan: the types of its parameters, that of its result, what it does with SQL
-- data, its height, its weight, the names that it uses, and its tree
pub record Function : Type 0 where
  pub parameters : List SqlType
  pub returns : SqlType
  pub access : DataAccess
  pub height : ℕ
  pub weight : ℕ
  pub uses : List (List ℕ)
  pub routine : Routine

-- a function without a plan: the same, whether it is NULL where an argument is, whether it calls
-- itself, and its body in place of its tree
pub record Interpreted : Type 0 where
  pub parameters : List SqlType
  pub returns : SqlType
  pub access : DataAccess
  pub height : ℕ
  pub weight : ℕ
  pub uses : List (List ℕ)
  pub null_call : Bool
  pub self_calling : Bool
  pub body : BoundStmt

-- a procedure: the modes and the types of its parameters, what it does with SQL data, its height,
-- its weight, the names that it uses, whether it calls itself, and its body
pub record Procedure : Type 0 where
  pub modes : List ParameterMode
  pub parameters : List SqlType
  pub access : DataAccess
  pub height : ℕ
  pub weight : ℕ
  pub uses : List (List ℕ)
  pub self_calling : Bool
  pub body : BoundStmt

-- a table by the type of its rows, a function with or without a plan, or a procedure
pub data Object : Type 0 where
  TableObject : RowType → Object
  FunctionObject : Function → Object
  InterpretedObject : Interpreted → Object
  ProcedureObject : Procedure → Object

-- an object with its name
pub record Entry : Type 0 where
  pub name : List ℕ
  pub object : Object

-- the objects in the order of their making, so that each stands on those before it alone
abbrev pub Catalog : Type 0
Catalog = List Entry

-- the names that are taken, in that order
abbrev pub names_of : Catalog → List (List ℕ)
names_of catalog = map (λ e. e.name) catalog

-- what a name stands for
abbrev pub object_named : List ℕ → Catalog → Option Object
object_named name [] = None
object_named name (e ∷ es) = if bytes_eq e.name name then Some e.object else object_named name es

-- what a call runs where there is no function with a plan: it is not planned, and a call of it gives
-- NULL
abbrev pub missing : Routine
missing = ProcedureTree false [] (Compound false NoVariable 0 NoHandler NoStmt)

-- what a call runs: the function with a plan that the name stands for, and `missing` for any other
-- object
abbrev pub routine_in : Option Object → Routine
routine_in None = missing
routine_in (Some (TableObject row_type)) = missing
routine_in (Some (FunctionObject f)) = f.routine
routine_in (Some (InterpretedObject f)) = missing
routine_in (Some (ProcedureObject p)) = missing

-- the tree that a call of a name runs
abbrev pub routine_named : List ℕ → Catalog → Routine
routine_named name catalog = routine_in (object_named name catalog)
