-- Catalogs as trees of numbers, by which a proof tells two of them apart.
use Rattle.std.specs.Prelude.{ℕ, ◌≡◌, ◌⊎◌, Bool, List}
use Rattle.std.proofs.Common.{refl, inl, inr}
use base.Stored.{coded_unit}
use Rattle.std.specs.Coded.{Coded, code_by, coded_ℕ, coded_bool, coded_list, coded×, coded⊎}
use Rattle.sql_values.specs.declared.value.SqlType.{SqlType}
use Rattle.row_types.specs.declared.ColumnType.{ColumnType}
use Rattle.row_types.specs.declared.RowType.{RowType}
use Rattle.rel_algebra.specs.Tree.{Routine}
use Rattle.rel_algebra.specs.Codes.{coded_type, coded_routine}
use Rattle.bound_trees.specs.declared.statement.BoundStmt.{BoundStmt}
use Rattle.bound_trees.specs.contracts.statement.BoundStmt as statement
use Rattle.catalog_store.specs.declared.entry.DataAccess.{DataAccess}
use Rattle.catalog_store.specs.declared.entry.DataAccess.TheVariants.{ContainsSql, ReadsSqlData}
use Rattle.catalog_store.specs.declared.entry.DataAccess.TheVariants.{ModifiesSqlData}
use Rattle.catalog_store.specs.declared.entry.ParameterMode.{ParameterMode}
use Rattle.catalog_store.specs.declared.entry.ParameterMode.TheVariants.{In, Out, Inout}
use Rattle.catalog_store.specs.Catalog.{Function, Interpreted, Procedure, Object, TableObject}
use Rattle.catalog_store.specs.Catalog.{FunctionObject, InterpretedObject, ProcedureObject, Entry}
use Rattle.catalog_store.specs.Catalog.{Catalog}

-- a name by its characters
abbrev pub coded_name : Coded (List ℕ)
coded_name = coded_list coded_ℕ

-- a column by its name, its type and its NOT NULL
abbrev pub coded_column : Coded ColumnType
coded_column =
    code_by (List ℕ × (SqlType × Bool)) (coded× coded_name (coded× coded_type coded_bool))
    (λ c. (c.name, (c.data_type, c.not_null)))
    (λ p. record { name = p.0; data_type = p.1.0; not_null = p.1.1 }) (λ _. refl)

-- a table's row type by its columns and its key
abbrev pub coded_row_type : Coded RowType
coded_row_type =
    code_by (List ColumnType × List ℕ) (coded× (coded_list coded_column) (coded_list coded_ℕ))
    (λ t. (t.columns, t.key)) (λ p. record { columns = p.0; key = p.1 }) (λ _. refl)

-- one of three
abbrev pub Third : Type 0
Third = Unit {0} ⊎ (Unit {0} ⊎ Unit {0})

-- one of three
abbrev pub coded_third : Coded Third
coded_third = coded⊎ coded_unit (coded⊎ coded_unit coded_unit)

-- the data access as one of three
abbrev pub access_parts : DataAccess → Third
access_parts ContainsSql = inl tt
access_parts ReadsSqlData = inr (inl tt)
access_parts ModifiesSqlData = inr (inr tt)

-- the data access that is that one of three
abbrev pub access_from : Third → DataAccess
access_from (inl _) = ContainsSql
access_from (inr (inl _)) = ReadsSqlData
access_from (inr (inr _)) = ModifiesSqlData

-- and back
pub access_back : (a : DataAccess) → access_from (access_parts a) ≡ a
access_back ContainsSql = refl
access_back ReadsSqlData = refl
access_back ModifiesSqlData = refl

-- <SQL-data access indication>
abbrev pub coded_access : Coded DataAccess
coded_access = code_by Third coded_third access_parts access_from access_back

-- the mode as one of three
abbrev pub mode_parts : ParameterMode → Third
mode_parts In = inl tt
mode_parts Out = inr (inl tt)
mode_parts Inout = inr (inr tt)

-- the mode that is that one of three
abbrev pub mode_from : Third → ParameterMode
mode_from (inl _) = In
mode_from (inr (inl _)) = Out
mode_from (inr (inr _)) = Inout

-- and back
pub mode_back : (m : ParameterMode) → mode_from (mode_parts m) ≡ m
mode_back In = refl
mode_back Out = refl
mode_back Inout = refl

-- <parameter mode>
abbrev pub coded_mode : Coded ParameterMode
coded_mode = code_by Third coded_third mode_parts mode_from mode_back

-- what every routine has: the types of its parameters, what it does with SQL data, its height, its
-- weight and what it uses
abbrev pub Shared : Type 0
Shared = (List SqlType × DataAccess) × ((ℕ × ℕ) × List (List ℕ))

-- what all three sorts of routines have: parameters, access, height, weight and used names
abbrev pub coded_shared : Coded Shared
coded_shared = coded× (coded× (coded_list coded_type) coded_access)
    (coded× (coded× coded_ℕ coded_ℕ) (coded_list coded_name))

-- a function of one RETURN, with the tree of its expression
abbrev pub coded_function : Coded Function
coded_function =
    code_by (Shared × (SqlType × Routine)) (coded× coded_shared (coded× coded_type coded_routine))
    (λ f. (((f.parameters, f.access), ((f.height, f.weight), f.uses)), (f.returns, f.routine)))
    (λ p. record {
      parameters = p.0.0.0;
      returns = p.1.0;
      access = p.0.0.1;
      height = p.0.1.0.0;
      weight = p.0.1.0.1;
      uses = p.0.1.1;
      routine = p.1.1;
    }) (λ _. refl)

-- the body of a routine, as a bound statement
abbrev pub coded_body : Coded BoundStmt
coded_body = statement.the_row.coded

-- a function whose body is other statements
abbrev pub coded_interpreted : Coded Interpreted
coded_interpreted =
    code_by (Shared × ((SqlType × (Bool × Bool)) × BoundStmt))
    (coded× coded_shared (coded× (coded× coded_type (coded× coded_bool coded_bool)) coded_body))
    (λ f. (
      ((f.parameters, f.access), ((f.height, f.weight), f.uses)),
      ((f.returns, (f.null_call, f.self_calling)), f.body),
    ))
    (λ p. record {
      parameters = p.0.0.0;
      returns = p.1.0.0;
      access = p.0.0.1;
      height = p.0.1.0.0;
      weight = p.0.1.0.1;
      uses = p.0.1.1;
      null_call = p.1.0.1.0;
      self_calling = p.1.0.1.1;
      body =
          p.1.1;
    }) (λ _. refl)

-- a procedure
abbrev pub coded_procedure : Coded Procedure
coded_procedure =
    code_by (Shared × ((List ParameterMode × Bool) × BoundStmt))
    (coded× coded_shared (coded× (coded× (coded_list coded_mode) coded_bool) coded_body))
    (λ f. (
      ((f.parameters, f.access), ((f.height, f.weight), f.uses)),
      ((f.modes, f.self_calling), f.body),
    ))
    (λ p. record {
      modes = p.1.0.0;
      parameters = p.0.0.0;
      access = p.0.0.1;
      height = p.0.1.0.0;
      weight = p.0.1.0.1;
      uses = p.0.1.1;
      self_calling = p.1.0.1;
      body = p.1.1;
    }) (λ _. refl)

-- an object as one of four
abbrev pub Parts : Type 0
Parts = (RowType ⊎ Function) ⊎ (Interpreted ⊎ Procedure)

-- an object as that one of four
abbrev pub object_parts : Object → Parts
object_parts (TableObject row_type) = inl (inl row_type)
object_parts (FunctionObject f) = inl (inr f)
object_parts (InterpretedObject f) = inr (inl f)
object_parts (ProcedureObject p) = inr (inr p)

-- the object that is that one of four
abbrev pub object_from : Parts → Object
object_from (inl (inl row_type)) = TableObject row_type
object_from (inl (inr f)) = FunctionObject f
object_from (inr (inl f)) = InterpretedObject f
object_from (inr (inr p)) = ProcedureObject p

-- and back
pub object_back : (o : Object) → object_from (object_parts o) ≡ o
object_back (TableObject row_type) = refl
object_back (FunctionObject f) = refl
object_back (InterpretedObject f) = refl
object_back (ProcedureObject p) = refl

-- an object of the catalog
abbrev pub coded_object : Coded Object
coded_object = code_by Parts (coded⊎ (coded⊎ coded_row_type coded_function)
    (coded⊎ coded_interpreted coded_procedure)) object_parts object_from object_back

-- an object with its name
abbrev pub coded_entry : Coded Entry
coded_entry = code_by (List ℕ × Object) (coded× coded_name coded_object) (λ e. (e.name, e.object))
    (λ p. record { name = p.0; object = p.1 }) (λ _. refl)

-- a catalog by its entries, in their order
abbrev pub coded_catalog : Coded Catalog
coded_catalog = coded_list coded_entry
