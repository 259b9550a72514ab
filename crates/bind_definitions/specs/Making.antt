-- What CREATE FUNCTION and CREATE PROCEDURE make of a body with its names resolved. ISO/IEC 9075-4,
-- 9.20 (SQL-invoked function); ISO/IEC 9075-2, 11.60 (SQL-invoked routine).
use Rattle.std.specs.Prelude.{ℕ, Bool, false, ◌&&◌, nat_lt, if◌then◌else◌, List}
use Rattle.std.specs.Prelude.{[], ◌++◌, map, length, Some, None}
use Rattle.syntax_trees.specs.declared.anchor.Ident.{Ident}
use Rattle.statement_trees.specs.declared.definition.Characteristic.{Characteristic}
use Rattle.statement_trees.specs.declared.definition.Parameter.{Parameter}
use Rattle.statement_trees.specs.declared.definition.ParameterMode.{ParameterMode as WrittenMode}
use Rattle.statement_trees.specs.declared.definition.ParameterMode.TheVariants as written
use Rattle.bound_trees.specs.declared.expr.BoundExpr.{BoundExpr}
use Rattle.bound_trees.specs.declared.statement.BoundStmt.{BoundStmt}
use Rattle.bound_trees.specs.declared.statement.BoundStmt.TheVariants.{Return}
use Rattle.catalog_store.specs.Catalog.{Catalog}
use Rattle.catalog_store.specs.declared.entry.DataAccess.{DataAccess}
use Rattle.catalog_store.specs.declared.entry.DataAccess.TheVariants.{ModifiesSqlData}
use Rattle.catalog_store.specs.declared.entry.FunctionHead.{FunctionHead}
use Rattle.catalog_store.specs.declared.entry.Object.{Object as NewObject}
use Rattle.catalog_store.specs.declared.entry.Object.TheVariants as new
use Rattle.catalog_store.specs.declared.entry.ParameterMode.{ParameterMode}
use Rattle.catalog_store.specs.declared.entry.ParameterMode.TheVariants as mode
use Rattle.catalog_store.specs.declared.entry.ProcedureHead.{ProcedureHead}
use Rattle.bind_faults.specs.declared.fault.Fault.{Fault}
use Rattle.bind_kinds.specs.Types.{type_of, type_faults}
use Rattle.bind_sight.specs.declared.scope.EnclosingRoutine.{EnclosingRoutine}
use Rattle.bind_sight.specs.declared.scope.Scope.{Scope}
use Rattle.bind_queries.specs.Heights.{greatest_height}
use Rattle.bind_queries.specs.Runs.{all_run}
use Rattle.routine_form.specs.declared.sum.TheConstants.{HEAVIEST}
use Rattle.routine_form.specs.Weight.{weight}
use Rattle.bind_rules.specs.Access.{writes}
use Rattle.bind_rules.specs.Definitions.{Definition, ProcedureDefinition}
use Rattle.bind_rules.specs.Heights.{height_above, too_high}
use Rattle.bind_rules.specs.Names.{taken_name}
use Rattle.null_guards.specs.Guards.{guarded}
use Rattle.bind_definitions.specs.Characteristics.{is_null_on_null, need_of, access_faults}
use Rattle.bind_definitions.specs.Characteristics.{access_by}
use Rattle.bind_definitions.specs.Routines.{parameter_types, parameters_of, parameter_faults}
use Rattle.bind_definitions.specs.Routines.{used_in, calls}

-- ---- heads, and a routine as its own body sees it

-- The function itself, in its own body. Where the body calls it inside INSERT, UPDATE or DELETE, it
-- writes: so it is seen as one that does. A call of itself is heaviest.
abbrev pub own_function : Definition → EnclosingRoutine
own_function s = record {
  name = s.name.name;
  head = Some (record {
    parameters = parameter_types s.parameters;
    returns = type_of s.returns;
    access = ModifiesSqlData;
    height = 0;
    weight = HEAVIEST;
    uses = [];
  });
}

-- IN, OUT and INOUT, as a procedure's head has them
abbrev pub mode_of : WrittenMode → ParameterMode
mode_of written.In = mode.In
mode_of written.Out = mode.Out
mode_of written.Inout = mode.Inout

-- the modes of the parameters, in their order
abbrev pub modes_of : List Parameter → List ParameterMode
modes_of ps = map (λ p. mode_of p.mode) ps

-- the head of a procedure, with what its body needs, is and uses
abbrev pub procedure_head : List Parameter → DataAccess → ℕ → ℕ → List (List ℕ) → ProcedureHead
procedure_head ps access height weight uses =
    record {
      modes = modes_of ps;
      parameters = parameter_types ps;
      access = access;
      height = height;
      weight = weight;
      uses = uses;
    }

-- the procedure itself, in its own body: no function has its name there
abbrev pub own_procedure : ProcedureDefinition → EnclosingRoutine
own_procedure s = record { name = s.name.name; head = None }

-- the head of a function, with what its body needs, is and uses
abbrev pub head_with : Definition → DataAccess → ℕ → ℕ → List (List ℕ) → FunctionHead
head_with s access height weight uses =
    record {
      parameters = parameter_types s.parameters;
      returns = type_of s.returns;
      access =
          access;
      height = height;
      weight = weight;
      uses = uses;
    }

-- the parameters in sight of a function's body
abbrev pub parameters_of_function : Definition → Scope
parameters_of_function s = parameters_of s.parameters

-- the name is free, the parameters are well formed, and so is the type that is returned
abbrev pub signature_faults : Definition → Catalog → List Fault
signature_faults s catalog = taken_name s.name catalog ++
    (parameter_faults s.parameters ++ type_faults s.returns)

-- ---- what is asked of a body

-- what a body needs that uses these names
abbrev pub need_in : Catalog → List (List ℕ) → BoundStmt → DataAccess
need_in catalog uses body = need_of catalog uses (writes body)

-- what is asked by what a body needs: that is written, and the height is within the limit
abbrev pub asked_with : DataAccess → Ident → List Characteristic → Catalog → List (List ℕ) →
    List Fault
asked_with need i cs catalog uses = access_faults need cs ++ too_high i
    (greatest_height catalog uses)

-- what is asked of a body
abbrev pub asked_of_body : Ident → List Characteristic → Catalog → List (List ℕ) → BoundStmt →
    List Fault
asked_of_body i cs catalog uses body = asked_with (need_in catalog uses body) i cs catalog uses

-- what is asked of RETURN, which writes nothing
abbrev pub asked_of_result : Definition → Catalog → List (List ℕ) → List Fault
asked_of_result s catalog uses = asked_with (need_of catalog uses false) s.name s.characteristics
    catalog uses

-- ---- functions

-- RETURNS NULL ON NULL INPUT is the CASE that gives NULL where a parameter is; every other
-- characteristic leaves the value as it is
abbrev pub guarded_body : Definition → BoundExpr → BoundExpr
guarded_body s result = if is_null_on_null s.characteristics then guarded (length s.parameters)
    result else result

-- a function with a plan, by its head and its value
abbrev pub with_value : Definition → FunctionHead → BoundExpr → NewObject
with_value s head result = new.Function
    (record { head = head; body = guarded_body s result; plan = None })

-- a function with a plan, which has its own weight and height beside it
abbrev pub planned_function : Definition → Catalog → DataAccess → List (List ℕ) → BoundExpr →
    NewObject
planned_function s catalog access uses result = with_value s
    (head_with s access (height_above (greatest_height catalog uses))
    (weight catalog (Return result)) uses) result

-- the head of a function without a plan: it lies above what it calls
abbrev pub interpreted_head : Definition → Catalog → DataAccess → List (List ℕ) → BoundStmt →
    FunctionHead
interpreted_head s catalog access uses body =
    head_with s access (height_above (greatest_height catalog uses)) (weight catalog body)
    (used_in catalog uses)

-- a function without a plan: whether it is NULL by an argument, and whether it calls itself
abbrev pub with_body : Definition → FunctionHead → List (List ℕ) → BoundStmt → NewObject
with_body s head uses body = new.Interpreted (record {
  head = head;
  null_call = is_null_on_null s.characteristics;
  self_calling = calls s.name.name uses;
  body = body;
})

-- a function without a plan, by its bound body and what that uses
abbrev pub interpreted : Definition → Catalog → DataAccess → List (List ℕ) → BoundStmt → NewObject
interpreted s catalog access uses body = with_body s (interpreted_head s catalog access uses body)
    uses body

-- what a function does with SQL data whose body is RETURN: what is written, and else what it needs
abbrev pub access_of_result : Definition → Catalog → List (List ℕ) → DataAccess
access_of_result s catalog uses = access_by s.characteristics (need_of catalog uses false)

-- whether RETURN is no heavier than a plan may be that stands in the place of a body
abbrev pub is_light : Catalog → BoundExpr → Bool
is_light catalog result = nat_lt (weight catalog (Return result)) HEAVIEST

-- a plan answers RETURN where all that it calls has one, and it is not too heavy
abbrev pub has_plan : Catalog → List (List ℕ) → BoundExpr → Bool
has_plan catalog uses result = all_run catalog uses && is_light catalog result

-- a function whose body is RETURN: with a plan where all that it calls has one and it is light
abbrev pub returning : Definition → Catalog → List (List ℕ) → BoundExpr → NewObject
returning s catalog uses result =
    if has_plan catalog uses result
    then planned_function s catalog (access_of_result s catalog uses) uses result
    else interpreted s catalog (access_of_result s catalog uses) uses (Return result)

-- ---- procedures

-- the head of a procedure, by its bound body and what that uses
abbrev pub head_of_procedure : ProcedureDefinition → Catalog → DataAccess → List (List ℕ) →
    BoundStmt → ProcedureHead
head_of_procedure s catalog access uses body =
    procedure_head s.parameters access (height_above (greatest_height catalog uses))
    (weight catalog body) (used_in catalog uses)

-- a procedure, and whether it calls itself
abbrev pub procedure_with_body : ProcedureDefinition → ProcedureHead → List (List ℕ) → BoundStmt →
    NewObject
procedure_with_body s head uses body = new.Procedure
    (record { head = head; self_calling = calls s.name.name uses; body = body })

-- a procedure by its bound body and what that uses
abbrev pub procedure_of : ProcedureDefinition → Catalog → DataAccess → List (List ℕ) → BoundStmt →
    NewObject
procedure_of s catalog access uses body = procedure_with_body s
    (head_of_procedure s catalog access uses body) uses body
