-- CREATE FUNCTION and CREATE PROCEDURE: what is made, and the name faults in it. ISO/IEC 9075-4,
-- 9.20 (SQL-invoked function); ISO/IEC 9075-2, 11.60 (SQL-invoked routine).
use Rattle.std.specs.Prelude.{List, [], ◌∷◌, ◌++◌, Some, None}
use Rattle.syntax_trees.specs.declared.anchor.Ident.{Ident}
use Rattle.statement_trees.specs.declared.definition.Characteristic.{Characteristic}
use Rattle.bound_trees.specs.declared.statement.BoundStmt.{BoundStmt}
use Rattle.catalog_store.specs.Catalog.{Catalog}
use Rattle.catalog_store.specs.declared.entry.DataAccess.{DataAccess}
use Rattle.catalog_store.specs.declared.entry.DataAccess.TheVariants.{ModifiesSqlData}
use Rattle.catalog_store.specs.declared.entry.Object.{Object as NewObject}
use Rattle.bind_faults.specs.declared.fault.Fault.{Fault}
use Rattle.bind_faults.specs.Faults.{Noted, ◌>>◌}
use Rattle.bind_sight.specs.declared.scope.Scope.{Scope}
use Rattle.bind_rules.specs.Names.{taken_name}
use Rattle.routine_form.specs.declared.sum.TheConstants.{HEAVIEST}
use Rattle.bind_simple.specs.Places.{Surroundings}
use Rattle.bind_routines.specs.Statements.{judge_stmt}
use Rattle.bind_definitions.specs.Characteristics.{group_faults, null_call_faults, access_by}
use Rattle.bind_definitions.specs.Routines.{parameters_of, parameter_faults}
use Rattle.bind_definitions.specs.Making.{asked_of_body, interpreted, need_in, own_procedure}
use Rattle.bind_definitions.specs.Making.{procedure_head, procedure_of, signature_faults}
use Rattle.bind_rules.specs.Definitions.{Definition, ProcedureDefinition}
use Rattle.bind_direct.specs.Returning.{in_function}

-- ---- functions whose body is another statement than RETURN

-- what a judged body needs
abbrev pub body_need : Catalog → Noted BoundStmt → DataAccess
body_need catalog body = need_in catalog body.uses body.value

-- what is asked of a judged body
abbrev pub body_faults : Ident → List Characteristic → Catalog → Noted BoundStmt → List Fault
body_faults i cs catalog body = asked_of_body i cs catalog body.uses body.value

-- what a routine does with SQL data
abbrev pub written_access : List Characteristic → Catalog → Noted BoundStmt → DataAccess
written_access cs catalog body = access_by cs (body_need catalog body)

-- a function of its judged body
abbrev pub function_with : Definition → Catalog → Noted BoundStmt → Noted NewObject
function_with s catalog body = record {
  value = interpreted s catalog (written_access s.characteristics catalog body) body.uses
      body.value;
  faults = body.faults ++ body_faults s.name s.characteristics catalog body;
  uses = body.uses;
}

-- the body of a function, in sight of its parameters
abbrev pub body_of_function : Definition → Scope → Catalog → Noted BoundStmt
body_of_function s parameters catalog = judge_stmt s.body (in_function s parameters catalog)

-- CREATE FUNCTION whose body is another statement than RETURN
abbrev pub judged_function : Definition → Catalog → Noted NewObject
judged_function s catalog =
    signature_faults s catalog ++ group_faults s.characteristics >> function_with s catalog
    (body_of_function s (parameters_of s.parameters) catalog)

-- ---- procedures

-- the parameters of a procedure in sight of its body
abbrev pub in_procedure : ProcedureDefinition → Scope → Catalog → Surroundings
in_procedure s parameters catalog = record {
  scopes = parameters ∷ [];
  labels = [];
  returns = None;
  own = Some (own_procedure s);
  procedure = Some (procedure_head s.parameters ModifiesSqlData 0 HEAVIEST []);
  catalog = catalog;
}

-- a procedure of its judged body
abbrev pub procedure_with : ProcedureDefinition → Catalog → Noted BoundStmt → Noted NewObject
procedure_with s catalog body = record {
  value = procedure_of s catalog (written_access s.characteristics catalog body) body.uses
      body.value;
  faults = body.faults ++ body_faults s.name s.characteristics catalog body;
  uses = body.uses;
}

-- a procedure has no characteristic of null call
abbrev pub procedure_faults : ProcedureDefinition → Catalog → List Fault
procedure_faults s catalog =
    taken_name s.name catalog ++ (parameter_faults s.parameters ++
    (group_faults s.characteristics ++ null_call_faults s.characteristics))

-- the body of a procedure, in sight of its parameters
abbrev pub body_of_procedure : ProcedureDefinition → Scope → Catalog → Noted BoundStmt
body_of_procedure s parameters catalog = judge_stmt s.body (in_procedure s parameters catalog)

-- CREATE PROCEDURE
abbrev pub judged_procedure : ProcedureDefinition → Catalog → Noted NewObject
judged_procedure s catalog = procedure_faults s catalog >> procedure_with s catalog
    (body_of_procedure s (parameters_of s.parameters) catalog)
