-- CREATE FUNCTION whose body is RETURN: the function that is made of its result, and the name faults
-- in it. ISO/IEC 9075-2, 11.60 (SQL-invoked routine).
use Rattle.std.specs.Prelude.{[], ◌∷◌, ◌++◌, Some, None}
use Rattle.syntax_trees.specs.declared.expr.Expr.{Expr}
use Rattle.bound_trees.specs.declared.expr.BoundExpr.{BoundExpr}
use Rattle.catalog_store.specs.Catalog.{Catalog}
use Rattle.catalog_store.specs.declared.entry.Object.{Object as NewObject}
use Rattle.bind_faults.specs.Faults.{Noted, ◌>>◌}
use Rattle.bind_kinds.specs.Kinds.{kind_of_type}
use Rattle.bind_kinds.specs.Types.{type_of}
use Rattle.bind_sight.specs.declared.scope.Scope.{Scope}
use Rattle.bind_rules.specs.Definitions.{Definition}
use Rattle.bind_simple.specs.Places.{Surroundings}
use Rattle.bind_simple.specs.Values.{value_of_kind}
use Rattle.bind_definitions.specs.Characteristics.{group_faults}
use Rattle.bind_definitions.specs.Making.{own_function, asked_of_result, returning}
use Rattle.bind_definitions.specs.Making.{signature_faults}
use Rattle.bind_definitions.specs.Routines.{parameters_of}

-- what the body of a function sees, with its parameters in sight
abbrev pub in_function : Definition → Scope → Catalog → Surroundings
in_function s parameters catalog = record {
  scopes = parameters ∷ [];
  labels = [];
  returns = Some (type_of s.returns);
  own = Some (own_function s);
  procedure = None;
  catalog = catalog;
}

-- the result is of the kind of the type that is returned
abbrev pub judged_result : Definition → Expr → Scope → Catalog → Noted BoundExpr
judged_result s result parameters catalog = value_of_kind (kind_of_type (type_of s.returns)) result
    (in_function s parameters catalog)

-- a function of its judged result, with what is asked of what it needs and of its height
abbrev pub returning_with : Definition → Catalog → Noted BoundExpr → Noted NewObject
returning_with s catalog body = record {
  value = returning s catalog body.uses body.value;
  faults = body.faults ++ asked_of_result s catalog body.uses;
  uses = body.uses;
}

-- a function that gives back the value of an expression
abbrev pub judged_returning : Definition → Expr → Catalog → Noted NewObject
judged_returning s result catalog =
    signature_faults s catalog ++ group_faults s.characteristics >> returning_with s catalog
    (judged_result s result (parameters_of s.parameters) catalog)
