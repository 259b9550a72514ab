-- What CREATE FUNCTION and CREATE PROCEDURE have in common: parameters, names in use and heights.
-- ISO/IEC 9075-2, 11.60 (SQL-invoked routine).
use Rattle.std.specs.Prelude.{ℕ, Bool, List, [], ◌++◌, map, filter, is_some}
use Rattle.std.specs.List.{flat_map, list_any}
use Rattle.std.specs.Str.{bytes_eq}
use Rattle.sql_values.specs.declared.value.SqlType.{SqlType}
use Rattle.syntax_trees.specs.declared.anchor.Ident.{Ident}
use Rattle.statement_trees.specs.declared.definition.Parameter.{Parameter}
use Rattle.catalog_store.specs.Catalog.{Catalog, object_named}
use Rattle.bind_faults.specs.declared.fault.Fault.{Fault}
use Rattle.bind_kinds.specs.Types.{type_of, type_faults}
use Rattle.bind_sight.specs.declared.scope.Scope.{Scope}
use Rattle.bind_sight.specs.declared.scope.Variable.{Variable}
use Rattle.bind_sight.specs.Scopes.{parameter_scope}
use Rattle.bind_rules.specs.Names.{names_of, repeated}
use Rattle.bind_rules.specs.Targets.{variable_of}

-- ---- parameters

-- the parameters as they are written
abbrev pub parameter_idents : List Parameter → List Ident
parameter_idents ps = map (λ p. p.name) ps

-- the names of the parameters
abbrev pub parameter_names : List Parameter → List (List ℕ)
parameter_names ps = names_of (parameter_idents ps)

-- the types of the parameters
abbrev pub parameter_types : List Parameter → List SqlType
parameter_types ps = map (λ p. type_of p.data_type) ps

-- each parameter as a variable of its type
abbrev pub parameters_held : List Parameter → List Variable
parameters_held ps = map (λ p. variable_of (type_of p.data_type)) ps

-- the parameters as variables
abbrev pub parameters_of : List Parameter → Scope
parameters_of ps = parameter_scope (parameter_names ps) (parameters_held ps)

-- what is asked of the written types: a VARCHAR is of 1 to 4,096 characters
abbrev pub types_faults : List Parameter → List Fault
types_faults ps = flat_map (λ p. type_faults p.data_type) ps

-- no two have one name, and each type is within its range
abbrev pub parameter_faults : List Parameter → List Fault
parameter_faults ps = repeated [] (parameter_idents ps) ++ types_faults ps

-- ---- names in use

-- a name stands for something
abbrev pub stands : Catalog → List ℕ → Bool
stands catalog name = is_some (object_named name catalog)

-- the names that a routine uses, itself aside: those of the catalog
abbrev pub used_in : Catalog → List (List ℕ) → List (List ℕ)
used_in catalog names = filter (stands catalog) names

-- whether a name is among those that are used
abbrev pub calls : List ℕ → List (List ℕ) → Bool
calls name names = list_any (λ used. bytes_eq used name) names
