-- Worked rows: the bodies of G and P of `viewing_laws`, which call a function with a plan, over
-- what stands before them.
use Rattle.std.specs.Prelude.{◌≡◌, ℕ, false, List, [], ◌∷◌, Option, Some, None, codes}
use Rattle.std.specs.Prelude.{if◌then◌else◌}
use Rattle.std.specs.Str.{bytes_eq}
use Rattle.sql_values.specs.declared.value.SqlType.TheVariants as type
use Rattle.catalog_store.specs.declared.entry.DataAccess.TheVariants.{ContainsSql}
use Rattle.catalog_store.specs.declared.entry.FunctionHead.{FunctionHead}
use Rattle.catalog_store.specs.declared.entry.ParameterMode.TheVariants as mode
use Rattle.catalog_store.specs.declared.entry.ProcedureHead.{ProcedureHead}
use Rattle.catalog_store.specs.Catalog.{Catalog, Object, TableObject, FunctionObject}
use Rattle.catalog_store.specs.Catalog.{InterpretedObject, ProcedureObject, object_named}
use Rattle.typing_trees.specs.Around.{stored}
use Rattle.typing_trees.specs.Statements.{Inside, is_typed}
use Rattle.typing_calls.specs.Typed.{StatementTyped}
use Rattle.viewing_laws.specs.Examples.{table, function_f, function_g, body_g, body_p}

-- the head of a function of one INTEGER that gives one; typing reads no more of it
abbrev pub of_integer : FunctionHead
of_integer = record {
  parameters = type.Integer ∷ [];
  returns = type.Integer;
  access = ContainsSql;
  height = 1;
  weight = 1;
  uses = [];
}

-- a function of the catalog
abbrev pub function_in : Option Object → Option FunctionHead
function_in None = None
function_in (Some (TableObject t)) = None
function_in (Some (FunctionObject f)) = Some of_integer
function_in (Some (InterpretedObject f)) = Some of_integer
function_in (Some (ProcedureObject p)) = None

-- P (IN V INTEGER)
abbrev pub head_p : ProcedureHead
head_p = record {
  modes = mode.In ∷ [];
  parameters = type.Integer ∷ [];
  access = ContainsSql;
  height = 1;
  weight = 1;
  uses = [];
}

-- no procedure, and P alone
abbrev pub nothing : List ℕ → Option ProcedureHead
nothing name = None

abbrev pub only_p : List ℕ → Option ProcedureHead
only_p name = if bytes_eq (codes "P") name then Some head_p else None

-- in a body with one parameter V, over the catalog, where these are the procedures
abbrev pub over : (List ℕ → Option ProcedureHead) → Catalog → Inside
over procedures c = record {
  around = record {
    rows = [];
    slots = stored type.Integer ∷ [];
    tables = λ name. None;
    functions = λ name. function_in (object_named name c);
  };
  cursors = [];
  outer = [];
  returns = Some type.Integer;
  procedures = procedures;
}

-- T and F, and these with G
abbrev pub with_f : Catalog
with_f = table (codes "T") ∷ function_f ∷ []

abbrev pub with_g : Catalog
with_g = table (codes "T") ∷ function_f ∷ function_g ∷ []

-- each body is well typed over what stands before it, and G's is not without F
pub record BodiesTyped : Type 0 where
  pub g : StatementTyped (codes "G") with_f body_g
  pub p : StatementTyped (codes "P") with_g body_p
  pub without : is_typed body_g (over nothing (table (codes "T") ∷ [])) ≡ false
