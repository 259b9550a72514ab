-- Worked rows: which names statements use, and bodies that stay well typed, or don't, as things are
-- made and dropped.
use Rattle.std.specs.Prelude.{◌≡◌, ℕ, true, false, List, [], ◌∷◌, ◌++◌}
use Rattle.std.specs.Prelude.{Option, None, Some, codes}
use Rattle.sql_values.specs.declared.value.SqlType.TheVariants as type
use Rattle.row_types.specs.declared.RowType.{RowType}
use Rattle.bound_trees.specs.declared.expr.BoundExpr.{BoundExpr}
use Rattle.bound_trees.specs.declared.expr.BoundExpr.TheVariants as expr
use Rattle.bound_trees.specs.declared.query.BoundFromItem.TheVariants as item
use Rattle.bound_trees.specs.declared.query.BoundQuery.TheVariants as query
use Rattle.bound_trees.specs.declared.query.BoundSelect.{BoundSelect, roll-BoundSelect}
use Rattle.bound_trees.specs.declared.query.BoundSource.TheVariants as source
use Rattle.bound_trees.specs.declared.statement.BoundArgument.TheVariants as argument
use Rattle.bound_trees.specs.declared.statement.BoundStmt.{BoundStmt}
use Rattle.bound_trees.specs.declared.statement.BoundStmt.TheOpen.{BoundStmt-F}
use Rattle.bound_trees.specs.declared.statement.BoundStmt.TheVariants as bound
use Rattle.catalog_store.specs.declared.entry.DataAccess.TheVariants.{ModifiesSqlData}
use Rattle.catalog_store.specs.declared.entry.FunctionHead.{FunctionHead}
use Rattle.catalog_store.specs.declared.entry.ParameterMode.TheVariants as mode
use Rattle.catalog_store.specs.declared.entry.ProcedureHead.{ProcedureHead}
use Rattle.catalog_store.specs.Catalog.{Object, TableObject, InterpretedObject}
use Rattle.catalog_store.specs.Catalog.{ProcedureObject, Entry, Catalog}
use Rattle.catalog_store.specs.Users.{users_of, without}
use Rattle.typing_trees.specs.Around.{stored}
use Rattle.typing_trees.specs.Statements.{Inside, is_typed}
use Rattle.typing_lasting.specs.Used.{UsedNames, stmt_names, block_names, statement_names}
use Rattle.typing_lasting.specs.Lasting.{Resolution, objects_in, in_routine, inside_with}

-- ---- trees

-- SELECT the first column FROM a table
abbrev pub all_of : List ℕ → BoundSelect
all_of table = roll-BoundSelect (record {
  items = expr.Column 0 0 ∷ [];
  from = item.Comma (source.Table table) ∷ [];
  conjuncts = [];
  grouping = None;
})

-- SET V = (SELECT A FROM T)
abbrev pub reads_t : BoundStmt
reads_t = bound.Set (record { slot = 0; data_type = type.Integer })
    (expr.Single (query.Select (all_of (codes "T"))))

-- DELETE FROM U
abbrev pub empties_u : BoundStmt
empties_u = bound.Delete (record { table = codes "U"; rows = query.Select (all_of (codes "U")) })

-- CALL a procedure with one argument
abbrev pub calls : List ℕ → BoundExpr → BoundStmt
calls name e = bound.Call (record { procedure = name; arguments = argument.Value e ∷ [] })

-- F (V)
abbrev pub f_of_v : BoundExpr
f_of_v = expr.Call (codes "F") (expr.Variable 0 ∷ [])

-- ---- the catalog

-- a table of one INTEGER column, A
abbrev pub table : List ℕ → Entry
table name = record {
  name = name;
  object = TableObject
      (record {
        columns = record { name = codes "A"; data_type = type.Integer; not_null = false } ∷ [];
        key = [];
      });
}

-- F (INTEGER) RETURNS INTEGER
abbrev pub function_f : Entry
function_f = record {
  name = codes "F";
  object = InterpretedObject
      (record {
        parameters = type.Integer ∷ [];
        returns = type.Integer;
        access = ModifiesSqlData;
        height = 1;
        weight = 1;
        uses = [];
        null_call = false;
        self_calling = false;
        body = bound.Return (expr.Variable 0);
      });
}

-- a procedure of one IN parameter, with what its head says of its uses, and its body
abbrev pub procedure : List ℕ → UsedNames → BoundStmt → Entry
procedure name uses body = record {
  name = name;
  object = ProcedureObject
      (record {
        modes = mode.In ∷ [];
        parameters = type.Integer ∷ [];
        access = ModifiesSqlData;
        height = 1;
        weight = 1;
        uses = uses;
        self_calling = false;
        body = body;
      });
}

-- P (IN V INTEGER): SET V = (SELECT A FROM T)
abbrev pub procedure_p : Entry
procedure_p = procedure (codes "P") (codes "T" ∷ []) reads_t

-- Q (IN V INTEGER): CALL Q (F (V))
abbrev pub procedure_q : Entry
procedure_q = procedure (codes "Q") (codes "F" ∷ []) (calls (codes "Q") f_of_v)

-- T, U, F and P, in the order of their making
abbrev pub known : Catalog
known = table (codes "T") ∷ table (codes "U") ∷ function_f ∷ procedure_p ∷ []

-- ---- how names are seen

-- a table of the catalog
abbrev pub table_in : Option Object → Option RowType
table_in (Some (TableObject t)) = Some t
table_in _ = None

-- the head of a function, of which typing reads the types alone
abbrev pub function_in : Option Object → Option FunctionHead
function_in (Some (InterpretedObject f)) = Some
    (record {
      parameters = f.parameters;
      returns = f.returns;
      access = f.access;
      height = f.height;
      weight = f.weight;
      uses = f.uses;
    })
function_in _ = None

-- the head of a procedure
abbrev pub procedure_in : Option Object → Option ProcedureHead
procedure_in (Some (ProcedureObject p)) = Some
    (record {
      modes = p.modes;
      parameters = p.parameters;
      access = p.access;
      height = p.height;
      weight = p.weight;
      uses = p.uses;
    })
procedure_in _ = None

-- outside of routines
abbrev pub outside : Resolution
outside = record {
  table = λ name o. table_in o;
  function = λ name o. function_in o;
  procedure = λ name o. procedure_in o;
}

-- in the body of Q, which is known there before it is made
abbrev pub in_q : Resolution
in_q = in_routine (codes "Q") None (procedure_in (Some procedure_q.object)) outside

-- in the body of a procedure with one parameter, V
abbrev pub inside : Resolution → Catalog → Inside
inside r catalog = inside_with (objects_in r catalog)
    (record {
      around = record {
        rows = [];
        slots = stored type.Integer ∷ [];
        tables = λ name. None;
        functions = λ name. None;
      };
      cursors = [];
      outer = [];
      returns = None;
      procedures = λ name. None;
    })

-- ---- rows

-- the names of statements, in the order of the text
pub record StatementsUseNames : Type 0 where
  pub reads : statement_names reads_t ≡ codes "T" ∷ []
  -- the table that is written, and the one that is read
  pub writes : statement_names empties_u ≡ codes "U" ∷ codes "U" ∷ []
  pub calls : statement_names (calls (codes "Q") f_of_v) ≡ codes "Q" ∷ codes "F" ∷ []
  -- IF with a branch that uses T, and ELSE that uses U
  pub branches : stmt_names (BoundStmt-F.If ((codes "T" ∷ []) ∷ []) ((codes "U" ∷ []) ∷ [])) ≡
      codes "T" ∷ codes "U" ∷ []
  -- BEGIN with a handler whose action uses P, and a statement that uses F
  pub compound : block_names (record {
    atomic = false;
    variables = [];
    first_cursor = 0;
    cursors = [];
    handlers = (codes "P" ∷ []) ∷ [];
    statements = (codes "F" ∷ []) ∷ [];
  }) ≡ codes "P" ∷ codes "F" ∷ []
  -- a cursor is no name of the catalog
  pub opened : stmt_names (BoundStmt-F.Open 0) ≡ []

-- Each body is well typed over all of the catalog, and over less, where its names still stand.
pub record BodiesOutlastOthers : Type 0 where
  -- the body of P, which reads T, without U, and without T
  pub read : is_typed reads_t (inside outside known) ≡ true
  pub read_without_other : is_typed reads_t (inside outside (without (codes "U") known)) ≡ true
  pub read_without_own : is_typed reads_t (inside outside (without (codes "T") known)) ≡ false
  -- nothing uses U, and P uses T
  pub users : users_of (codes "U") known ≡ 0
  pub users_of_read : users_of (codes "T") known ≡ 1
  -- DELETE FROM U, without T, and without U
  pub written_without_other : is_typed empties_u (inside outside (without (codes "T") known)) ≡ true
  pub written_without_own : is_typed empties_u (inside outside (without (codes "U") known)) ≡ false
  -- CALL P (F (V)), without T, without F, and without P
  pub called_without_other : is_typed (calls (codes "P") f_of_v)
      (inside outside (without (codes "T") known)) ≡ true
  pub called_without_function : is_typed (calls (codes "P") f_of_v)
      (inside outside (without (codes "F") known)) ≡ false
  pub called_without_procedure : is_typed (calls (codes "P") f_of_v)
      (inside outside (without (codes "P") known)) ≡ false
  -- the body of Q, which calls Q, before Q is made and afterwards; outside of Q only afterwards
  pub itself_before : is_typed (calls (codes "Q") f_of_v) (inside in_q known) ≡ true
  pub itself_after : is_typed (calls (codes "Q") f_of_v)
      (inside in_q (known ++ procedure_q ∷ [])) ≡ true
  pub other_before : is_typed (calls (codes "Q") f_of_v) (inside outside known) ≡ false
  pub other_after : is_typed (calls (codes "Q") f_of_v)
      (inside outside (known ++ procedure_q ∷ [])) ≡ true
