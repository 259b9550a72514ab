-- That bound trees stay well typed while other things are made and dropped: typing looks at the
-- names that a tree uses, and at nothing else of the catalog. ISO/IEC 9075-2, 4.17 (schemas), 11.31
-- and 11.62 (drop statements) and 11.60 (SQL-invoked routine).
use Rattle.std.specs.Prelude.{◌≡◌, ℕ, Bool, false, not, List, [], ◌∷◌, ◌++◌, filter, Option, None}
use Rattle.std.specs.Prelude.{Some, if◌then◌else◌}
use Rattle.std.specs.List.{list_any}
use Rattle.std.specs.Str.{bytes_eq}
use Rattle.row_types.specs.declared.RowType.{RowType}
use Rattle.bound_trees.specs.declared.expr.BoundExpr.{BoundExpr}
use Rattle.bound_trees.specs.declared.query.BoundQuery.{BoundQuery}
use Rattle.bound_trees.specs.declared.statement.BoundStmt.{BoundStmt}
use Rattle.catalog_store.specs.declared.entry.FunctionHead.{FunctionHead}
use Rattle.catalog_store.specs.declared.entry.ProcedureHead.{ProcedureHead}
use Rattle.catalog_store.specs.Catalog.{Object, TableObject, FunctionObject, InterpretedObject}
use Rattle.catalog_store.specs.Catalog.{ProcedureObject, Entry, Catalog, object_named}
use Rattle.catalog_store.specs.Users.{users_of, without}
use Rattle.catalog_store.specs.Uses.{SameNames, UsesStand}
use Rattle.typing_trees.specs.Around.{Around}
use Rattle.typing_trees.specs.Queries.{kind_of, kinds_of_query}
use Rattle.typing_trees.specs.Statements.{Inside, is_typed}
use Rattle.typing_lasting.specs.Used.{UsedNames, expr_names, query_names, statement_names}

-- ---- what names stand for

-- the tables, functions and procedures that names stand for
pub record Objects : Type 0 where
  pub tables : List ℕ → Option RowType
  pub functions : List ℕ → Option FunctionHead
  pub procedures : List ℕ → Option ProcedureHead

-- what stands around an expression or query, where names stand for these
abbrev pub around_with : Objects → Around → Around
around_with o a = record {
  rows = a.rows;
  slots = a.slots;
  tables = o.tables;
  functions = o.functions;
}

-- what stands around a statement, where names stand for these
abbrev pub inside_with : Objects → Inside → Inside
inside_with o i = record {
  around = around_with o i.around;
  cursors = i.cursors;
  outer = i.outer;
  returns = i.returns;
  procedures = o.procedures;
}

-- a name stands for the same table, function and procedure
pub record SameAt (m n : Objects) (name : List ℕ) : Type 0 where
  pub tables : m.tables name ≡ n.tables name
  pub functions : m.functions name ≡ n.functions name
  pub procedures : m.procedures name ≡ n.procedures name

-- each of these names stands for the same
abbrev pub AllSame : Objects → Objects → UsedNames → Type 0
AllSame m n [] = Unit {0}
AllSame m n (name ∷ names) = SameAt m n name × AllSame m n names

-- Where the names that a tree uses are such, its typing is the same whichever of these two names
-- stand for.
pub record SameTyping (Such : UsedNames → Type 0) (m n : Objects) : Type 0 where
  pub expressions : (e : BoundExpr) → Such (expr_names e) → (a : Around) →
      kind_of e (around_with m a) ≡ kind_of e (around_with n a)
  pub queries : (q : BoundQuery) → Such (query_names q) → (a : Around) →
      kinds_of_query q (around_with m a) ≡ kinds_of_query q (around_with n a)
  pub statements : (s : BoundStmt) → Such (statement_names s) → (i : Inside) →
      is_typed s (inside_with m i) ≡ is_typed s (inside_with n i)

-- Typing looks at the names that are used, and at no other.
abbrev pub UsedNamesDecide : Type 0
UsedNamesDecide = (m n : Objects) → SameTyping (AllSame m n) m n

-- ---- by a catalog

-- What a tree sees of a name, by the object of that name in the catalog; in the body of a routine
-- the routine's own name is seen otherwise than outside.
pub record Resolution : Type 0 where
  pub table : List ℕ → Option Object → Option RowType
  pub function : List ℕ → Option Object → Option FunctionHead
  pub procedure : List ℕ → Option Object → Option ProcedureHead

-- what names stand for, by the catalog
abbrev pub objects_in : Resolution → Catalog → Objects
objects_in r known = record {
  tables = λ name. r.table name (object_named name known);
  functions = λ name. r.function name (object_named name known);
  procedures = λ name. r.procedure name (object_named name known);
}

-- the one where it is the routine's own name, and else the other
abbrev pub own_or : {A : Type 0} → List ℕ → Option A → List ℕ → Option A → Option A
own_or own mine name other = if bytes_eq own name then mine else other

-- in the body of a routine, whose own name is that of this function or procedure, and hides one of
-- the catalog
abbrev pub in_routine : List ℕ → Option FunctionHead → Option ProcedureHead → Resolution →
    Resolution
in_routine own function procedure r = record {
  table = r.table;
  function = λ name o. own_or own function name (r.function name o);
  procedure = λ name o. own_or own procedure name (r.procedure name o);
}

-- a name is seen the same, whether it stands for the one or for the other
pub record SeenSame (r : Resolution) (name : List ℕ) (o p : Option Object) : Type 0 where
  pub table : r.table name o ≡ r.table name p
  pub function : r.function name o ≡ r.function name p
  pub procedure : r.procedure name o ≡ r.procedure name p

-- each of these names stands for the same in both catalogs
abbrev pub StandSame : Catalog → Catalog → UsedNames → Type 0
StandSame known more [] = Unit {0}
StandSame known more (name ∷ names) = (object_named name more ≡ object_named name known) ×
    StandSame known more names

-- In two catalogs where the names that a tree uses stand for the same, its typing is the same.
abbrev pub SameCatalogsDecide : Type 0
SameCatalogsDecide = (r : Resolution) (known more : Catalog) → SameTyping (StandSame known more)
    (objects_in r more) (objects_in r known)

-- ---- making

-- More entries leave the typing of each tree whose names stand for something before.
abbrev pub MakingLeavesTyped : Type 0
MakingLeavesTyped = (r : Resolution) (known more : Catalog) → SameTyping (UsesStand known)
    (objects_in r (known ++ more)) (objects_in r known)

-- the names beside a routine's own
abbrev pub beside : List ℕ → UsedNames → UsedNames
beside own names = filter (λ used. not (bytes_eq used own)) names

-- The body of a routine that calls itself may use its own name beside those that stand for
-- something: its typing is the same before the routine is made and afterwards, whatever is made
-- later, where its own name is seen the same.
abbrev pub MakingLeavesItself : Type 0
MakingLeavesItself = (r : Resolution) (known : Catalog) (entry : Entry) (later : Catalog) →
    SeenSame r entry.name (Some entry.object) None →
    SameTyping (λ names. UsesStand known (beside entry.name names))
    (objects_in r (known ++ entry ∷ later)) (objects_in r known)

-- ---- dropping

-- whether a name is among those that are used
abbrev pub is_used : List ℕ → UsedNames → Bool
is_used name names = list_any (λ used. bytes_eq used name) names

-- An entry less leaves the typing of each tree that doesn't use its name.
abbrev pub DroppingLeavesTyped : Type 0
DroppingLeavesTyped = (r : Resolution) (known : Catalog) (name : List ℕ) → SameTyping
    (λ names. is_used name names ≡ false) (objects_in r (without name known)) (objects_in r known)

-- the names that an object uses, by its head
abbrev pub head_uses : Object → UsedNames
head_uses (TableObject row_type) = []
head_uses (FunctionObject f) = f.uses
head_uses (InterpretedObject f) = f.uses
head_uses (ProcedureObject p) = p.uses

-- An entry that no other uses may be dropped: of each other routine whose head lists what its body
-- uses, itself aside, the body keeps its typing.
abbrev pub UnusedLeavesTyped : Type 0
UnusedLeavesTyped = (r : Resolution) (known : Catalog) (name own : List ℕ) (o : Object) →
    users_of name known ≡ 0 → object_named own known ≡ Some o → ¬ (own ≡ name) →
    SameTyping (λ names. SameNames (head_uses o) (beside own names))
    (objects_in r (without name known)) (objects_in r known)
