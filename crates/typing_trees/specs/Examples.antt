-- Worked rows: what is well typed and what isn't.
use Rattle.std.specs.Prelude.{◌≡◌, ℕ, pos, Bool, true, false, if◌then◌else◌, List, [], ◌∷◌, Option}
use Rattle.std.specs.Prelude.{None, Some, codes}
use Rattle.std.specs.Str.{bytes_eq}
use Rattle.sql_values.specs.declared.fold.FoldKind.{FoldKind}
use Rattle.sql_values.specs.declared.fold.FoldKind.TheVariants.{Sum, Max}
use Rattle.sql_values.specs.declared.operators.Comparison.TheVariants.{Equals}
use Rattle.sql_values.specs.declared.operators.Operator.{Operator}
use Rattle.sql_values.specs.declared.operators.Operator.TheVariants.{Add, Concatenate}
use Rattle.sql_values.specs.declared.value.SqlType.{SqlType}
use Rattle.sql_values.specs.declared.value.SqlType.TheVariants as type
use Rattle.sql_values.specs.declared.value.Value.TheVariants as value
use Rattle.row_types.specs.declared.ColumnType.{ColumnType}
use Rattle.row_types.specs.declared.RowType.{RowType}
use Rattle.row_types.specs.declared.sort_key.SortKey.{SortKey}
use Rattle.bound_trees.specs.declared.condition.BoundArea.TheVariants.{Current}
use Rattle.bound_trees.specs.declared.condition.BoundInformation.TheVariants as information
use Rattle.bound_trees.specs.declared.condition.BoundStatementItem.TheVariants.{RowCount}
use Rattle.bound_trees.specs.declared.expr.BoundExpr.{BoundExpr}
use Rattle.bound_trees.specs.declared.expr.BoundExpr.TheOpen.{BoundExpr-F, BoundFromItem-F}
use Rattle.bound_trees.specs.declared.expr.BoundExpr.TheOpen.{BoundQuery-F, BoundSource-F}
use Rattle.bound_trees.specs.declared.expr.BoundExpr.TheVariants as bound
use Rattle.bound_trees.specs.declared.expr.BoundOperation.TheVariants as word
use Rattle.bound_trees.specs.declared.statement.BoundArgument.{BoundArgument}
use Rattle.bound_trees.specs.declared.statement.BoundArgument.TheVariants as argument
use Rattle.bound_trees.specs.declared.statement.BoundCall.{BoundCall}
use Rattle.bound_trees.specs.declared.statement.BoundStmt.TheOpen.{BoundStmt-F}
use Rattle.bound_trees.specs.declared.statement.BoundTarget.{BoundTarget}
use Rattle.bound_trees.specs.declared.statement.BoundVariables.{BoundVariables}
use Rattle.catalog_store.specs.declared.entry.DataAccess.TheVariants.{ContainsSql}
use Rattle.catalog_store.specs.declared.entry.FunctionHead.{FunctionHead}
use Rattle.catalog_store.specs.declared.entry.ParameterMode.TheVariants as mode
use Rattle.catalog_store.specs.declared.entry.ProcedureHead.{ProcedureHead}
use Rattle.bind_kinds.specs.declared.kind.Kind.{Kind}
use Rattle.bind_kinds.specs.declared.kind.Kind.TheVariants.{Integer, Text, Boolean, Null}
use Rattle.typing_trees.specs.Around.{Around, stored, read}
use Rattle.typing_trees.specs.Queries.{ExprKind, QueryKinds, FromKinds, LinkKind, GroupKinds}
use Rattle.typing_trees.specs.Queries.{nothing_joined, items_joined, expr_kind, item_kinds}
use Rattle.typing_trees.specs.Queries.{query_kinds, source_kinds, select_kinds}
use Rattle.typing_trees.specs.Statements.{Inside, Typed, TypedHandler, call_typed, stmt_typed}
use Rattle.typing_trees.specs.Statements.{block_typed}

-- ---- what stands around

-- F (INTEGER, INTEGER) RETURNS VARCHAR(10)
abbrev pub function_f : FunctionHead
function_f = record {
  parameters = type.Integer ∷ type.Integer ∷ [];
  returns = type.Varchar 10;
  access = ContainsSql;
  height = 1;
  weight = 1;
  uses = [];
}

-- P (IN INTEGER, OUT INTEGER)
abbrev pub procedure_p : ProcedureHead
procedure_p = record {
  modes = mode.In ∷ mode.Out ∷ [];
  parameters =
      type.Integer ∷ type.Integer ∷ [];
  access = ContainsSql;
  height = 1;
  weight = 1;
  uses = [];
}

-- a column of a table, without NOT NULL
abbrev pub column_of : List ℕ → SqlType → ColumnType
column_of name t = record { name = name; data_type = t; not_null = false }

-- T (A INTEGER, B VARCHAR(10))
abbrev pub table_t : RowType
table_t = record {
  columns = column_of (codes "A") type.Integer ∷ column_of (codes "B")
      (type.Varchar 10) ∷ [];
  key = [];
}

-- what stands for one name
abbrev pub only : {A : Type 0} → List ℕ → A → List ℕ → Option A
only own x name = if bytes_eq own name then Some x else None

-- In a query over rows of a number and a text, inside one over rows of a truth value. The slots are
-- those of a number, of a text of 10, and of a column of FOR.
abbrev pub here : Around
here =
    record {
      rows = (Integer ∷ Text ∷ []) ∷ (Boolean ∷ []) ∷ [];
      slots = stored type.Integer ∷ stored (type.Varchar 10) ∷ read Integer ∷ [];
      tables = only (codes "T") table_t;
      functions = only (codes "F") function_f;
    }

-- ---- expressions

-- an expression of a kind
abbrev pub of : Kind → ExprKind
of k a = Some k

-- a column's name, bound
abbrev pub column : ℕ → ℕ → ExprKind
column level place = expr_kind (BoundExpr-F.Column level place)

-- an operator with an operand of this kind
abbrev pub link : Operator → Kind → LinkKind
link operator k = record { operator = operator; operand = of k }

-- a query whose columns are of these kinds
abbrev pub columns : List Kind → QueryKinds
columns ks a = Some ks

-- columns, variables, words, chains and calls
pub record ExpressionsHaveKinds : Type 0 where
  -- the row's columns, those of the row outside, and no row
  pub column : expr_kind (BoundExpr-F.Column 0 1) here ≡ Some Text
  pub column_too_far : expr_kind (BoundExpr-F.Column 0 2) here ≡ None
  pub outwards : expr_kind (BoundExpr-F.Column 1 0) here ≡ Some Boolean
  pub row_too_far : expr_kind (BoundExpr-F.Column 2 0) here ≡ None
  pub slot : expr_kind (BoundExpr-F.Variable 2) here ≡ Some Integer
  pub slot_too_far : expr_kind (BoundExpr-F.Variable 3) here ≡ None
  pub null : expr_kind (BoundExpr-F.Literal value.Null) here ≡ Some Null
  -- 1 + NULL, 1 + 'a' and 1 + 2 || 'a'
  pub sum : expr_kind (BoundExpr-F.Chain (of Integer) (link Add Null ∷ [])) here ≡ Some Integer
  pub sum_of_text : expr_kind (BoundExpr-F.Chain (of Integer) (link Add Text ∷ [])) here ≡ None
  pub sum_beside_text : expr_kind (BoundExpr-F.Chain (of Integer)
      (link Add Integer ∷ link Concatenate Text ∷ [])) here ≡ None
  -- 1 = NULL and 1 = 'a'
  pub equal : expr_kind (BoundExpr-F.Operation (word.Comparing Equals) (of Integer ∷ of Null ∷ []))
      here ≡ Some Boolean
  pub equal_text : expr_kind (BoundExpr-F.Operation (word.Comparing Equals)
      (of Integer ∷ of Text ∷ [])) here ≡ None
  -- CASE WHEN TRUE THEN NULL WHEN NULL THEN 'a' ELSE NULL END
  pub searched_case : expr_kind (BoundExpr-F.Operation word.Case
      (of Boolean ∷ of Null ∷ of Null ∷ of Text ∷ of Null ∷ [])) here ≡ Some Text
  -- CASE WHEN TRUE THEN 1 ELSE 'a' END, and CASE WHEN 1 THEN 'a' END
  pub mixed_case : expr_kind (BoundExpr-F.Operation word.Case
      (of Boolean ∷ of Integer ∷ of Text ∷ [])) here ≡ None
  pub case_of_number : expr_kind (BoundExpr-F.Operation word.Case (of Integer ∷ of Text ∷ []))
      here ≡ None
  -- CASE 1 WHEN 2 THEN 'a' ELSE 'b' END, and CASE 1 WHEN 'a' THEN 'b' END
  pub simple_case : expr_kind (BoundExpr-F.Operation word.CaseOf
      (of Integer ∷ of Integer ∷ of Text ∷ of Text ∷ [])) here ≡ Some Text
  pub simple_case_of_text : expr_kind (BoundExpr-F.Operation word.CaseOf
      (of Integer ∷ of Text ∷ of Text ∷ [])) here ≡ None
  -- CAST (TRUE AS INTEGER), and CAST (TRUE AS VARCHAR(10))
  pub truth_as_number : expr_kind (BoundExpr-F.Operation (word.Cast type.Integer) (of Boolean ∷ []))
      here ≡ None
  pub truth_as_text : expr_kind (BoundExpr-F.Operation (word.Cast (type.Varchar 10))
      (of Boolean ∷ [])) here ≡ Some Text
  -- F (1, NULL), F (1), F (1, 'a') and G (1, NULL)
  pub called : expr_kind (BoundExpr-F.Call (codes "F") (of Integer ∷ of Null ∷ [])) here ≡ Some Text
  pub argument_missing : expr_kind (BoundExpr-F.Call (codes "F") (of Integer ∷ [])) here ≡ None
  pub argument_of_text : expr_kind (BoundExpr-F.Call (codes "F") (of Integer ∷ of Text ∷ [])) here ≡
      None
  pub no_function : expr_kind (BoundExpr-F.Call (codes "G") (of Integer ∷ of Null ∷ [])) here ≡ None
  -- subqueries of one column, and of two
  pub single : expr_kind (BoundExpr-F.Single (columns (Text ∷ []))) here ≡ Some Text
  pub single_of_two : expr_kind (BoundExpr-F.Single (columns (Text ∷ Text ∷ []))) here ≡ None
  pub exists_of_two : expr_kind (BoundExpr-F.Exists (columns (Text ∷ Text ∷ []))) here ≡
      Some Boolean
  pub within : expr_kind (BoundExpr-F.In (of Text) (columns (Text ∷ []))) here ≡ Some Boolean
  pub within_numbers : expr_kind (BoundExpr-F.In (of Text) (columns (Integer ∷ []))) here ≡ None

-- ---- queries

-- a column of ORDER BY, ascending
abbrev pub key : ℕ → SortKey
key place = record { place = place; descending = false }

-- FROM (rows of a number), (rows of a text) JOIN (rows of a truth value) ON a test
abbrev pub from_on : ExprKind → List FromKinds
from_on test =
    item_kinds (BoundFromItem-F.Comma (columns (Integer ∷ []))) ∷ item_kinds
    (BoundFromItem-F.Comma (columns (Text ∷ [])))
    ∷ item_kinds (BoundFromItem-F.Inner (columns (Boolean ∷ [])) (test ∷ [])) ∷ []

-- SELECT what stands in T, WHERE a test
abbrev pub from_t : List ExprKind → List ExprKind → Option GroupKinds → QueryKinds
from_t items tests grouping =
    select_kinds (record {
      items = items;
      from =
          item_kinds (BoundFromItem-F.Comma (source_kinds (BoundSource-F.Table (codes "T")))) ∷ [];
      conjuncts = tests;
      grouping = grouping;
    })

-- GROUP BY a column of T, with an aggregate of another, HAVING tests
abbrev pub by : ℕ → FoldKind → ℕ → List ExprKind → Option GroupKinds
by grouping aggregate argument tests =
    Some (record {
      keys = 1;
      parts = column 0 grouping ∷ column 0 argument ∷ [];
      aggregates =
          aggregate ∷ [];
      having = tests;
    })

-- VALUES, FROM with its joins, groups and ORDER BY
pub record QueriesHaveKinds : Type 0 where
  -- VALUES (1, NULL), (NULL, 'a')
  pub rows : query_kinds (BoundQuery-F.Values
      ((of Integer ∷ of Null ∷ []) ∷ (of Null ∷ of Text ∷ []) ∷ [])) here ≡
      Some (Integer ∷ Text ∷ [])
  -- VALUES (1, 2), (3), and VALUES (1), ('a')
  pub rows_of_other_length : query_kinds (BoundQuery-F.Values
      ((of Integer ∷ of Integer ∷ []) ∷ (of Integer ∷ []) ∷ [])) here ≡ None
  pub rows_of_other_kind : query_kinds (BoundQuery-F.Values
      ((of Integer ∷ []) ∷ (of Text ∷ []) ∷ [])) here ≡ None
  -- ORDER BY the second of two columns, and the third
  pub ordered : query_kinds (BoundQuery-F.Ordered (columns (Integer ∷ Text ∷ [])) (key 1 ∷ []))
      here ≡ Some (Integer ∷ Text ∷ [])
  pub ordered_too_far : query_kinds (BoundQuery-F.Ordered (columns (Integer ∷ Text ∷ []))
      (key 2 ∷ [])) here ≡ None
  -- ON sees the text and the truth value, and no number before the last comma
  pub on : items_joined here nothing_joined (from_on (column 0 1)) ≡
      Some (record { before = Integer ∷ []; joined = Text ∷ Boolean ∷ [] })
  pub on_whole_row : items_joined here nothing_joined (from_on (column 0 2)) ≡ None
  -- SELECT B FROM T; WHERE A is no test; the row outside is one further out
  pub selected : from_t (column 0 1 ∷ []) [] None here ≡ Some (Text ∷ [])
  pub where_number : from_t (column 0 1 ∷ []) (column 0 0 ∷ []) None here ≡ None
  pub row_outside : from_t (column 2 0 ∷ []) (column 2 0 ∷ []) None here ≡ Some (Boolean ∷ [])
  -- SELECT B, SUM (A) FROM T GROUP BY B
  pub grouped : from_t (column 0 0 ∷ column 0 1 ∷ []) [] (by 1 Sum 0 []) here ≡
      Some (Text ∷ Integer ∷ [])
  -- SUM (B), and HAVING MAX (B)
  pub sum_of_text : from_t (column 0 0 ∷ []) [] (by 0 Sum 1 []) here ≡ None
  pub having_text : from_t (column 0 0 ∷ []) [] (by 0 Max 1 (column 0 1 ∷ [])) here ≡ None
  -- the row of a group has its two columns alone
  pub no_column_of_group : from_t (column 0 2 ∷ []) [] (by 0 Max 1 []) here ≡ None

-- ---- statements

-- with P and one cursor over rows of a number and a text, and no compound statement or loop around
abbrev pub inside : Inside
inside = record {
  around = here;
  cursors = (Integer ∷ Text ∷ []) ∷ [];
  outer = [];
  returns = None;
  procedures = only (codes "P") procedure_p;
}

-- the same in a function that returns a number
abbrev pub in_function : Inside
in_function = record {
  around = here;
  cursors = [];
  outer = [];
  returns = Some type.Integer;
  procedures = only (codes "P") procedure_p;
}

-- a number
abbrev pub one : BoundExpr
one = bound.Literal (value.Int (pos 1))

-- a text
abbrev pub letter : BoundExpr
letter = bound.Literal (value.Str (codes "a"))

-- a variable that is stored into, with its type
abbrev pub target : ℕ → SqlType → BoundTarget
target slot t = record { slot = slot; data_type = t }

-- SET of this variable
abbrev pub set : ℕ → SqlType → BoundExpr → Typed
set slot t e = stmt_typed (BoundStmt-F.Set (target slot t) e)

-- LEAVE of the statement so many levels outwards
abbrev pub leave : ℕ → Typed
leave level = stmt_typed (BoundStmt-F.Leave level)

-- ITERATE of the loop so many levels outwards
abbrev pub iterate : ℕ → Typed
iterate level = stmt_typed (BoundStmt-F.Iterate level)

-- LOOP with one statement
abbrev pub loop : Typed → Typed
loop s = stmt_typed (BoundStmt-F.Loop (s ∷ []))

-- BEGIN with variables, handlers and statements
abbrev pub compound : Bool → List BoundVariables → List TypedHandler → List Typed → Typed
compound atomic vs hs ss =
    stmt_typed
    (BoundStmt-F.Block (block_typed (record {
      atomic = atomic;
      variables = vs;
      first_cursor = 1;
      cursors = [];
      handlers = hs;
      statements = ss;
    })))

-- CONTINUE or UNDO, and its action
abbrev pub handler : Bool → Typed → TypedHandler
handler undoes action = record { undoes = undoes; action = action }

-- DECLARE one INTEGER variable with a default
abbrev pub variable : ℕ → BoundExpr → BoundVariables
variable slot e = record { first = slot; count = 1; data_type = type.Integer; default = Some e }

-- CALL P
abbrev pub call : List BoundArgument → BoundCall
call arguments = record { procedure = codes "P"; arguments = arguments }

-- what is stored, where LEAVE and ITERATE may go, and what is returned
pub record StatementsAreTyped : Type 0 where
  -- SET of a number, and of a text, to the number's slot
  pub set_number : set 0 type.Integer one inside ≡ true
  pub set_text : set 0 type.Integer letter inside ≡ false
  -- into the text's slot as one of 5
  pub set_shorter : set 1 (type.Varchar 5) letter inside ≡ false
  -- into the column of FOR
  pub set_column : set 2 type.Integer one inside ≡ false
  -- LEAVE in BEGIN, and further outwards than there is something
  pub left : compound false [] [] (leave 0 ∷ []) inside ≡ true
  pub left_too_far : compound false [] [] (leave 1 ∷ []) inside ≡ false
  -- ITERATE in LOOP, and in BEGIN
  pub iterated : loop (iterate 0) inside ≡ true
  pub iterated_compound : compound false [] [] (iterate 0 ∷ []) inside ≡ false
  -- A handler's action doesn't leave the compound statement that declares the handler, but one in
  -- it, and a loop around.
  pub left_declaring : compound false [] (handler false (leave 0) ∷ []) [] inside ≡ false
  pub left_in_action : compound false [] (handler false (compound false [] [] (leave 0 ∷ [])) ∷ [])
      [] inside ≡ true
  pub left_around : loop (compound false [] (handler false (leave 1) ∷ []) []) inside ≡ true
  -- UNDO in BEGIN, and in BEGIN ATOMIC
  pub undone : compound false [] (handler true (set 0 type.Integer one) ∷ []) [] inside ≡ false
  pub undone_atomic : compound true [] (handler true (set 0 type.Integer one) ∷ []) [] inside ≡ true
  -- FETCH into two variables, and into one; OPEN of no cursor
  pub fetched : stmt_typed (BoundStmt-F.Fetch 0
      (target 0 type.Integer ∷ target 1 (type.Varchar 10) ∷ [])) inside ≡ true
  pub fetched_into_one : stmt_typed (BoundStmt-F.Fetch 0 (target 0 type.Integer ∷ [])) inside ≡
      false
  pub no_cursor : stmt_typed (BoundStmt-F.Open 1) inside ≡ false
  -- RETURN in a function that returns a number, and elsewhere
  pub returned : stmt_typed (BoundStmt-F.Return one) in_function ≡ true
  pub returned_text : stmt_typed (BoundStmt-F.Return letter) in_function ≡ false
  pub returned_elsewhere : stmt_typed (BoundStmt-F.Return one) inside ≡ false
  -- CALL with a variable for OUT, with a value, with a variable of a text, and from the script
  pub called : call_typed false
      (call (argument.Value one ∷ argument.Variable (target 0 type.Integer) ∷ [])) inside ≡ true
  pub value_for_out : call_typed false (call (argument.Value one ∷ argument.Value one ∷ []))
      inside ≡ false
  pub text_for_out : call_typed false (call (argument.Value one ∷ argument.Variable
      (target 1 (type.Varchar 10)) ∷ [])) inside ≡ false
  pub given : call_typed true (call (argument.Value one ∷ argument.Given ∷ [])) inside ≡ true
  -- DECLARE V INTEGER DEFAULT another variable, and itself
  pub default : compound false (variable 3 (bound.Variable 0) ∷ []) [] [] inside ≡ true
  pub default_itself : compound false (variable 3 (bound.Variable 3) ∷ []) [] [] inside ≡ false
  -- its slot is the next one
  pub slot_left_out : compound false (variable 4 one ∷ []) [] [] inside ≡ false
  -- IF 1
  pub if_number : stmt_typed (BoundStmt-F.If (record { test = of Integer; body = [] } ∷ []) [])
      inside ≡ false
  -- SIGNAL with a number as its text, and GET DIAGNOSTICS of a number into a text
  pub signalled_number : stmt_typed (BoundStmt-F.Signal
      (record { state = codes "45000"; message = Some one })) inside ≡ false
  pub read_into_text : stmt_typed (BoundStmt-F.GetDiagnostics
      (record {
        area = Current;
        information =
            information.Statement (record { item = RowCount; target = target 1 (type.Varchar 10) } ∷ []);
      })) inside ≡ false
