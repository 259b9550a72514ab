-- Worked rows: what the grammar reads, and which constructs are open by the tokens alone.
use Rattle.std.specs.Prelude.{◌≡◌, ℕ, zero, suc, ◌+◌, ◌-◌, ◌*◌, List, [], ◌∷◌, ◌++◌, Some, None}
use Rattle.std.specs.Prelude.{true, false, Ok, Err, pos, codes, drop, refl}
use Rattle.sql_lex.specs.declared.sign.Sign.{Sign}
use Rattle.sql_lex.specs.declared.sign.Sign.TheVariants as s
use Rattle.sql_lex.specs.declared.token.Lexeme.{Lexeme}
use Rattle.sql_lex.specs.declared.token.Lexeme.TheVariants as lexeme
use Rattle.sql_lex.specs.declared.token.Token.{Token}
use Rattle.sql_lex.specs.declared.word.Word.{Word}
use Rattle.sql_lex.specs.declared.word.Word.TheVariants as w
use Rattle.sql_values.specs.declared.fold.FoldKind.TheVariants as fold
use Rattle.sql_values.specs.declared.operators.Comparison.TheVariants as cmp
use Rattle.sql_values.specs.declared.operators.Operator.TheVariants as op
use Rattle.syntax_trees.specs.declared.anchor.Anchor.{Anchor}
use Rattle.syntax_trees.specs.declared.anchor.Ident.{Ident}
use Rattle.syntax_trees.specs.declared.data_type.DataType.{DataType}
use Rattle.syntax_trees.specs.declared.data_type.TypeName.{TypeName}
use Rattle.syntax_trees.specs.declared.data_type.TypeName.TheVariants as type
use Rattle.syntax_trees.specs.declared.expr.ChainOperator.{ChainOperator}
use Rattle.syntax_trees.specs.declared.expr.ChainOperator.TheVariants as chain_operator
use Rattle.syntax_trees.specs.declared.expr.Expr.{Expr}
use Rattle.syntax_trees.specs.declared.expr.Expr.TheVariants as e
use Rattle.syntax_trees.specs.declared.expr.Link.{Link, roll-Link}
use Rattle.syntax_trees.specs.declared.expr.Literal.TheVariants as literal_of
use Rattle.syntax_trees.specs.declared.expr.Operation.TheVariants as operation
use Rattle.syntax_trees.specs.declared.expr.TruthTest.TheVariants as test
use Rattle.syntax_trees.specs.declared.query.FromItem.TheVariants as from
use Rattle.syntax_trees.specs.declared.query.Query.{Query}
use Rattle.syntax_trees.specs.declared.query.Query.TheVariants as q
use Rattle.syntax_trees.specs.declared.query.Select.{roll-Select}
use Rattle.syntax_trees.specs.declared.query.SelectItem.TheVariants as item
use Rattle.syntax_trees.specs.declared.query.TableRef.{TableRef}
use Rattle.syntax_trees.specs.declared.query.TableRef.TheVariants as ref
use Rattle.syntax_trees.specs.declared.query.ValueRow.TheVariants as value_row
use Rattle.syntax_trees.specs.declared.query.Values.{roll-Values}
use Rattle.statement_trees.specs.declared.definition.Constraint.TheVariants as constraint
use Rattle.statement_trees.specs.declared.definition.TableElement.TheVariants as element_of
use Rattle.statement_trees.specs.declared.definition.ParameterMode.TheVariants as mode_of
use Rattle.statement_trees.specs.declared.statement.CreateFunction.{roll-CreateFunction}
use Rattle.statement_trees.specs.declared.statement.Stmt.TheVariants as stmt_of
use Rattle.grammar_algebra.specs.Examples.{tokens_of}
use Rattle.grammar_algebra.specs.Reading.{same_kind, reading, NoSpelling, TooDeep}
use Rattle.grammar_algebra.specs.Statement.{most_open}
use Rattle.grammar_sql.specs.Constructs.{open_after}
use Rattle.grammar_sql.specs.Trees.{bracketed, ident, varchar_length, plain_type, varchar}
use Rattle.grammar_sql.specs.Trees.{data_type}
use Rattle.grammar_sql.specs.Expressions.{unqualified, qualified, constant, literal, dotted}
use Rattle.grammar_sql.specs.Expressions.{column_name, named, function_call, aggregate, function}
use Rattle.grammar_sql.specs.Expressions.{case_expression, exists, primary, unary_sign, factor}
use Rattle.grammar_sql.specs.Expressions.{operator, term, sum, comparison_sign, comparison}
use Rattle.grammar_sql.specs.Expressions.{compared, truth_test, not_word, asked, tested, in_word}
use Rattle.grammar_sql.specs.Expressions.{among, predicate_part, predicate, negation, conjunction}
use Rattle.grammar_sql.specs.Expressions.{expr, after, more_exprs, exprs, for_length, as_type}
use Rattle.grammar_sql.specs.Expressions.{all_rows, argument, operands, when_clause}
use Rattle.grammar_sql.specs.Expressions.{more_when_clauses, when_clauses, else_clause, arms, cases}
use Rattle.grammar_sql.specs.Queries.{more_idents, idents, column_list, alias, select_value}
use Rattle.grammar_sql.specs.Queries.{more_select_values, select_values, all_columns, select_list}
use Rattle.grammar_sql.specs.Queries.{named_table, derived_table, table_ref, on_condition}
use Rattle.grammar_sql.specs.Queries.{joined_on, comma_item, cross_join, left_join, inner_join}
use Rattle.grammar_sql.specs.Queries.{from_item, more_from_items, first_item, from_items}
use Rattle.grammar_sql.specs.Queries.{from_clause, filter, more_column_names, column_names}
use Rattle.grammar_sql.specs.Queries.{group_clause, group_by, having, grouping, select_word, select}
use Rattle.grammar_sql.specs.Queries.{row, more_rows, rows, values_word, values, query}
use Rattle.grammar_sql.specs.Queries.{query_or_expr, query_or_exprs, direction, sort_specification}
use Rattle.grammar_sql.specs.Queries.{more_sort_specifications, sort_specifications, order_clause}
use Rattle.grammar_sql.specs.Queries.{order_by, ordered_query}
use Rattle.grammar_sql.specs.Writing.{insertion, into_table, insert_word, insert, assignment}
use Rattle.grammar_sql.specs.Writing.{more_assignments, assignments, set_clause, update_word}
use Rattle.grammar_sql.specs.Writing.{update, from_table, delete_word, delete, parameter_argument}
use Rattle.grammar_sql.specs.Writing.{call_argument, more_call_arguments, call_arguments}
use Rattle.grammar_sql.specs.Writing.{if_call_arguments, call_word, call, dml}
use Rattle.grammar_sql.specs.Conditions.{state_text, state, state_value, exception_value}
use Rattle.grammar_sql.specs.Conditions.{warning_value, not_found, condition_value}
use Rattle.grammar_sql.specs.Conditions.{more_condition_values, condition_values, sqlstate}
use Rattle.grammar_sql.specs.Conditions.{signal_value, message_text, message, if_message}
use Rattle.grammar_sql.specs.Conditions.{signal_word, signal, resignal_word, if_signal_value}
use Rattle.grammar_sql.specs.Conditions.{resignal, statement_item_name, statement_item_value}
use Rattle.grammar_sql.specs.Conditions.{statement_item, more_statement_items, statement_items}
use Rattle.grammar_sql.specs.Conditions.{condition_item_name, condition_item_value, condition_item}
use Rattle.grammar_sql.specs.Conditions.{more_condition_items, condition_items, written_number}
use Rattle.grammar_sql.specs.Conditions.{condition_number, numbered_items, condition_information}
use Rattle.grammar_sql.specs.Conditions.{information, written_area, area, diagnostics, get_word}
use Rattle.grammar_sql.specs.Conditions.{get_diagnostics}
use Rattle.grammar_sql.specs.Statements.{set_word, set_statement, targets, select_into, open_word}
use Rattle.grammar_sql.specs.Statements.{open_statement, close_word, close_statement, fetch_word}
use Rattle.grammar_sql.specs.Statements.{fetch_orientation, fetched_cursor, fetch, leave_word}
use Rattle.grammar_sql.specs.Statements.{leave_statement, iterate_word, iterate_statement}
use Rattle.grammar_sql.specs.Statements.{return_word, return_statement, storing, cursor_statement}
use Rattle.grammar_sql.specs.Statements.{condition_statement, leaving, simple_statement, end_label}
use Rattle.grammar_sql.specs.Statements.{construct, structure, structures, label, if_label}
use Rattle.grammar_sql.specs.Statements.{labelled, labelled_block, if_construct, if_statement}
use Rattle.grammar_sql.specs.Statements.{case_construct, case_statement, stmt, ended, statements}
use Rattle.grammar_sql.specs.Statements.{body, body_after, branch, branch_after, more_branches}
use Rattle.grammar_sql.specs.Statements.{branches, otherwise, if_body, when_branches, case_body}
use Rattle.grammar_sql.specs.Statements.{while_body, repeat_body, for_query, for_body}
use Rattle.grammar_sql.specs.Declarations.{default_clause, variables, condition, cursor}
use Rattle.grammar_sql.specs.Declarations.{named_declaration, named_cursor, handler_type, handled}
use Rattle.grammar_sql.specs.Declarations.{handler, declaration, declarations, atomic, block_body}
use Rattle.grammar_sql.specs.Declarations.{structure_body}
use Rattle.grammar_sql.specs.Definitions.{not_null, key_words, primary_key, column_constraint}
use Rattle.grammar_sql.specs.Definitions.{constraints, column, table_column, table_key, element}
use Rattle.grammar_sql.specs.Definitions.{more_elements, elements, table_definition, create_table}
use Rattle.grammar_sql.specs.Definitions.{parameter, more_parameters, parameters, if_parameters}
use Rattle.grammar_sql.specs.Definitions.{written_mode, mode, modal_parameter}
use Rattle.grammar_sql.specs.Definitions.{more_modal_parameters, modal_parameters}
use Rattle.grammar_sql.specs.Definitions.{if_modal_parameters, language, deterministic}
use Rattle.grammar_sql.specs.Definitions.{not_deterministic, contains_sql, data_access}
use Rattle.grammar_sql.specs.Definitions.{data_characteristic, null_call, null_characteristic}
use Rattle.grammar_sql.specs.Definitions.{characteristic, characteristics, returns_type}
use Rattle.grammar_sql.specs.Definitions.{function_definition, create_function}
use Rattle.grammar_sql.specs.Definitions.{procedure_definition, create_procedure, create_word}
use Rattle.grammar_sql.specs.Definitions.{created, create, object_sort, dropped_name, drop_word}
use Rattle.grammar_sql.specs.Definitions.{drop_object, ddl}
use Rattle.grammar_sql.specs.Sql.{explain_word, explain, other_statement, unended, statement, rules}

-- a word and
abbrev pub wd : Word → Lexeme
wd word = lexeme.Word word

-- a sign as a token
abbrev pub sg : Sign → Lexeme
sg sign = lexeme.Sign sign

-- the name K
abbrev pub k : Lexeme
k = lexeme.Name (codes "K")

-- the name T
abbrev pub t : Lexeme
t = lexeme.Name (codes "T")

-- the number 1
abbrev pub one : Lexeme
one = lexeme.Number (pos 1)

-- the anchor of a token, and what stands at it
abbrev pub at : ℕ → Anchor
at n = record { token = n; line = 1; column = n + 1 }

-- the name K, written at the n-th token
abbrev pub id_k : ℕ → Ident
id_k n = record { name = codes "K"; anchor = at n }

-- the name T, written at the n-th token
abbrev pub id_t : ℕ → Ident
id_t n = record { name = codes "T"; anchor = at n }

-- the column K, written at the n-th token
abbrev pub name_k : ℕ → Expr
name_k n = e.Name (unqualified (id_k n))

-- the literal 1, written at the n-th token
abbrev pub number_one : ℕ → Expr
number_one n = e.Literal (at n) (literal_of.Number (pos 1))

-- the column T, written at the n-th token
abbrev pub name_t : ℕ → Expr
name_t n = e.Name (unqualified (id_t n))

-- an operator at the n-th token with its right operand
abbrev pub link : ChainOperator → ℕ → Expr → Link
link operator n x = roll-Link (record { operator = operator; anchor = at n; operand = x })

-- a data type, written at the n-th token
abbrev pub type_at : ℕ → TypeName → DataType
type_at n name = record { anchor = at n; name = name }

-- INTEGER, written at the n-th token
abbrev pub integer_at : ℕ → DataType
integer_at n = type_at n type.Integer

-- the table K in FROM, written at the n-th token
abbrev pub table_k : ℕ → TableRef
table_k n = ref.Table (id_k n) None

-- the table T in FROM, written at the n-th token
abbrev pub table_t : ℕ → TableRef
table_t n = ref.Table (id_t n) None

-- ---- reading

-- SELECT k + 1, t() FROM t WHERE k <> 1;
abbrev a_select : List Token
a_select = tokens_of (wd w.Select ∷ k ∷ sg s.Plus ∷ one ∷ sg s.Comma ∷ t ∷ sg s.LeftParen ∷
    sg s.RightParen ∷ wd w.From ∷ t ∷ wd w.Where ∷ k ∷ sg s.NotEquals ∷ one ∷ sg s.Semicolon ∷ [])

-- INSERT INTO t VALUES (1, -1), ((k));
abbrev an_insert : List Token
an_insert = tokens_of (wd w.Insert ∷ wd w.Into ∷ t ∷ wd w.Values ∷ sg s.LeftParen ∷ one ∷
    sg s.Comma ∷ sg s.Minus ∷ one ∷ sg s.RightParen ∷ sg s.Comma
    ∷ sg s.LeftParen ∷ sg s.LeftParen ∷ k ∷ sg s.RightParen ∷ sg s.RightParen ∷ sg s.Semicolon ∷ [])

-- CREATE TABLE t (k INT PRIMARY KEY NOT NULL, t VARCHAR (1), k BOOLEAN);
abbrev a_table : List Token
a_table = tokens_of (wd w.Create ∷ wd w.Table ∷ t ∷ sg s.LeftParen ∷ k ∷ wd w.Int ∷ wd w.Primary ∷
    wd w.Key ∷ wd w.Not ∷ wd w.Null ∷ sg s.Comma
    ∷ t ∷ wd w.Varchar ∷ sg s.LeftParen ∷ one ∷ sg s.RightParen ∷ sg s.Comma ∷ k ∷ wd w.Boolean ∷
    sg s.RightParen ∷ sg s.Semicolon ∷ [])

-- CREATE FUNCTION t (k INTEGER) RETURNS INTEGER RETURN k;
abbrev a_function : List Token
a_function = tokens_of (wd w.Create ∷ wd w.Function ∷ t ∷ sg s.LeftParen ∷ k ∷ wd w.Integer ∷
    sg s.RightParen ∷ wd w.Returns ∷ wd w.Integer ∷ wd w.Return ∷ k ∷ sg s.Semicolon ∷ [])

-- SELECT k FROM;
abbrev no_table : List Token
no_table = tokens_of (wd w.Select ∷ k ∷ wd w.From ∷ sg s.Semicolon ∷ [])

-- one statement of each sort, and where reading stops
pub record Rows : Type 0 where
  pub select_is_read : reading rules most_open statement a_select ≡ Ok (
    stmt_of.Query (record {
      query = q.Select (roll-Select (record {
        anchor = at 0;
        items = item.Value (e.Chain (name_k 1)
            (link (chain_operator.Value op.Add) 2 (number_one 3) ∷ [])) None ∷ item.Value
            (e.Call (id_t 5) []) None ∷ [];
        from = from.Comma (table_t 9) ∷ [];
        filter = Some (e.Operation (at 12) (operation.Compare cmp.NotEquals)
            (name_k 11 ∷ number_one 13 ∷ []));
        group_by = [];
        having = None;
      }));
      order = [];
    }),
    [],
  )
  pub insert_is_read : reading rules most_open statement an_insert ≡ Ok (
    stmt_of.Insert (record {
      anchor = at 0;
      table = id_t 2;
      columns = [];
      source = q.Values (roll-Values (record {
        anchor = at 3;
        rows = value_row.Row (number_one 5 ∷ e.Operation (at 7) operation.Minus
            (number_one 8 ∷ []) ∷ []) ∷ value_row.Row (name_k 13 ∷ []) ∷ [];
      }));
    }),
    [],
  )
  pub table_is_read : reading rules most_open statement a_table ≡ Ok (
    stmt_of.CreateTable (record {
      anchor = at 0;
      name = id_t 2;
      elements = element_of.Column (record {
        name = id_k 4;
        data_type = integer_at 5;
        constraints =
            constraint.PrimaryKey (at 6) ∷ constraint.NotNull ∷ [];
      })
          ∷ element_of.Column (record {
            name = id_t 11;
            data_type =
                type_at 12 (type.Varchar (at 14) (pos 1));
            constraints = [];
          })
          ∷ element_of.Column (record {
            name = id_k 17;
            data_type = type_at 18 type.Boolean;
            constraints = [];
          }) ∷ [];
    }),
    [],
  )
  pub function_is_read : reading rules most_open statement a_function ≡ Ok (
    stmt_of.CreateFunction (roll-CreateFunction (record {
      anchor = at 0;
      name = id_t 2;
      parameters = record { mode = mode_of.In; name = id_k 4; data_type = integer_at 5 } ∷ [];
      returns = integer_at 8;
      characteristics = [];
      body = stmt_of.Return (at 9) (name_k 10);
    })),
    [],
  )
  -- a name is wanted where `;` stands
  pub stops_at_semicolon : reading rules most_open statement no_table ≡
      Err (NoSpelling (drop 3 no_table))
  -- of the doubled brackets the second is one construct too many, where one may be open
  pub is_too_deep : reading rules 1 statement an_insert ≡ Err (TooDeep (drop 12 an_insert))

-- All of it holds by computation.
pub rows_hold : Rows
unfolding same_kind bracketed ident varchar_length plain_type varchar data_type constant literal
    dotted column_name named function_call aggregate function case_expression exists primary
    unary_sign factor operator term sum comparison_sign comparison compared truth_test not_word
    asked tested in_word among predicate_part predicate negation conjunction expr after more_exprs
    exprs for_length as_type all_rows argument operands when_clause more_when_clauses when_clauses
    else_clause arms cases more_idents idents column_list alias select_value more_select_values
    select_values all_columns select_list named_table derived_table table_ref on_condition joined_on
    comma_item cross_join left_join inner_join from_item more_from_items first_item from_items
    from_clause filter more_column_names column_names group_clause group_by having grouping
    select_word select row more_rows rows values_word values query query_or_expr query_or_exprs
    direction sort_specification more_sort_specifications sort_specifications order_clause order_by
    ordered_query insertion into_table insert_word insert assignment more_assignments assignments
    set_clause update_word update from_table delete_word delete parameter_argument call_argument
    more_call_arguments call_arguments if_call_arguments call_word call dml state_text state
    state_value exception_value warning_value not_found condition_value more_condition_values
    condition_values sqlstate signal_value message_text message if_message signal_word signal
    resignal_word if_signal_value resignal statement_item_name statement_item_value statement_item
    more_statement_items statement_items condition_item_name condition_item_value condition_item
    more_condition_items condition_items written_number condition_number numbered_items
    condition_information information written_area area diagnostics get_word get_diagnostics
    set_word set_statement targets select_into open_word open_statement close_word close_statement
    fetch_word fetch_orientation fetched_cursor fetch leave_word leave_statement iterate_word
    iterate_statement return_word return_statement storing cursor_statement condition_statement
    leaving simple_statement end_label construct structure structures label if_label labelled
    labelled_block if_construct if_statement case_construct case_statement stmt ended statements
    body body_after branch branch_after more_branches branches otherwise if_body when_branches
    case_body while_body repeat_body for_query for_body default_clause variables condition cursor
    named_declaration named_cursor handler_type handled handler declaration declarations atomic
    block_body structure_body not_null key_words primary_key column_constraint constraints column
    table_column table_key element more_elements elements table_definition create_table parameter
    more_parameters parameters if_parameters written_mode mode modal_parameter more_modal_parameters
    modal_parameters if_modal_parameters language deterministic not_deterministic contains_sql
    data_access data_characteristic null_call null_characteristic characteristic characteristics
    returns_type function_definition create_function procedure_definition create_procedure
    create_word created create object_sort dropped_name drop_word drop_object ddl explain_word
    explain other_statement unended statement
rows_hold = record {
  select_is_read = refl;
  insert_is_read = refl;
  table_is_read = refl;
  function_is_read = refl;
  stops_at_semicolon = refl;
  is_too_deep = refl;
}

-- ---- reading of queries

-- SELECT * FROM t LEFT JOIN (VALUES (1, 1)) AS k (k, t) ON t.k = 1, t AS k CROSS JOIN k INNER JOIN
-- t ON TRUE;
abbrev joins : List Token
joins = tokens_of (wd w.Select ∷ sg s.Asterisk ∷ wd w.From ∷ t ∷ wd w.Left ∷ wd w.Join
    ∷ sg s.LeftParen ∷ wd w.Values ∷ sg s.LeftParen ∷ one ∷ sg s.Comma ∷ one ∷ sg s.RightParen ∷
    sg s.RightParen
    ∷ wd w.As ∷ k ∷ sg s.LeftParen ∷ k ∷ sg s.Comma ∷ t ∷ sg s.RightParen ∷ wd w.On ∷ t ∷
    sg s.Period ∷ k ∷ sg s.Equals ∷ one
    ∷ sg s.Comma ∷ t ∷ wd w.As ∷ k ∷ wd w.Cross ∷ wd w.Join ∷ k ∷ wd w.Inner ∷ wd w.Join ∷ t ∷
    wd w.On ∷ wd w.True ∷ sg s.Semicolon ∷ [])

-- SELECT k.t AS k, 1 t, k FROM t k JOIN t ON k LEFT OUTER JOIN k ON t WHERE k
-- ORDER BY k DESC, t, k ASC;
abbrev named_and_ordered : List Token
named_and_ordered = tokens_of (wd w.Select ∷ k ∷ sg s.Period ∷ t ∷ wd w.As ∷ k ∷ sg s.Comma ∷ one ∷
    t ∷ sg s.Comma ∷ k ∷ wd w.From ∷ t ∷ k
    ∷ wd w.Join ∷ t ∷ wd w.On ∷ k ∷ wd w.Left ∷ wd w.Outer ∷ wd w.Join ∷ k ∷ wd w.On ∷ t ∷
    wd w.Where ∷ k
    ∷ wd w.Order ∷ wd w.By ∷ k ∷ wd w.Desc ∷ sg s.Comma ∷ t ∷ sg s.Comma ∷ k ∷ wd w.Asc ∷
    sg s.Semicolon ∷ [])

-- SELECT * FROM (SELECT * FROM (VALUES (1)) t) k
abbrev derived_in_derived : List Token
derived_in_derived = tokens_of (wd w.Select ∷ sg s.Asterisk ∷ wd w.From ∷ sg s.LeftParen ∷
    wd w.Select ∷ sg s.Asterisk ∷ wd w.From
    ∷ sg s.LeftParen ∷ wd w.Values ∷ sg s.LeftParen ∷ one ∷ sg s.RightParen ∷ sg s.RightParen ∷ t ∷
    sg s.RightParen ∷ k ∷ [])

-- VALUES (1) ORDER BY k
abbrev ordered_values : List Token
ordered_values = tokens_of (wd w.Values ∷ sg s.LeftParen ∷ one ∷ sg s.RightParen ∷ wd w.Order ∷
    wd w.By ∷ k ∷ [])

-- VALUES (1) from a token on
abbrev pub values_at : ℕ → Query
values_at n =
    q.Values (roll-Values (record {
      anchor = at n;
      rows =
          value_row.Row (number_one (n + 2) ∷ []) ∷ [];
    }))

-- SELECT k FROM t JOIN k;
abbrev no_condition : List Token
no_condition = tokens_of (wd w.Select ∷ k ∷ wd w.From ∷ t ∷ wd w.Join ∷ k ∷ sg s.Semicolon ∷ [])

-- SELECT k FROM t CROSS JOIN k ON k;
abbrev a_condition_too_many : List Token
a_condition_too_many = tokens_of (wd w.Select ∷ k ∷ wd w.From ∷ t ∷ wd w.Cross ∷ wd w.Join ∷ k ∷
    wd w.On ∷ k ∷ sg s.Semicolon ∷ [])

-- SELECT k FROM (VALUES (1));
abbrev derived_without_name : List Token
derived_without_name = tokens_of (wd w.Select ∷ k ∷ wd w.From ∷ sg s.LeftParen ∷ wd w.Values ∷
    sg s.LeftParen ∷ one ∷ sg s.RightParen ∷ sg s.RightParen ∷ sg s.Semicolon ∷ [])

-- SELECT *, k FROM t;
abbrev all_and_more : List Token
all_and_more = tokens_of (wd w.Select ∷ sg s.Asterisk ∷ sg s.Comma ∷ k ∷ wd w.From ∷ t ∷
    sg s.Semicolon ∷ [])

-- SELECT COUNT (*) FROM t WHERE k GROUP BY t.k, k HAVING k
abbrev grouped : List Token
grouped = tokens_of (wd w.Select ∷ wd w.Count ∷ sg s.LeftParen ∷ sg s.Asterisk ∷ sg s.RightParen ∷
    wd w.From ∷ t ∷ wd w.Where ∷ k
    ∷ wd w.Group ∷ wd w.By ∷ t ∷ sg s.Period ∷ k ∷ sg s.Comma ∷ k ∷ wd w.Having ∷ k ∷ [])

-- SELECT 1 FROM t HAVING MAX (k)
abbrev having_alone : List Token
having_alone = tokens_of (wd w.Select ∷ one ∷ wd w.From ∷ t ∷ wd w.Having ∷ wd w.Max ∷
    sg s.LeftParen ∷ k ∷ sg s.RightParen ∷ [])

-- SELECT k FROM t HAVING k GROUP BY k;
abbrev having_first : List Token
having_first = tokens_of (wd w.Select ∷ k ∷ wd w.From ∷ t ∷ wd w.Having ∷ k ∷ wd w.Group ∷ wd w.By ∷
    k ∷ sg s.Semicolon ∷ [])

-- SELECT k FROM t GROUP BY 1;
abbrev by_a_number : List Token
by_a_number = tokens_of (wd w.Select ∷ k ∷ wd w.From ∷ t ∷ wd w.Group ∷ wd w.By ∷ one ∷
    sg s.Semicolon ∷ [])

-- joins, derived tables, groups and orders
pub record QueryRows : Type 0 where
  pub joins_are_read : reading rules most_open statement joins ≡ Ok (
    stmt_of.Query (record {
      query = q.Select (roll-Select (record {
        anchor = at 0;
        items = item.All (at 1) ∷ [];
        from = from.Comma (table_t 3)
            ∷ from.Left (
            ref.Derived
            (q.Values
            (roll-Values (record {
              anchor = at 7;
              rows =
                  value_row.Row (number_one 9 ∷ number_one 11 ∷ []) ∷ [];
            }))) (id_k 15)
            (id_k 17 ∷ id_t 19 ∷ []))
            (e.Operation (at 25) (operation.Compare cmp.Equals)
            (e.Name (qualified (id_t 22) (id_k 24)) ∷ number_one 26 ∷ []))
            ∷ from.Comma (ref.Table (id_t 28) (Some (id_k 30)))
            ∷ from.Cross (table_k 33)
            ∷ from.Inner (table_t 36) (e.Literal (at 38) literal_of.True) ∷ [];
        filter = None;
        group_by = [];
        having = None;
      }));
      order = [];
    }),
    [],
  )
  pub names_are_read : reading rules most_open statement named_and_ordered ≡ Ok (
    stmt_of.Query (record {
      query = q.Select (roll-Select (record {
        anchor = at 0;
        items = item.Value (e.Name (qualified (id_k 1) (id_t 3))) (Some (id_k 5)) ∷ item.Value
            (number_one 7) (Some (id_t 8)) ∷ item.Value (name_k 10) None ∷ [];
        from = from.Comma (ref.Table (id_t 12) (Some (id_k 13))) ∷ from.Inner (table_t 15)
            (name_k 17) ∷ from.Left (table_k 21) (name_t 23) ∷ [];
        filter = Some (name_k 25);
        group_by = [];
        having = None;
      }));
      order = record { name = id_k 28; descending = true } ∷ record {
        name = id_t 31;
        descending =
            false;
      } ∷ record { name = id_k 33; descending = false } ∷ [];
    }),
    [],
  )
  -- a query by itself has no order
  pub stops_before_order : reading rules most_open query ordered_values ≡
      Ok (values_at 0, drop 4 ordered_values)
  pub three_may_be_open : reading rules 3 query derived_in_derived ≡ Ok (
    q.Select (roll-Select (record {
      anchor = at 0;
      items = item.All (at 1) ∷ [];
      from = from.Comma (
          ref.Derived (q.Select (roll-Select (record {
            anchor = at 4;
            items = item.All (at 5) ∷ [];
            from = from.Comma
                (ref.Derived
                (q.Values
                (roll-Values (record {
                  anchor = at 8;
                  rows =
                      value_row.Row (number_one 10 ∷ []) ∷ [];
                }))) (id_t 13) []) ∷ [];
            filter = None;
            group_by = [];
            having = None;
          }))) (id_k 15) []) ∷ [];
      filter = None;
      group_by = [];
      having = None;
    })),
    [],
  )
  -- the bracket after VALUES is one construct too many, where two may be open
  pub derived_is_too_deep : reading rules 2 query derived_in_derived ≡
      Err (TooDeep (drop 9 derived_in_derived))
  pub condition_is_wanted : reading rules most_open statement no_condition ≡
      Err (NoSpelling (drop 6 no_condition))
  pub cross_join_has_none : reading rules most_open statement a_condition_too_many ≡
      Err (NoSpelling (drop 7 a_condition_too_many))
  pub name_is_wanted : reading rules most_open statement derived_without_name ≡
      Err (NoSpelling (drop 9 derived_without_name))
  pub all_stands_alone : reading rules most_open statement all_and_more ≡
      Err (NoSpelling (drop 2 all_and_more))
  pub groups_are_read : reading rules most_open query grouped ≡ Ok (
    q.Select (roll-Select (record {
      anchor = at 0;
      items = item.Value (e.Aggregate (at 1) fold.Count []) None ∷ [];
      from = from.Comma (table_t 6) ∷ [];
      filter = Some (name_k 8);
      group_by = record { qualifier = Some (id_t 11); name = id_k 13 } ∷
          record { qualifier = None; name = id_k 15 } ∷ [];
      having = Some (name_k 17);
    })),
    [],
  )
  pub having_stands_alone : reading rules most_open query having_alone ≡ Ok (
    q.Select (roll-Select (record {
      anchor = at 0;
      items = item.Value (number_one 1) None ∷ [];
      from = from.Comma (table_t 3) ∷ [];
      filter = None;
      group_by = [];
      having = Some (e.Aggregate (at 5) fold.Max (name_k 7 ∷ []));
    })),
    [],
  )
  pub having_comes_last : reading rules most_open statement having_first ≡
      Err (NoSpelling (drop 6 having_first))
  pub groups_are_by_columns : reading rules most_open statement by_a_number ≡
      Err (NoSpelling (drop 6 by_a_number))

-- All of it holds by computation.
pub query_rows_hold : QueryRows
unfolding same_kind bracketed ident varchar_length plain_type varchar data_type constant literal
    dotted column_name named function_call aggregate function case_expression exists primary
    unary_sign factor operator term sum comparison_sign comparison compared truth_test not_word
    asked tested in_word among predicate_part predicate negation conjunction expr after more_exprs
    exprs for_length as_type all_rows argument operands when_clause more_when_clauses when_clauses
    else_clause arms cases more_idents idents column_list alias select_value more_select_values
    select_values all_columns select_list named_table derived_table table_ref on_condition joined_on
    comma_item cross_join left_join inner_join from_item more_from_items first_item from_items
    from_clause filter more_column_names column_names group_clause group_by having grouping
    select_word select row more_rows rows values_word values query query_or_expr query_or_exprs
    direction sort_specification more_sort_specifications sort_specifications order_clause order_by
    ordered_query insertion into_table insert_word insert assignment more_assignments assignments
    set_clause update_word update from_table delete_word delete parameter_argument call_argument
    more_call_arguments call_arguments if_call_arguments call_word call dml state_text state
    state_value exception_value warning_value not_found condition_value more_condition_values
    condition_values sqlstate signal_value message_text message if_message signal_word signal
    resignal_word if_signal_value resignal statement_item_name statement_item_value statement_item
    more_statement_items statement_items condition_item_name condition_item_value condition_item
    more_condition_items condition_items written_number condition_number numbered_items
    condition_information information written_area area diagnostics get_word get_diagnostics
    set_word set_statement targets select_into open_word open_statement close_word close_statement
    fetch_word fetch_orientation fetched_cursor fetch leave_word leave_statement iterate_word
    iterate_statement return_word return_statement storing cursor_statement condition_statement
    leaving simple_statement end_label construct structure structures label if_label labelled
    labelled_block if_construct if_statement case_construct case_statement stmt ended statements
    body body_after branch branch_after more_branches branches otherwise if_body when_branches
    case_body while_body repeat_body for_query for_body default_clause variables condition cursor
    named_declaration named_cursor handler_type handled handler declaration declarations atomic
    block_body structure_body not_null key_words primary_key column_constraint constraints column
    table_column table_key element more_elements elements table_definition create_table parameter
    more_parameters parameters if_parameters written_mode mode modal_parameter more_modal_parameters
    modal_parameters if_modal_parameters language deterministic not_deterministic contains_sql
    data_access data_characteristic null_call null_characteristic characteristic characteristics
    returns_type function_definition create_function procedure_definition create_procedure
    create_word created create object_sort dropped_name drop_word drop_object ddl explain_word
    explain other_statement unended statement
query_rows_hold = record {
  joins_are_read = refl;
  names_are_read = refl;
  stops_before_order = refl;
  three_may_be_open = refl;
  derived_is_too_deep = refl;
  condition_is_wanted = refl;
  cross_join_has_none = refl;
  name_is_wanted = refl;
  all_stands_alone = refl;
  groups_are_read = refl;
  having_stands_alone = refl;
  having_comes_last = refl;
  groups_are_by_columns = refl;
}

-- ---- reading of expressions

-- NOT k = 1 AND t OR k
abbrev loosest_last : List Token
loosest_last = tokens_of (wd w.Not ∷ k ∷ sg s.Equals ∷ one ∷ wd w.And ∷ t ∷ wd w.Or ∷ k ∷ [])

-- k - 1 || t * 1 / k
abbrev from_the_left : List Token
from_the_left = tokens_of (k ∷ sg s.Minus ∷ one ∷ sg s.Concatenation ∷ t ∷ sg s.Asterisk ∷ one ∷
    sg s.Solidus ∷ k ∷ [])

-- -k + +1
abbrev with_signs : List Token
with_signs = tokens_of (sg s.Minus ∷ k ∷ sg s.Plus ∷ sg s.Plus ∷ one ∷ [])

-- k IS NOT NULL AND 1 IS UNKNOWN AND t IS TRUE AND k IS NOT FALSE
abbrev tests : List Token
tests = tokens_of (k ∷ wd w.Is ∷ wd w.Not ∷ wd w.Null ∷ wd w.And ∷ one ∷ wd w.Is ∷ wd w.Unknown ∷
    wd w.And ∷ t ∷ wd w.Is ∷ wd w.True
    ∷ wd w.And ∷ k ∷ wd w.Is ∷ wd w.Not ∷ wd w.False ∷ [])

-- UNKNOWN OR FALSE OR TRUE OR NULL
abbrev constants : List Token
constants = tokens_of (wd w.Unknown ∷ wd w.Or ∷ wd w.False ∷ wd w.Or ∷ wd w.True ∷ wd w.Or ∷
    wd w.Null ∷ [])

-- k < 1 AND k <= 1 AND k > 1 AND k >= 1
abbrev comparisons : List Token
comparisons = tokens_of (k ∷ sg s.LessThan ∷ one ∷ wd w.And ∷ k ∷ sg s.LessThanOrEquals ∷ one ∷
    wd w.And ∷ k ∷ sg s.GreaterThan ∷ one
    ∷ wd w.And ∷ k ∷ sg s.GreaterThanOrEquals ∷ one ∷ [])

-- k IN (1)
abbrev in_one : List Token
in_one = tokens_of (k ∷ wd w.In ∷ sg s.LeftParen ∷ one ∷ sg s.RightParen ∷ [])

-- k NOT IN (1, t)
abbrev not_in_two : List Token
not_in_two = tokens_of (k ∷ wd w.Not ∷ wd w.In ∷ sg s.LeftParen ∷ one ∷ sg s.Comma ∷ t ∷
    sg s.RightParen ∷ [])

-- CASE WHEN k THEN 1 ELSE TRUE END
abbrev searched_case : List Token
searched_case = tokens_of (wd w.Case ∷ wd w.When ∷ k ∷ wd w.Then ∷ one ∷ wd w.Else ∷ wd w.True ∷
    wd w.End ∷ [])

-- CASE k WHEN 1 THEN t WHEN t THEN 1 END
abbrev simple_case : List Token
simple_case = tokens_of (wd w.Case ∷ k ∷ wd w.When ∷ one ∷ wd w.Then ∷ t ∷ wd w.When ∷ t ∷
    wd w.Then ∷ one ∷ wd w.End ∷ [])

-- SUBSTRING (k FROM 1)
abbrev to_the_end : List Token
to_the_end = tokens_of (wd w.Substring ∷ sg s.LeftParen ∷ k ∷ wd w.From ∷ one ∷ sg s.RightParen ∷
    [])

-- SUBSTRING (k FROM 1 FOR t)
abbrev of_a_length : List Token
of_a_length = tokens_of (wd w.Substring ∷ sg s.LeftParen ∷ k ∷ wd w.From ∷ one ∷ wd w.For ∷ t ∷
    sg s.RightParen ∷ [])

-- CAST (k AS VARCHAR (1))
abbrev a_cast : List Token
a_cast = tokens_of (wd w.Cast ∷ sg s.LeftParen ∷ k ∷ wd w.As ∷ wd w.Varchar ∷ sg s.LeftParen ∷ one ∷
    sg s.RightParen ∷ sg s.RightParen ∷ [])

-- COALESCE (NULL, MOD (k, 1), CHAR_LENGTH ('K'))
abbrev words_in_words : List Token
words_in_words = tokens_of (wd w.Coalesce ∷ sg s.LeftParen ∷ wd w.Null ∷ sg s.Comma ∷ wd w.Mod ∷
    sg s.LeftParen ∷ k ∷ sg s.Comma ∷ one ∷ sg s.RightParen ∷ sg s.Comma
    ∷ wd w.CharLength ∷ sg s.LeftParen ∷ lexeme.Text (codes "K") ∷ sg s.RightParen ∷
    sg s.RightParen ∷ [])

-- t.k
abbrev a_qualified_name : List Token
a_qualified_name = tokens_of (t ∷ sg s.Period ∷ k ∷ [])

-- COUNT (*) + COUNT (k)
abbrev counts : List Token
counts = tokens_of (wd w.Count ∷ sg s.LeftParen ∷ sg s.Asterisk ∷ sg s.RightParen ∷ sg s.Plus ∷
    wd w.Count ∷ sg s.LeftParen ∷ k ∷ sg s.RightParen ∷ [])

-- SUM (k - 1) * AVG (k) * MIN (t) * MAX (1)
abbrev aggregates : List Token
aggregates = tokens_of (wd w.Sum ∷ sg s.LeftParen ∷ k ∷ sg s.Minus ∷ one ∷ sg s.RightParen ∷
    sg s.Asterisk ∷ wd w.Avg ∷ sg s.LeftParen ∷ k ∷ sg s.RightParen
    ∷ sg s.Asterisk ∷ wd w.Min ∷ sg s.LeftParen ∷ t ∷ sg s.RightParen ∷ sg s.Asterisk ∷ wd w.Max ∷
    sg s.LeftParen ∷ one ∷ sg s.RightParen ∷ [])

-- SUM (*)
abbrev sum_of_all : List Token
sum_of_all = tokens_of (wd w.Sum ∷ sg s.LeftParen ∷ sg s.Asterisk ∷ sg s.RightParen ∷ [])

-- VALUES (k = 1 = k
abbrev two_comparisons : List Token
two_comparisons = tokens_of (wd w.Values ∷ sg s.LeftParen ∷ k ∷ sg s.Equals ∷ one ∷ sg s.Equals ∷
    k ∷ [])

-- CASE k END
abbrev no_when : List Token
no_when = tokens_of (wd w.Case ∷ k ∷ wd w.End ∷ [])

-- SUBSTRING (k FOR 1
abbrev no_from : List Token
no_from = tokens_of (wd w.Substring ∷ sg s.LeftParen ∷ k ∷ wd w.For ∷ one ∷ [])

-- NOT NOT k
abbrev not_twice : List Token
not_twice = tokens_of (wd w.Not ∷ wd w.Not ∷ k ∷ [])

-- CASE WHEN so many times, and as many times THEN 1 END round 1
abbrev openings : ℕ → List Lexeme
openings zero = []
openings (suc n) = wd w.Case ∷ wd w.When ∷ openings n

-- the same number of THEN 1 END
abbrev endings : ℕ → List Lexeme
endings zero = []
endings (suc n) = wd w.Then ∷ one ∷ wd w.End ∷ endings n

-- CASE in CASE, n of them open at once
abbrev case_in_case : ℕ → List Token
case_in_case n = tokens_of (openings n ++ one ∷ endings n)

-- the innermost so many of 24
abbrev innermost : ℕ → Expr
innermost zero = number_one 48
innermost (suc n) = e.Operation (at (46 - 2 * n)) operation.Case
    (innermost n ∷ number_one (50 + 3 * n) ∷ [])

-- which operator binds closer, and what stands in the brackets of functions
pub record ExprRows : Type 0 where
  pub or_is_loosest : reading rules most_open expr loosest_last ≡ Ok (
    e.Chain (
        e.Chain
        (e.Operation (at 0) operation.Not (e.Operation (at 2) (operation.Compare cmp.Equals)
        (name_k 1 ∷ number_one 3 ∷ []) ∷ []))
        (link chain_operator.And 4 (name_t 5) ∷ []))
        (link chain_operator.Or 6 (name_k 7) ∷ []),
    [],
  )
  pub bars_are_additive : reading rules most_open expr from_the_left ≡ Ok (
    e.Chain (name_k 0) (
        link (chain_operator.Value op.Subtract) 1 (number_one 2)
        ∷ link (chain_operator.Value op.Concatenate) 3 (
        e.Chain (name_t 4) (link (chain_operator.Value op.Multiply) 5 (number_one 6) ∷
        link (chain_operator.Value op.Divide) 7 (name_k 8) ∷ [])) ∷ []),
    [],
  )
  pub signs_are_read : reading rules most_open expr with_signs ≡ Ok (
    e.Chain (e.Operation (at 0) operation.Minus (name_k 1 ∷ []))
        (link (chain_operator.Value op.Add) 2
        (e.Operation (at 3) operation.Plus (number_one 4 ∷ [])) ∷ []),
    [],
  )
  pub tests_are_read : reading rules most_open expr tests ≡ Ok (
    e.Chain (e.Operation (at 1) (operation.IsNot test.Null) (name_k 0 ∷ []))
        (link chain_operator.And 4 (e.Operation (at 6) (operation.Is test.Unknown)
        (number_one 5 ∷ []))
        ∷ link chain_operator.And 8 (e.Operation (at 10) (operation.Is test.True) (name_t 9 ∷ []))
        ∷ link chain_operator.And 12 (e.Operation (at 14) (operation.IsNot test.False)
        (name_k 13 ∷ [])) ∷ []),
    [],
  )
  pub constants_are_read : reading rules most_open expr constants ≡ Ok (
    e.Chain (e.Literal (at 0) literal_of.Unknown)
        (link chain_operator.Or 1 (e.Literal (at 2) literal_of.False)
        ∷ link chain_operator.Or 3 (e.Literal (at 4) literal_of.True)
        ∷ link chain_operator.Or 5 (e.Literal (at 6) literal_of.Null) ∷ []),
    [],
  )
  pub comparisons_are_read : reading rules most_open expr comparisons ≡ Ok (
    e.Chain (e.Operation (at 1) (operation.Compare cmp.LessThan) (name_k 0 ∷ number_one 2 ∷ []))
        (link chain_operator.And 3 (e.Operation (at 5) (operation.Compare cmp.LessThanOrEquals)
        (name_k 4 ∷ number_one 6 ∷ []))
        ∷ link chain_operator.And 7 (e.Operation (at 9) (operation.Compare cmp.GreaterThan)
        (name_k 8 ∷ number_one 10 ∷ []))
        ∷ link chain_operator.And 11 (e.Operation (at 13)
        (operation.Compare cmp.GreaterThanOrEquals) (name_k 12 ∷ number_one 14 ∷ [])) ∷ []),
    [],
  )
  pub in_is_read : reading rules most_open expr in_one ≡
      Ok (e.Operation (at 1) operation.In (name_k 0 ∷ number_one 3 ∷ []), [])
  pub not_in_is_read : reading rules most_open expr not_in_two ≡
      Ok (e.Operation (at 2) operation.NotIn (name_k 0 ∷ number_one 4 ∷ name_t 6 ∷ []), [])
  pub searched_case_is_read : reading rules most_open expr searched_case ≡ Ok (
    e.Operation (at 0) operation.Case (name_k 2 ∷ number_one 4 ∷ e.Literal (at 6) literal_of.True ∷
        []),
    [],
  )
  pub simple_case_is_read : reading rules most_open expr simple_case ≡ Ok (
    e.Operation (at 0) operation.CaseOf (name_k 1 ∷ number_one 3 ∷ name_t 5 ∷ name_t 7 ∷
        number_one 9 ∷ []),
    [],
  )
  pub substring_is_read : reading rules most_open expr to_the_end ≡
      Ok (e.Operation (at 0) operation.Substring (name_k 2 ∷ number_one 4 ∷ []), [])
  pub length_is_read : reading rules most_open expr of_a_length ≡
      Ok (e.Operation (at 0) operation.Substring (name_k 2 ∷ number_one 4 ∷ name_t 6 ∷ []), [])
  pub cast_is_read : reading rules most_open expr a_cast ≡ Ok (
    e.Operation (at 0) (operation.Cast (type_at 4 (type.Varchar (at 6) (pos 1)))) (name_k 2 ∷ []),
    [],
  )
  pub words_are_read : reading rules most_open expr words_in_words ≡ Ok (
    e.Operation (at 0) operation.Coalesce (
        e.Literal (at 2) literal_of.Null
        ∷ e.Operation (at 4) operation.Modulo (name_k 6 ∷ number_one 8 ∷ [])
        ∷ e.Operation (at 11) operation.CharLength
        (e.Literal (at 13) (literal_of.Text (codes "K")) ∷ []) ∷ []),
    [],
  )
  pub qualifier_is_read : reading rules most_open expr a_qualified_name ≡
      Ok (e.Name (record { qualifier = Some (id_t 0); name = id_k 2 }), [])
  pub counts_are_read : reading rules most_open expr counts ≡ Ok (
    e.Chain (e.Aggregate (at 0) fold.Count [])
        (link (chain_operator.Value op.Add) 4 (e.Aggregate (at 5) fold.Count (name_k 7 ∷ [])) ∷ []),
    [],
  )
  pub aggregates_are_read : reading rules most_open expr aggregates ≡ Ok (
    e.Chain (e.Aggregate (at 0) fold.Sum (e.Chain (name_k 2)
        (link (chain_operator.Value op.Subtract) 3 (number_one 4) ∷ []) ∷ []))
        (link (chain_operator.Value op.Multiply) 6 (e.Aggregate (at 7) fold.Avg (name_k 9 ∷ []))
        ∷ link (chain_operator.Value op.Multiply) 11 (e.Aggregate (at 12) fold.Min (name_t 14 ∷ []))
        ∷ link (chain_operator.Value op.Multiply) 16
        (e.Aggregate (at 17) fold.Max (number_one 19 ∷ [])) ∷ []),
    [],
  )
  -- only COUNT is of all rows
  pub an_argument_is_wanted : reading rules most_open expr sum_of_all ≡
      Err (NoSpelling (drop 2 sum_of_all))
  -- a comparison has two sides
  pub stops_at_second_comparison : reading rules most_open query two_comparisons ≡
      Err (NoSpelling (drop 5 two_comparisons))
  pub when_is_wanted : reading rules most_open expr no_when ≡ Err (NoSpelling (drop 2 no_when))
  pub from_is_wanted : reading rules most_open expr no_from ≡ Err (NoSpelling (drop 3 no_from))
  pub not_stands_once : reading rules most_open expr not_twice ≡ Err (NoSpelling (drop 1 not_twice))
  -- as many as may be open, and one more
  pub cases_at_the_limit : reading rules most_open expr (case_in_case 24) ≡ Ok (innermost 24, [])
  pub cases_past_the_limit : reading rules most_open expr (case_in_case 25) ≡
      Err (TooDeep (drop 48 (case_in_case 25)))

-- All of it holds by computation.
pub expr_rows_hold : ExprRows
unfolding same_kind bracketed ident varchar_length plain_type varchar data_type constant literal
    dotted column_name named function_call aggregate function case_expression exists primary
    unary_sign factor operator term sum comparison_sign comparison compared truth_test not_word
    asked tested in_word among predicate_part predicate negation conjunction expr after more_exprs
    exprs for_length as_type all_rows argument operands when_clause more_when_clauses when_clauses
    else_clause arms cases more_idents idents column_list alias select_value more_select_values
    select_values all_columns select_list named_table derived_table table_ref on_condition joined_on
    comma_item cross_join left_join inner_join from_item more_from_items first_item from_items
    from_clause filter more_column_names column_names group_clause group_by having grouping
    select_word select row more_rows rows values_word values query query_or_expr query_or_exprs
    direction sort_specification more_sort_specifications sort_specifications order_clause order_by
    ordered_query insertion into_table insert_word insert assignment more_assignments assignments
    set_clause update_word update from_table delete_word delete parameter_argument call_argument
    more_call_arguments call_arguments if_call_arguments call_word call dml state_text state
    state_value exception_value warning_value not_found condition_value more_condition_values
    condition_values sqlstate signal_value message_text message if_message signal_word signal
    resignal_word if_signal_value resignal statement_item_name statement_item_value statement_item
    more_statement_items statement_items condition_item_name condition_item_value condition_item
    more_condition_items condition_items written_number condition_number numbered_items
    condition_information information written_area area diagnostics get_word get_diagnostics
    set_word set_statement targets select_into open_word open_statement close_word close_statement
    fetch_word fetch_orientation fetched_cursor fetch leave_word leave_statement iterate_word
    iterate_statement return_word return_statement storing cursor_statement condition_statement
    leaving simple_statement end_label construct structure structures label if_label labelled
    labelled_block if_construct if_statement case_construct case_statement stmt ended statements
    body body_after branch branch_after more_branches branches otherwise if_body when_branches
    case_body while_body repeat_body for_query for_body default_clause variables condition cursor
    named_declaration named_cursor handler_type handled handler declaration declarations atomic
    block_body structure_body not_null key_words primary_key column_constraint constraints column
    table_column table_key element more_elements elements table_definition create_table parameter
    more_parameters parameters if_parameters written_mode mode modal_parameter more_modal_parameters
    modal_parameters if_modal_parameters language deterministic not_deterministic contains_sql
    data_access data_characteristic null_call null_characteristic characteristic characteristics
    returns_type function_definition create_function procedure_definition create_procedure
    create_word created create object_sort dropped_name drop_word drop_object ddl explain_word
    explain other_statement unended statement
expr_rows_hold = record {
  or_is_loosest = refl;
  bars_are_additive = refl;
  signs_are_read = refl;
  tests_are_read = refl;
  constants_are_read = refl;
  comparisons_are_read = refl;
  in_is_read = refl;
  not_in_is_read = refl;
  searched_case_is_read = refl;
  simple_case_is_read = refl;
  substring_is_read = refl;
  length_is_read = refl;
  cast_is_read = refl;
  words_are_read = refl;
  qualifier_is_read = refl;
  counts_are_read = refl;
  aggregates_are_read = refl;
  an_argument_is_wanted = refl;
  stops_at_second_comparison = refl;
  when_is_wanted = refl;
  from_is_wanted = refl;
  not_stands_once = refl;
  cases_at_the_limit = refl;
  cases_past_the_limit = refl;
}

-- ---- reading of queries in expressions

-- VALUES (1)
abbrev pub a_query : List Lexeme
a_query = wd w.Values ∷ sg s.LeftParen ∷ one ∷ sg s.RightParen ∷ []

-- k + (SELECT k FROM t)
abbrev a_subquery : List Token
a_subquery = tokens_of (k ∷ sg s.Plus ∷ sg s.LeftParen ∷ wd w.Select ∷ k ∷ wd w.From ∷ t ∷
    sg s.RightParen ∷ [])

-- ((VALUES (1)))
abbrev in_more_brackets : List Token
in_more_brackets = tokens_of (sg s.LeftParen ∷ sg s.LeftParen ∷ a_query ++ sg s.RightParen ∷
    sg s.RightParen ∷ [])

-- NOT EXISTS (VALUES (1))
abbrev not_exists : List Token
not_exists = tokens_of (wd w.Not ∷ wd w.Exists ∷ sg s.LeftParen ∷ a_query ++ sg s.RightParen ∷ [])

-- k IN (VALUES (1))
abbrev in_a_query : List Token
in_a_query = tokens_of (k ∷ wd w.In ∷ sg s.LeftParen ∷ a_query ++ sg s.RightParen ∷ [])

-- k NOT IN (VALUES (1))
abbrev not_in_a_query : List Token
not_in_a_query = tokens_of (k ∷ wd w.Not ∷ wd w.In ∷ sg s.LeftParen ∷ a_query ++ sg s.RightParen ∷
    [])

-- k IN ((VALUES (1)))
abbrev in_a_value : List Token
in_a_value = tokens_of (k ∷ wd w.In ∷ sg s.LeftParen ∷ sg s.LeftParen ∷ a_query ++ sg s.RightParen ∷
    sg s.RightParen ∷ [])

-- SELECT k FROM t WHERE EXISTS (SELECT * FROM k WHERE t.k IN (VALUES (1)))
abbrev query_in_query : List Token
query_in_query = tokens_of (wd w.Select ∷ k ∷ wd w.From ∷ t ∷ wd w.Where ∷ wd w.Exists ∷
    sg s.LeftParen ∷ wd w.Select ∷ sg s.Asterisk ∷ wd w.From ∷ k
    ∷ wd w.Where ∷ t ∷ sg s.Period ∷ k ∷ wd w.In ∷ sg s.LeftParen ∷ a_query ++ sg s.RightParen ∷
    sg s.RightParen ∷ [])

-- EXISTS (k
abbrev exists_of_a_value : List Token
exists_of_a_value = tokens_of (wd w.Exists ∷ sg s.LeftParen ∷ k ∷ [])

-- k IN (VALUES (1), t
abbrev a_query_and_more : List Token
a_query_and_more = tokens_of (k ∷ wd w.In ∷ sg s.LeftParen ∷ a_query ++ sg s.Comma ∷ t ∷ [])

-- k IN (k, VALUES
abbrev a_query_too_late : List Token
a_query_too_late = tokens_of (k ∷ wd w.In ∷ sg s.LeftParen ∷ k ∷ sg s.Comma ∷ wd w.Values ∷ [])

-- (VALUES (1) ORDER
abbrev an_ordered_subquery : List Token
an_ordered_subquery = tokens_of (sg s.LeftParen ∷ a_query ++ wd w.Order ∷ [])

-- k + VALUES
abbrev a_query_without_brackets : List Token
a_query_without_brackets = tokens_of (k ∷ sg s.Plus ∷ wd w.Values ∷ [])

-- queries in brackets: as values, after EXISTS and after IN
pub record SubqueryRows : Type 0 where
  pub subquery_is_read : reading rules most_open expr a_subquery ≡ Ok (
    e.Chain (name_k 0) (
        link (chain_operator.Value op.Add) 1 (e.Subquery (q.Select (roll-Select (record {
          anchor = at 3;
          items = item.Value (name_k 4) None ∷ [];
          from = from.Comma (table_t 6) ∷ [];
          filter = None;
          group_by = [];
          having = None;
        })))) ∷ []),
    [],
  )
  -- brackets round a subquery's brackets leave no node
  pub more_brackets_change_nothing : reading rules 3 expr in_more_brackets ≡
      Ok (e.Subquery (values_at 2), [])
  pub subquery_is_too_deep : reading rules 2 expr in_more_brackets ≡
      Err (TooDeep (drop 3 in_more_brackets))
  pub not_exists_is_read : reading rules most_open expr not_exists ≡
      Ok (e.Operation (at 0) operation.Not (e.Exists (at 1) (values_at 3) ∷ []), [])
  pub in_query_is_read : reading rules most_open expr in_a_query ≡
      Ok (e.InQuery (at 1) false (name_k 0) (values_at 3), [])
  pub not_in_query_is_read : reading rules most_open expr not_in_a_query ≡
      Ok (e.InQuery (at 2) true (name_k 0) (values_at 4), [])
  -- in brackets of its own a query stands for a value: IN is over a list of one
  pub in_value_is_read : reading rules most_open expr in_a_value ≡
      Ok (e.Operation (at 1) operation.In (name_k 0 ∷ e.Subquery (values_at 4) ∷ []), [])
  pub query_in_query_is_read : reading rules 3 query query_in_query ≡ Ok (
    q.Select (roll-Select (record {
      anchor = at 0;
      items = item.Value (name_k 1) None ∷ [];
      from = from.Comma (table_t 3) ∷ [];
      filter = Some (
          e.Exists (at 5) (q.Select (roll-Select (record {
            anchor = at 7;
            items = item.All (at 8) ∷ [];
            from = from.Comma (table_k 10) ∷ [];
            filter = Some (e.InQuery (at 15) false (e.Name (qualified (id_t 12) (id_k 14)))
                (values_at 17));
            group_by = [];
            having = None;
          }))));
      group_by = [];
      having = None;
    })),
    [],
  )
  -- EXISTS is of a query alone
  pub query_is_wanted : reading rules most_open expr exists_of_a_value ≡
      Err (NoSpelling (drop 2 exists_of_a_value))
  -- a row is wanted after the comma of VALUES, and a value after that of a list
  pub query_stands_alone : reading rules most_open expr a_query_and_more ≡
      Err (NoSpelling (drop 8 a_query_and_more))
  pub query_comes_first : reading rules most_open expr a_query_too_late ≡
      Err (NoSpelling (drop 5 a_query_too_late))
  pub subquery_has_no_order : reading rules most_open expr an_ordered_subquery ≡
      Err (NoSpelling (drop 5 an_ordered_subquery))
  pub brackets_are_wanted : reading rules most_open expr a_query_without_brackets ≡
      Err (NoSpelling (drop 2 a_query_without_brackets))

-- All of it holds by computation.
pub subquery_rows_hold : SubqueryRows
unfolding same_kind bracketed ident varchar_length plain_type varchar data_type constant literal
    dotted column_name named function_call aggregate function case_expression exists primary
    unary_sign factor operator term sum comparison_sign comparison compared truth_test not_word
    asked tested in_word among predicate_part predicate negation conjunction expr after more_exprs
    exprs for_length as_type all_rows argument operands when_clause more_when_clauses when_clauses
    else_clause arms cases more_idents idents column_list alias select_value more_select_values
    select_values all_columns select_list named_table derived_table table_ref on_condition joined_on
    comma_item cross_join left_join inner_join from_item more_from_items first_item from_items
    from_clause filter more_column_names column_names group_clause group_by having grouping
    select_word select row more_rows rows values_word values query query_or_expr query_or_exprs
    direction sort_specification more_sort_specifications sort_specifications order_clause order_by
    ordered_query insertion into_table insert_word insert assignment more_assignments assignments
    set_clause update_word update from_table delete_word delete parameter_argument call_argument
    more_call_arguments call_arguments if_call_arguments call_word call dml state_text state
    state_value exception_value warning_value not_found condition_value more_condition_values
    condition_values sqlstate signal_value message_text message if_message signal_word signal
    resignal_word if_signal_value resignal statement_item_name statement_item_value statement_item
    more_statement_items statement_items condition_item_name condition_item_value condition_item
    more_condition_items condition_items written_number condition_number numbered_items
    condition_information information written_area area diagnostics get_word get_diagnostics
    set_word set_statement targets select_into open_word open_statement close_word close_statement
    fetch_word fetch_orientation fetched_cursor fetch leave_word leave_statement iterate_word
    iterate_statement return_word return_statement storing cursor_statement condition_statement
    leaving simple_statement end_label construct structure structures label if_label labelled
    labelled_block if_construct if_statement case_construct case_statement stmt ended statements
    body body_after branch branch_after more_branches branches otherwise if_body when_branches
    case_body while_body repeat_body for_query for_body default_clause variables condition cursor
    named_declaration named_cursor handler_type handled handler declaration declarations atomic
    block_body structure_body not_null key_words primary_key column_constraint constraints column
    table_column table_key element more_elements elements table_definition create_table parameter
    more_parameters parameters if_parameters written_mode mode modal_parameter more_modal_parameters
    modal_parameters if_modal_parameters language deterministic not_deterministic contains_sql
    data_access data_characteristic null_call null_characteristic characteristic characteristics
    returns_type function_definition create_function procedure_definition create_procedure
    create_word created create object_sort dropped_name drop_word drop_object ddl explain_word
    explain other_statement unended statement
subquery_rows_hold = record {
  subquery_is_read = refl;
  more_brackets_change_nothing = refl;
  subquery_is_too_deep = refl;
  not_exists_is_read = refl;
  in_query_is_read = refl;
  not_in_query_is_read = refl;
  in_value_is_read = refl;
  query_in_query_is_read = refl;
  query_is_wanted = refl;
  query_stands_alone = refl;
  query_comes_first = refl;
  subquery_has_no_order = refl;
  brackets_are_wanted = refl;
}

-- ---- open constructs, by the tokens alone

-- two brackets open
pub in_doubled_brackets : open_after an_insert 0 13 ≡ 12 ∷ 11 ∷ []
in_doubled_brackets = refl

-- after the statement: none
pub after_both : open_after an_insert 0 16 ≡ []
after_both = refl

-- IF NULL END IF (: the word after END opens nothing
pub after_end : open_after (tokens_of (wd w.If ∷ wd w.Null ∷ wd w.End ∷ wd w.If ∷ sg s.LeftParen ∷
    [])) 0 5 ≡ 4 ∷ []
after_end = refl

-- BEGIN FOR k: that FOR begins a loop
pub in_a_loop : open_after (tokens_of (wd w.Begin ∷ wd w.For ∷ k ∷ [])) 0 3 ≡ 1 ∷ 0 ∷ []
in_a_loop = refl

-- SUBSTRING (k FROM 1 FOR 1: that FOR begins none
pub in_substring : open_after (tokens_of (wd w.Substring ∷ sg s.LeftParen ∷ k ∷ wd w.From ∷ one ∷
    wd w.For ∷ one ∷ [])) 0 7 ≡ 1 ∷ []
in_substring = refl

-- BEGIN DECLARE k CURSOR FOR: nor does this
pub after_cursor : open_after (tokens_of (wd w.Begin ∷ wd w.Declare ∷ k ∷ wd w.Cursor ∷ wd w.For ∷
    [])) 0 5 ≡ 0 ∷ []
after_cursor = refl

-- VALUES (CASE WHEN k THEN CASE: the inner CASE stands in the outer one
abbrev two_cases : List Token
two_cases = tokens_of (wd w.Values ∷ sg s.LeftParen ∷ wd w.Case ∷ wd w.When ∷ k ∷ wd w.Then ∷
    wd w.Case ∷ wd w.When ∷ k ∷ wd w.Then ∷ one ∷ wd w.End ∷ wd w.End ∷ [])

-- in the inner CASE, three constructs are open: it, the outer CASE and the bracket
pub in_both_cases : open_after two_cases 0 7 ≡ 6 ∷ 2 ∷ 1 ∷ []
in_both_cases = refl

-- after both END: the bracket alone
pub after_both_cases : open_after two_cases 0 13 ≡ 1 ∷ []
after_both_cases = refl
