-- Worked rows of statements: what the grammar reads, and what it does not.
use Rattle.std.specs.Prelude.{◌≡◌, List, [], ◌∷◌, Some, None, Ok, Err, drop, refl}
use Rattle.sql_lex.specs.declared.sign.Sign.TheVariants as s
use Rattle.sql_lex.specs.declared.token.Token.{Token}
use Rattle.sql_lex.specs.declared.word.Word.TheVariants as w
use Rattle.sql_values.specs.declared.operators.Comparison.TheVariants as cmp
use Rattle.syntax_trees.specs.declared.expr.Expr.TheVariants as e
use Rattle.syntax_trees.specs.declared.expr.Operation.TheVariants as operation
use Rattle.syntax_trees.specs.declared.query.FromItem.TheVariants as from
use Rattle.syntax_trees.specs.declared.query.Query.TheVariants as q
use Rattle.syntax_trees.specs.declared.query.Select.{roll-Select}
use Rattle.syntax_trees.specs.declared.query.SelectItem.TheVariants as item
use Rattle.statement_trees.specs.declared.definition.Constraint.TheVariants as constraint
use Rattle.statement_trees.specs.declared.definition.ObjectSort.TheVariants as sort
use Rattle.statement_trees.specs.declared.definition.TableElement.TheVariants as element_of
use Rattle.statement_trees.specs.declared.statement.Stmt.TheVariants as stmt_of
use Rattle.grammar_algebra.specs.Examples.{tokens_of}
use Rattle.grammar_algebra.specs.Reading.{same_kind, reading, NoSpelling, TooDeep}
use Rattle.grammar_algebra.specs.Statement.{most_open}
use Rattle.grammar_sql.specs.Trees.{bracketed, ident, varchar_length, plain_type, varchar}
use Rattle.grammar_sql.specs.Trees.{data_type}
use Rattle.grammar_sql.specs.Expressions.{constant, literal, dotted, column_name, named}
use Rattle.grammar_sql.specs.Expressions.{function_call, aggregate, function, case_expression}
use Rattle.grammar_sql.specs.Expressions.{exists, primary, unary_sign, factor, operator, term, sum}
use Rattle.grammar_sql.specs.Expressions.{comparison_sign, comparison, compared, truth_test}
use Rattle.grammar_sql.specs.Expressions.{not_word, asked, tested, in_word, among, predicate_part}
use Rattle.grammar_sql.specs.Expressions.{predicate, negation, conjunction, expr, after, more_exprs}
use Rattle.grammar_sql.specs.Expressions.{exprs, for_length, as_type, all_rows, argument, operands}
use Rattle.grammar_sql.specs.Expressions.{when_clause, more_when_clauses, when_clauses, else_clause}
use Rattle.grammar_sql.specs.Expressions.{arms, cases}
use Rattle.grammar_sql.specs.Queries.{more_idents, idents, column_list, alias, select_value}
use Rattle.grammar_sql.specs.Queries.{more_select_values, select_values, all_columns, select_list}
use Rattle.grammar_sql.specs.Queries.{named_table, derived_table, table_ref, on_condition}
use Rattle.grammar_sql.specs.Queries.{joined_on, comma_item, cross_join, left_join, inner_join}
use Rattle.grammar_sql.specs.Queries.{from_item, more_from_items, first_item, from_items}
use Rattle.grammar_sql.specs.Queries.{from_clause, filter, more_column_names, column_names}
use Rattle.grammar_sql.specs.Queries.{group_clause, group_by, having, grouping, select_word, select}
use Rattle.grammar_sql.specs.Queries.{row, more_rows, rows, values_word, values, query}
use Rattle.grammar_sql.specs.Queries.{query_or_expr, query_or_exprs, direction, sort_specification}
use Rattle.grammar_sql.specs.Queries.{more_sort_specifications, sort_specifications, order_clause}
use Rattle.grammar_sql.specs.Queries.{order_by, ordered_query}
use Rattle.grammar_sql.specs.Writing.{insertion, into_table, insert_word, insert, assignment}
use Rattle.grammar_sql.specs.Writing.{more_assignments, assignments, set_clause, update_word}
use Rattle.grammar_sql.specs.Writing.{update, from_table, delete_word, delete, parameter_argument}
use Rattle.grammar_sql.specs.Writing.{call_argument, more_call_arguments, call_arguments}
use Rattle.grammar_sql.specs.Writing.{if_call_arguments, call_word, call, dml}
use Rattle.grammar_sql.specs.Conditions.{state_text, state, state_value, exception_value}
use Rattle.grammar_sql.specs.Conditions.{warning_value, not_found, condition_value}
use Rattle.grammar_sql.specs.Conditions.{more_condition_values, condition_values, sqlstate}
use Rattle.grammar_sql.specs.Conditions.{signal_value, message_text, message, if_message}
use Rattle.grammar_sql.specs.Conditions.{signal_word, signal, resignal_word, if_signal_value}
use Rattle.grammar_sql.specs.Conditions.{resignal, statement_item_name, statement_item_value}
use Rattle.grammar_sql.specs.Conditions.{statement_item, more_statement_items, statement_items}
use Rattle.grammar_sql.specs.Conditions.{condition_item_name, condition_item_value, condition_item}
use Rattle.grammar_sql.specs.Conditions.{more_condition_items, condition_items, written_number}
use Rattle.grammar_sql.specs.Conditions.{condition_number, numbered_items, condition_information}
use Rattle.grammar_sql.specs.Conditions.{information, written_area, area, diagnostics, get_word}
use Rattle.grammar_sql.specs.Conditions.{get_diagnostics}
use Rattle.grammar_sql.specs.Statements.{set_word, set_statement, targets, select_into, open_word}
use Rattle.grammar_sql.specs.Statements.{open_statement, close_word, close_statement, fetch_word}
use Rattle.grammar_sql.specs.Statements.{fetch_orientation, fetched_cursor, fetch, leave_word}
use Rattle.grammar_sql.specs.Statements.{leave_statement, iterate_word, iterate_statement}
use Rattle.grammar_sql.specs.Statements.{return_word, return_statement, storing, cursor_statement}
use Rattle.grammar_sql.specs.Statements.{condition_statement, leaving, simple_statement, end_label}
use Rattle.grammar_sql.specs.Statements.{construct, structure, structures, label, if_label}
use Rattle.grammar_sql.specs.Statements.{labelled, labelled_block, if_construct, if_statement}
use Rattle.grammar_sql.specs.Statements.{case_construct, case_statement, stmt, ended, statements}
use Rattle.grammar_sql.specs.Statements.{body, body_after, branch, branch_after, more_branches}
use Rattle.grammar_sql.specs.Statements.{branches, otherwise, if_body, when_branches, case_body}
use Rattle.grammar_sql.specs.Statements.{while_body, repeat_body, for_query, for_body}
use Rattle.grammar_sql.specs.Declarations.{default_clause, variables, condition, cursor}
use Rattle.grammar_sql.specs.Declarations.{named_declaration, named_cursor, handler_type, handled}
use Rattle.grammar_sql.specs.Declarations.{handler, declaration, declarations, atomic, block_body}
use Rattle.grammar_sql.specs.Declarations.{structure_body}
use Rattle.grammar_sql.specs.Definitions.{not_null, key_words, primary_key, column_constraint}
use Rattle.grammar_sql.specs.Definitions.{constraints, column, table_column, table_key, element}
use Rattle.grammar_sql.specs.Definitions.{more_elements, elements, table_definition, create_table}
use Rattle.grammar_sql.specs.Definitions.{parameter, more_parameters, parameters, if_parameters}
use Rattle.grammar_sql.specs.Definitions.{written_mode, mode, modal_parameter}
use Rattle.grammar_sql.specs.Definitions.{more_modal_parameters, modal_parameters}
use Rattle.grammar_sql.specs.Definitions.{if_modal_parameters, language, deterministic}
use Rattle.grammar_sql.specs.Definitions.{not_deterministic, contains_sql, data_access}
use Rattle.grammar_sql.specs.Definitions.{data_characteristic, null_call, null_characteristic}
use Rattle.grammar_sql.specs.Definitions.{characteristic, characteristics, returns_type}
use Rattle.grammar_sql.specs.Definitions.{function_definition, create_function}
use Rattle.grammar_sql.specs.Definitions.{procedure_definition, create_procedure, create_word}
use Rattle.grammar_sql.specs.Definitions.{created, create, object_sort, dropped_name, drop_word}
use Rattle.grammar_sql.specs.Definitions.{drop_object, ddl}
use Rattle.grammar_sql.specs.Sql.{explain_word, explain, other_statement, unended, statement, rules}
use Rattle.grammar_sql.specs.Examples.{wd, sg, k, t, one, at, id_k, id_t, name_k, number_one}
use Rattle.grammar_sql.specs.Examples.{integer_at, table_t}

-- ---- INSERT

-- INSERT INTO t (k, t) SELECT k FROM t;
abbrev listed_columns : List Token
listed_columns = tokens_of (wd w.Insert ∷ wd w.Into ∷ t ∷ sg s.LeftParen ∷ k ∷ sg s.Comma ∷ t ∷
    sg s.RightParen
    ∷ wd w.Select ∷ k ∷ wd w.From ∷ t ∷ sg s.Semicolon ∷ [])

-- INSERT INTO t ()
abbrev no_column : List Token
no_column = tokens_of (wd w.Insert ∷ wd w.Into ∷ t ∷ sg s.LeftParen ∷ sg s.RightParen ∷ [])

-- INSERT INTO t (k);
abbrev no_source : List Token
no_source = tokens_of (wd w.Insert ∷ wd w.Into ∷ t ∷ sg s.LeftParen ∷ k ∷ sg s.RightParen ∷
    sg s.Semicolon ∷ [])

-- ---- UPDATE

-- UPDATE t SET k = 1, t = k = 1 WHERE k;
abbrev two_assignments : List Token
two_assignments = tokens_of (wd w.Update ∷ t ∷ wd w.Set ∷ k ∷ sg s.Equals ∷ one ∷ sg s.Comma ∷ t ∷
    sg s.Equals ∷ k ∷ sg s.Equals ∷ one
    ∷ wd w.Where ∷ k ∷ sg s.Semicolon ∷ [])

-- UPDATE t SET k = 1;
abbrev all_rows_changed : List Token
all_rows_changed = tokens_of (wd w.Update ∷ t ∷ wd w.Set ∷ k ∷ sg s.Equals ∷ one ∷ sg s.Semicolon ∷
    [])

-- UPDATE t SET;
abbrev no_assignment : List Token
no_assignment = tokens_of (wd w.Update ∷ t ∷ wd w.Set ∷ sg s.Semicolon ∷ [])

-- UPDATE t SET k = 1, WHERE k;
abbrev a_comma_too_many : List Token
a_comma_too_many = tokens_of (wd w.Update ∷ t ∷ wd w.Set ∷ k ∷ sg s.Equals ∷ one ∷ sg s.Comma ∷
    wd w.Where ∷ k ∷ sg s.Semicolon ∷ [])

-- ---- DELETE

-- DELETE FROM t WHERE k;
abbrev a_delete : List Token
a_delete = tokens_of (wd w.Delete ∷ wd w.From ∷ t ∷ wd w.Where ∷ k ∷ sg s.Semicolon ∷ [])

-- DELETE FROM t;
abbrev all_rows_removed : List Token
all_rows_removed = tokens_of (wd w.Delete ∷ wd w.From ∷ t ∷ sg s.Semicolon ∷ [])

-- DELETE t;
abbrev no_from : List Token
no_from = tokens_of (wd w.Delete ∷ t ∷ sg s.Semicolon ∷ [])

-- INSERT, UPDATE and DELETE
pub record WritingRows : Type 0 where
  pub columns_are_read : reading rules most_open statement listed_columns ≡ Ok (
    stmt_of.Insert (record {
      anchor = at 0;
      table = id_t 2;
      columns = id_k 4 ∷ id_t 6 ∷ [];
      source = q.Select (roll-Select (record {
        anchor = at 8;
        items = item.Value (name_k 9) None ∷ [];
        from = from.Comma (table_t 11) ∷ [];
        filter = None;
        group_by = [];
        having = None;
      }));
    }),
    [],
  )
  pub column_is_wanted : reading rules most_open dml no_column ≡ Err (NoSpelling (drop 4 no_column))
  pub source_is_wanted : reading rules most_open statement no_source ≡
      Err (NoSpelling (drop 6 no_source))
  -- of two signs of equality the first assigns, and the second compares
  pub assignments_are_read : reading rules most_open statement two_assignments ≡ Ok (
    stmt_of.Update (record {
      anchor = at 0;
      table = id_t 1;
      assignments = record { target = id_k 3; value = number_one 5 }
          ∷ record {
            target = id_t 7;
            value = e.Operation (at 10) (operation.Compare cmp.Equals)
                (name_k 9 ∷ number_one 11 ∷ []);
          } ∷ [];
      filter = Some (name_k 13);
    }),
    [],
  )
  pub update_of_all_is_read : reading rules most_open statement all_rows_changed ≡ Ok (
    stmt_of.Update (record {
      anchor = at 0;
      table = id_t 1;
      assignments =
          record { target = id_k 3; value = number_one 5 } ∷ [];
      filter = None;
    }),
    [],
  )
  pub assignment_is_wanted : reading rules most_open statement no_assignment ≡
      Err (NoSpelling (drop 3 no_assignment))
  pub one_more_is_wanted : reading rules most_open statement a_comma_too_many ≡
      Err (NoSpelling (drop 7 a_comma_too_many))
  pub delete_is_read : reading rules most_open statement a_delete ≡ Ok (
    stmt_of.Delete (record { anchor = at 0; table = id_t 2; filter = Some (name_k 4) }),
    [],
  )
  pub delete_of_all_is_read : reading rules most_open statement all_rows_removed ≡
      Ok (stmt_of.Delete (record { anchor = at 0; table = id_t 2; filter = None }), [])
  pub from_is_wanted : reading rules most_open statement no_from ≡ Err (NoSpelling (drop 1 no_from))

-- All of it holds by computation.
pub writing_rows_hold : WritingRows
unfolding same_kind bracketed ident varchar_length plain_type varchar data_type constant literal
    dotted column_name named function_call aggregate function case_expression exists primary
    unary_sign factor operator term sum comparison_sign comparison compared truth_test not_word
    asked tested in_word among predicate_part predicate negation conjunction expr after more_exprs
    exprs for_length as_type all_rows argument operands when_clause more_when_clauses when_clauses
    else_clause arms cases more_idents idents column_list alias select_value more_select_values
    select_values all_columns select_list named_table derived_table table_ref on_condition joined_on
    comma_item cross_join left_join inner_join from_item more_from_items first_item from_items
    from_clause filter more_column_names column_names group_clause group_by having grouping
    select_word select row more_rows rows values_word values query query_or_expr query_or_exprs
    direction sort_specification more_sort_specifications sort_specifications order_clause order_by
    ordered_query insertion into_table insert_word insert assignment more_assignments assignments
    set_clause update_word update from_table delete_word delete parameter_argument call_argument
    more_call_arguments call_arguments if_call_arguments call_word call dml state_text state
    state_value exception_value warning_value not_found condition_value more_condition_values
    condition_values sqlstate signal_value message_text message if_message signal_word signal
    resignal_word if_signal_value resignal statement_item_name statement_item_value statement_item
    more_statement_items statement_items condition_item_name condition_item_value condition_item
    more_condition_items condition_items written_number condition_number numbered_items
    condition_information information written_area area diagnostics get_word get_diagnostics
    set_word set_statement targets select_into open_word open_statement close_word close_statement
    fetch_word fetch_orientation fetched_cursor fetch leave_word leave_statement iterate_word
    iterate_statement return_word return_statement storing cursor_statement condition_statement
    leaving simple_statement end_label construct structure structures label if_label labelled
    labelled_block if_construct if_statement case_construct case_statement stmt ended statements
    body body_after branch branch_after more_branches branches otherwise if_body when_branches
    case_body while_body repeat_body for_query for_body default_clause variables condition cursor
    named_declaration named_cursor handler_type handled handler declaration declarations atomic
    block_body structure_body not_null key_words primary_key column_constraint constraints column
    table_column table_key element more_elements elements table_definition create_table parameter
    more_parameters parameters if_parameters written_mode mode modal_parameter more_modal_parameters
    modal_parameters if_modal_parameters language deterministic not_deterministic contains_sql
    data_access data_characteristic null_call null_characteristic characteristic characteristics
    returns_type function_definition create_function procedure_definition create_procedure
    create_word created create object_sort dropped_name drop_word drop_object ddl explain_word
    explain other_statement unended statement
writing_rows_hold = record {
  columns_are_read = refl;
  column_is_wanted = refl;
  source_is_wanted = refl;
  assignments_are_read = refl;
  update_of_all_is_read = refl;
  assignment_is_wanted = refl;
  one_more_is_wanted = refl;
  delete_is_read = refl;
  delete_of_all_is_read = refl;
  from_is_wanted = refl;
}

-- ---- CREATE TABLE

-- CREATE TABLE t (k INT NOT NULL, PRIMARY KEY (k, t), t INT PRIMARY KEY);
abbrev two_keys : List Token
two_keys = tokens_of (wd w.Create ∷ wd w.Table ∷ t ∷ sg s.LeftParen ∷ k ∷ wd w.Int ∷ wd w.Not ∷
    wd w.Null ∷ sg s.Comma
    ∷ wd w.Primary ∷ wd w.Key ∷ sg s.LeftParen ∷ k ∷ sg s.Comma ∷ t ∷ sg s.RightParen ∷ sg s.Comma
    ∷ t ∷ wd w.Int ∷ wd w.Primary ∷ wd w.Key ∷ sg s.RightParen ∷ sg s.Semicolon ∷ [])

-- CREATE TABLE t (PRIMARY KEY (k))
abbrev a_key_alone : List Token
a_key_alone = tokens_of (wd w.Create ∷ wd w.Table ∷ t ∷ sg s.LeftParen ∷ wd w.Primary ∷ wd w.Key ∷
    sg s.LeftParen ∷ k ∷ sg s.RightParen ∷ sg s.RightParen ∷ [])

-- CREATE TABLE t (PRIMARY KEY ())
abbrev a_key_of_none : List Token
a_key_of_none = tokens_of (wd w.Create ∷ wd w.Table ∷ t ∷ sg s.LeftParen ∷ wd w.Primary ∷ wd w.Key ∷
    sg s.LeftParen ∷ sg s.RightParen ∷ sg s.RightParen ∷ [])

-- CREATE TABLE t (PRIMARY KEY k)
abbrev a_key_without_brackets : List Token
a_key_without_brackets = tokens_of (wd w.Create ∷ wd w.Table ∷ t ∷ sg s.LeftParen ∷ wd w.Primary ∷
    wd w.Key ∷ k ∷ sg s.RightParen ∷ [])

-- CREATE TABLE t (k INT,)
abbrev an_element_too_few : List Token
an_element_too_few = tokens_of (wd w.Create ∷ wd w.Table ∷ t ∷ sg s.LeftParen ∷ k ∷ wd w.Int ∷
    sg s.Comma ∷ sg s.RightParen ∷ [])

-- ---- DROP

-- DROP TABLE t RESTRICT;
abbrev restricted : List Token
restricted = tokens_of (wd w.Drop ∷ wd w.Table ∷ t ∷ wd w.Restrict ∷ sg s.Semicolon ∷ [])

-- DROP FUNCTION k;
abbrev a_function_dropped : List Token
a_function_dropped = tokens_of (wd w.Drop ∷ wd w.Function ∷ k ∷ sg s.Semicolon ∷ [])

-- DROP PROCEDURE k;
abbrev a_procedure_dropped : List Token
a_procedure_dropped = tokens_of (wd w.Drop ∷ wd w.Procedure ∷ k ∷ sg s.Semicolon ∷ [])

-- DROP t;
abbrev no_sort : List Token
no_sort = tokens_of (wd w.Drop ∷ t ∷ sg s.Semicolon ∷ [])

-- DROP TABLE t RESTRICT RESTRICT;
abbrev restricted_twice : List Token
restricted_twice = tokens_of (wd w.Drop ∷ wd w.Table ∷ t ∷ wd w.Restrict ∷ wd w.Restrict ∷
    sg s.Semicolon ∷ [])

-- CREATE TABLE, and DROP
pub record DefinitionRows : Type 0 where
  -- an element is told by its first token, wherever it stands; that there is one key is no matter
  -- of the grammar
  pub keys_are_read : reading rules most_open statement two_keys ≡ Ok (
    stmt_of.CreateTable (record {
      anchor = at 0;
      name = id_t 2;
      elements = element_of.Column (record {
        name = id_k 4;
        data_type = integer_at 5;
        constraints =
            constraint.NotNull ∷ [];
      })
          ∷ element_of.PrimaryKey (at 9) (id_k 12 ∷ id_t 14 ∷ [])
          ∷ element_of.Column (record {
            name = id_t 17;
            data_type = integer_at 18;
            constraints =
                constraint.PrimaryKey (at 19) ∷ [];
          }) ∷ [];
    }),
    [],
  )
  pub key_stands_alone : reading rules 2 ddl a_key_alone ≡ Ok (
    stmt_of.CreateTable (record {
      anchor = at 0;
      name = id_t 2;
      elements =
          element_of.PrimaryKey (at 4) (id_k 7 ∷ []) ∷ [];
    }),
    [],
  )
  -- a key's brackets stand in those of the table
  pub key_is_too_deep : reading rules 1 ddl a_key_alone ≡ Err (TooDeep (drop 6 a_key_alone))
  pub column_is_wanted : reading rules most_open ddl a_key_of_none ≡
      Err (NoSpelling (drop 7 a_key_of_none))
  pub brackets_are_wanted : reading rules most_open ddl a_key_without_brackets ≡
      Err (NoSpelling (drop 6 a_key_without_brackets))
  pub element_is_wanted : reading rules most_open ddl an_element_too_few ≡
      Err (NoSpelling (drop 7 an_element_too_few))
  -- RESTRICT changes nothing
  pub drop_is_read : reading rules most_open statement restricted ≡
      Ok (stmt_of.Drop (record { anchor = at 0; sort = sort.Table; name = id_t 2 }), [])
  pub drop_of_function_is_read : reading rules most_open statement a_function_dropped ≡ Ok (
    stmt_of.Drop (record { anchor = at 0; sort = sort.Function; name = id_k 2 }),
    [],
  )
  pub drop_of_procedure_is_read : reading rules most_open statement a_procedure_dropped ≡ Ok (
    stmt_of.Drop (record { anchor = at 0; sort = sort.Procedure; name = id_k 2 }),
    [],
  )
  pub sort_is_wanted : reading rules most_open statement no_sort ≡ Err (NoSpelling (drop 1 no_sort))
  pub restrict_stands_once : reading rules most_open statement restricted_twice ≡
      Err (NoSpelling (drop 4 restricted_twice))

-- All of it holds by computation.
pub definition_rows_hold : DefinitionRows
unfolding same_kind bracketed ident varchar_length plain_type varchar data_type constant literal
    dotted column_name named function_call aggregate function case_expression exists primary
    unary_sign factor operator term sum comparison_sign comparison compared truth_test not_word
    asked tested in_word among predicate_part predicate negation conjunction expr after more_exprs
    exprs for_length as_type all_rows argument operands when_clause more_when_clauses when_clauses
    else_clause arms cases more_idents idents column_list alias select_value more_select_values
    select_values all_columns select_list named_table derived_table table_ref on_condition joined_on
    comma_item cross_join left_join inner_join from_item more_from_items first_item from_items
    from_clause filter more_column_names column_names group_clause group_by having grouping
    select_word select row more_rows rows values_word values query query_or_expr query_or_exprs
    direction sort_specification more_sort_specifications sort_specifications order_clause order_by
    ordered_query insertion into_table insert_word insert assignment more_assignments assignments
    set_clause update_word update from_table delete_word delete parameter_argument call_argument
    more_call_arguments call_arguments if_call_arguments call_word call dml state_text state
    state_value exception_value warning_value not_found condition_value more_condition_values
    condition_values sqlstate signal_value message_text message if_message signal_word signal
    resignal_word if_signal_value resignal statement_item_name statement_item_value statement_item
    more_statement_items statement_items condition_item_name condition_item_value condition_item
    more_condition_items condition_items written_number condition_number numbered_items
    condition_information information written_area area diagnostics get_word get_diagnostics
    set_word set_statement targets select_into open_word open_statement close_word close_statement
    fetch_word fetch_orientation fetched_cursor fetch leave_word leave_statement iterate_word
    iterate_statement return_word return_statement storing cursor_statement condition_statement
    leaving simple_statement end_label construct structure structures label if_label labelled
    labelled_block if_construct if_statement case_construct case_statement stmt ended statements
    body body_after branch branch_after more_branches branches otherwise if_body when_branches
    case_body while_body repeat_body for_query for_body default_clause variables condition cursor
    named_declaration named_cursor handler_type handled handler declaration declarations atomic
    block_body structure_body not_null key_words primary_key column_constraint constraints column
    table_column table_key element more_elements elements table_definition create_table parameter
    more_parameters parameters if_parameters written_mode mode modal_parameter more_modal_parameters
    modal_parameters if_modal_parameters language deterministic not_deterministic contains_sql
    data_access data_characteristic null_call null_characteristic characteristic characteristics
    returns_type function_definition create_function procedure_definition create_procedure
    create_word created create object_sort dropped_name drop_word drop_object ddl explain_word
    explain other_statement unended statement
definition_rows_hold = record {
  keys_are_read = refl;
  key_stands_alone = refl;
  key_is_too_deep = refl;
  column_is_wanted = refl;
  brackets_are_wanted = refl;
  element_is_wanted = refl;
  drop_is_read = refl;
  drop_of_function_is_read = refl;
  drop_of_procedure_is_read = refl;
  sort_is_wanted = refl;
  restrict_stands_once = refl;
}
