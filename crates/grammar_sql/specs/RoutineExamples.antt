-- Worked rows of routines: what the grammar reads, and what it does not.
use Rattle.std.specs.Prelude.{◌≡◌, ℕ, true, false, List, [], ◌∷◌, Some, None, Ok, Err, pos, codes}
use Rattle.std.specs.Prelude.{drop, refl}
use denote.Hole.Carrier.{out}
use Rattle.sql_lex.specs.declared.sign.Sign.TheVariants as s
use Rattle.sql_lex.specs.declared.token.Lexeme.{Lexeme}
use Rattle.sql_lex.specs.declared.token.Lexeme.TheVariants as lexeme
use Rattle.sql_lex.specs.declared.token.Token.{Token}
use Rattle.sql_lex.specs.declared.word.Word.TheVariants as w
use Rattle.sql_values.specs.declared.operators.Comparison.TheVariants as cmp
use Rattle.sql_values.specs.declared.operators.Operator.TheVariants as op
use Rattle.syntax_trees.specs.declared.anchor.Ident.{Ident}
use Rattle.syntax_trees.specs.declared.data_type.TypeName.TheVariants as type
use Rattle.syntax_trees.specs.declared.expr.ChainOperator.TheVariants as chain_operator
use Rattle.syntax_trees.specs.declared.expr.Expr.TheVariants as e
use Rattle.syntax_trees.specs.declared.expr.Literal.TheVariants as literal_of
use Rattle.syntax_trees.specs.declared.expr.Operation.TheVariants as operation
use Rattle.syntax_trees.specs.declared.query.FromItem.TheVariants as from
use Rattle.syntax_trees.specs.declared.query.Query.TheVariants as q
use Rattle.syntax_trees.specs.declared.query.Select.{roll-Select}
use Rattle.syntax_trees.specs.declared.query.SelectItem.TheVariants as item
use Rattle.statement_trees.specs.declared.condition.ConditionItemName.TheVariants as condition_item_of
use Rattle.statement_trees.specs.declared.condition.ConditionNumber.TheVariants as condition_number_of
use Rattle.statement_trees.specs.declared.condition.ConditionValue.TheVariants as condition_value_of
use Rattle.statement_trees.specs.declared.condition.DiagnosticsArea.TheVariants as area_of
use Rattle.statement_trees.specs.declared.condition.DiagnosticsInformation.TheVariants as information_of
use Rattle.statement_trees.specs.declared.condition.SignalValue.TheVariants as signal_value_of
use Rattle.statement_trees.specs.declared.condition.SqlstateValue.{SqlstateValue}
use Rattle.statement_trees.specs.declared.condition.StatementItemName.TheVariants as statement_item_of
use Rattle.statement_trees.specs.declared.declaration.HandlerType.TheVariants as handler_type_of
use Rattle.statement_trees.specs.declared.definition.CharacteristicKind.TheVariants as characteristic_of
use Rattle.statement_trees.specs.declared.definition.ParameterMode.TheVariants as mode_of
use Rattle.statement_trees.specs.declared.statement.Block.{roll-Block}
use Rattle.statement_trees.specs.declared.statement.Branch.{roll-Branch}
use Rattle.statement_trees.specs.declared.statement.Case.{roll-Case}
use Rattle.statement_trees.specs.declared.statement.CreateFunction.{roll-CreateFunction}
use Rattle.statement_trees.specs.declared.statement.CreateProcedure.{roll-CreateProcedure}
use Rattle.statement_trees.specs.declared.statement.Declaration.{out-Declaration}
use Rattle.statement_trees.specs.declared.statement.Declaration.TheVariants as declaration_of
use Rattle.statement_trees.specs.declared.statement.Handler.{roll-Handler}
use Rattle.statement_trees.specs.declared.statement.If.{roll-If}
use Rattle.statement_trees.specs.declared.statement.Labelled.{roll-Labelled}
use Rattle.statement_trees.specs.declared.statement.Stmt.TheVariants as stmt_of
use Rattle.statement_trees.specs.declared.statement.Structure.TheVariants as structure_of
use Rattle.statement_trees.specs.declared.writing.Argument.TheVariants as argument_of
use Rattle.grammar_algebra.specs.Examples.{tokens_of}
use Rattle.grammar_algebra.specs.Reading.{same_kind, reading, NoSpelling, TooDeep}
use Rattle.grammar_algebra.specs.Statement.{most_open}
use Rattle.grammar_sql.specs.Constructs.{open_after}
use Rattle.grammar_sql.specs.Trees.{bracketed, ident, varchar_length, plain_type, varchar}
use Rattle.grammar_sql.specs.Trees.{data_type}
use Rattle.grammar_sql.specs.Expressions.{unqualified, constant, literal, dotted, column_name}
use Rattle.grammar_sql.specs.Expressions.{named, function_call, aggregate, function}
use Rattle.grammar_sql.specs.Expressions.{case_expression, exists, primary, unary_sign, factor}
use Rattle.grammar_sql.specs.Expressions.{operator, term, sum, comparison_sign, comparison}
use Rattle.grammar_sql.specs.Expressions.{compared, truth_test, not_word, asked, tested, in_word}
use Rattle.grammar_sql.specs.Expressions.{among, predicate_part, predicate, negation, conjunction}
use Rattle.grammar_sql.specs.Expressions.{expr, after, more_exprs, exprs, for_length, as_type}
use Rattle.grammar_sql.specs.Expressions.{all_rows, argument, operands, when_clause}
use Rattle.grammar_sql.specs.Expressions.{more_when_clauses, when_clauses, else_clause, arms, cases}
use Rattle.grammar_sql.specs.Queries.{more_idents, idents, column_list, alias, select_value}
use Rattle.grammar_sql.specs.Queries.{more_select_values, select_values, all_columns, select_list}
use Rattle.grammar_sql.specs.Queries.{named_table, derived_table, table_ref, on_condition}
use Rattle.grammar_sql.specs.Queries.{joined_on, comma_item, cross_join, left_join, inner_join}
use Rattle.grammar_sql.specs.Queries.{from_item, more_from_items, first_item, from_items}
use Rattle.grammar_sql.specs.Queries.{from_clause, filter, more_column_names, column_names}
use Rattle.grammar_sql.specs.Queries.{group_clause, group_by, having, grouping, select_word, select}
use Rattle.grammar_sql.specs.Queries.{row, more_rows, rows, values_word, values, query}
use Rattle.grammar_sql.specs.Queries.{query_or_expr, query_or_exprs, direction, sort_specification}
use Rattle.grammar_sql.specs.Queries.{more_sort_specifications, sort_specifications, order_clause}
use Rattle.grammar_sql.specs.Queries.{order_by, ordered_query}
use Rattle.grammar_sql.specs.Writing.{insertion, into_table, insert_word, insert, assignment}
use Rattle.grammar_sql.specs.Writing.{more_assignments, assignments, set_clause, update_word}
use Rattle.grammar_sql.specs.Writing.{update, from_table, delete_word, delete, parameter_argument}
use Rattle.grammar_sql.specs.Writing.{call_argument, more_call_arguments, call_arguments}
use Rattle.grammar_sql.specs.Writing.{if_call_arguments, call_word, call, dml}
use Rattle.grammar_sql.specs.Conditions.{state_text, state, state_value, exception_value}
use Rattle.grammar_sql.specs.Conditions.{warning_value, not_found, condition_value}
use Rattle.grammar_sql.specs.Conditions.{more_condition_values, condition_values, sqlstate}
use Rattle.grammar_sql.specs.Conditions.{signal_value, message_text, message, if_message}
use Rattle.grammar_sql.specs.Conditions.{signal_word, signal, resignal_word, if_signal_value}
use Rattle.grammar_sql.specs.Conditions.{resignal, statement_item_name, statement_item_value}
use Rattle.grammar_sql.specs.Conditions.{statement_item, more_statement_items, statement_items}
use Rattle.grammar_sql.specs.Conditions.{condition_item_name, condition_item_value, condition_item}
use Rattle.grammar_sql.specs.Conditions.{more_condition_items, condition_items, written_number}
use Rattle.grammar_sql.specs.Conditions.{condition_number, numbered_items, condition_information}
use Rattle.grammar_sql.specs.Conditions.{information, written_area, area, diagnostics, get_word}
use Rattle.grammar_sql.specs.Conditions.{get_diagnostics}
use Rattle.grammar_sql.specs.Statements.{set_word, set_statement, targets, select_into, open_word}
use Rattle.grammar_sql.specs.Statements.{open_statement, close_word, close_statement, fetch_word}
use Rattle.grammar_sql.specs.Statements.{fetch_orientation, fetched_cursor, fetch, leave_word}
use Rattle.grammar_sql.specs.Statements.{leave_statement, iterate_word, iterate_statement}
use Rattle.grammar_sql.specs.Statements.{return_word, return_statement, storing, cursor_statement}
use Rattle.grammar_sql.specs.Statements.{condition_statement, leaving, simple_statement, end_label}
use Rattle.grammar_sql.specs.Statements.{construct, structure, structures, label, if_label}
use Rattle.grammar_sql.specs.Statements.{labelled, labelled_block, if_construct, if_statement}
use Rattle.grammar_sql.specs.Statements.{case_construct, case_statement, stmt, ended, statements}
use Rattle.grammar_sql.specs.Statements.{body, body_after, branch, branch_after, more_branches}
use Rattle.grammar_sql.specs.Statements.{branches, otherwise, if_body, when_branches, case_body}
use Rattle.grammar_sql.specs.Statements.{while_body, repeat_body, for_query, for_body}
use Rattle.grammar_sql.specs.Declarations.{default_clause, variables, condition, cursor}
use Rattle.grammar_sql.specs.Declarations.{named_declaration, named_cursor, handler_type, handled}
use Rattle.grammar_sql.specs.Declarations.{handler, declaration, declarations, atomic, block_body}
use Rattle.grammar_sql.specs.Declarations.{structure_body}
use Rattle.grammar_sql.specs.Definitions.{not_null, key_words, primary_key, column_constraint}
use Rattle.grammar_sql.specs.Definitions.{constraints, column, table_column, table_key, element}
use Rattle.grammar_sql.specs.Definitions.{more_elements, elements, table_definition, create_table}
use Rattle.grammar_sql.specs.Definitions.{parameter, more_parameters, parameters, if_parameters}
use Rattle.grammar_sql.specs.Definitions.{written_mode, mode, modal_parameter}
use Rattle.grammar_sql.specs.Definitions.{more_modal_parameters, modal_parameters}
use Rattle.grammar_sql.specs.Definitions.{if_modal_parameters, language, deterministic}
use Rattle.grammar_sql.specs.Definitions.{not_deterministic, contains_sql, data_access}
use Rattle.grammar_sql.specs.Definitions.{data_characteristic, null_call, null_characteristic}
use Rattle.grammar_sql.specs.Definitions.{characteristic, characteristics, returns_type}
use Rattle.grammar_sql.specs.Definitions.{function_definition, create_function}
use Rattle.grammar_sql.specs.Definitions.{procedure_definition, create_procedure, create_word}
use Rattle.grammar_sql.specs.Definitions.{created, create, object_sort, dropped_name, drop_word}
use Rattle.grammar_sql.specs.Definitions.{drop_object, ddl}
use Rattle.grammar_sql.specs.Sql.{explain_word, explain, other_statement, unended, statement, rules}
use Rattle.grammar_sql.specs.Examples.{wd, sg, k, t, one, at, id_k, id_t, name_k, name_t}
use Rattle.grammar_sql.specs.Examples.{number_one, link, type_at, integer_at, table_k, table_t}
use Rattle.grammar_sql.specs.Examples.{values_at}

-- a text
abbrev text_t : Lexeme
text_t = lexeme.Text (codes "T")

-- the names C and L
abbrev c : Lexeme
c = lexeme.Name (codes "C")

-- the name L
abbrev l : Lexeme
l = lexeme.Name (codes "L")

-- the name C, written at the n-th token
abbrev id_c : ℕ → Ident
id_c n = record { name = codes "C"; anchor = at n }

-- the name L, written at the n-th token
abbrev id_l : ℕ → Ident
id_l n = record { name = codes "L"; anchor = at n }

-- the text of a state, written at the n-th token
abbrev state_t : ℕ → SqlstateValue
state_t n = record { anchor = at n; text = codes "T" }

-- ---- compound statements

-- l: BEGIN ATOMIC DECLARE k, t INT DEFAULT 1; DECLARE t CONDITION FOR SQLSTATE 'T'; DECLARE c
-- CURSOR FOR VALUES (1) ORDER BY k; DECLARE EXIT HANDLER FOR t SET k = 1; SET k = 1; OPEN c; END l;
abbrev a_block : List Token
a_block = tokens_of (l ∷ sg s.Colon ∷ wd w.Begin ∷ wd w.Atomic ∷ wd w.Declare ∷ k ∷ sg s.Comma ∷ t ∷
    wd w.Int ∷ wd w.Default ∷ one
    ∷ sg s.Semicolon ∷ wd w.Declare ∷ t ∷ wd w.Condition ∷ wd w.For ∷ wd w.Sqlstate ∷ text_t ∷
    sg s.Semicolon
    ∷ wd w.Declare ∷ c ∷ wd w.Cursor ∷ wd w.For ∷ wd w.Values ∷ sg s.LeftParen ∷ one ∷
    sg s.RightParen ∷ wd w.Order
    ∷ wd w.By ∷ k ∷ sg s.Semicolon ∷ wd w.Declare ∷ wd w.Exit ∷ wd w.Handler ∷ wd w.For ∷ t ∷
    wd w.Set ∷ k ∷ sg s.Equals
    ∷ one ∷ sg s.Semicolon ∷ wd w.Set ∷ k ∷ sg s.Equals ∷ one ∷ sg s.Semicolon ∷ wd w.Open ∷ c ∷
    sg s.Semicolon ∷ wd w.End
    ∷ l ∷ sg s.Semicolon ∷ [])

-- BEGIN END;
abbrev an_empty_block : List Token
an_empty_block = tokens_of (wd w.Begin ∷ wd w.End ∷ sg s.Semicolon ∷ [])

-- BEGIN NOT ATOMIC END t;
abbrev a_block_not_atomic : List Token
a_block_not_atomic = tokens_of (wd w.Begin ∷ wd w.Not ∷ wd w.Atomic ∷ wd w.End ∷ t ∷
    sg s.Semicolon ∷ [])

-- BEGIN NOT END;
abbrev not_alone : List Token
not_alone = tokens_of (wd w.Begin ∷ wd w.Not ∷ wd w.End ∷ sg s.Semicolon ∷ [])

-- l BEGIN END;
abbrev a_label_without_colon : List Token
a_label_without_colon = tokens_of (l ∷ wd w.Begin ∷ wd w.End ∷ sg s.Semicolon ∷ [])

-- BEGIN SET k = 1 END;
abbrev a_statement_unended : List Token
a_statement_unended = tokens_of (wd w.Begin ∷ wd w.Set ∷ k ∷ sg s.Equals ∷ one ∷ wd w.End ∷
    sg s.Semicolon ∷ [])

-- BEGIN SET k = 1; DECLARE k INT; END;
abbrev a_declaration_too_late : List Token
a_declaration_too_late = tokens_of (wd w.Begin ∷ wd w.Set ∷ k ∷ sg s.Equals ∷ one ∷ sg s.Semicolon ∷
    wd w.Declare ∷ k ∷ wd w.Int ∷ sg s.Semicolon
    ∷ wd w.End ∷ sg s.Semicolon ∷ [])

-- compound statements: label, ATOMIC, declarations, end label
pub record BlockRows : Type 0 where
  -- the anchor is the word BEGIN, and the label before it is a name of its own
  pub block_is_read : reading rules most_open statement a_block ≡ Ok (
    stmt_of.Labelled (roll-Labelled (record {
      label = Some (id_l 0);
      anchor = at 2;
      structure = structure_of.Block (roll-Block (record {
        atomic = true;
        declarations = declaration_of.Variables
            (record {
              names = id_k 5 ∷ id_t 7 ∷ [];
              data_type = integer_at 8;
              default =
                  Some (number_one 10);
            })
            ∷ declaration_of.Condition (record { name = id_t 13; state = state_t 17 })
            ∷ declaration_of.Cursor (record {
              name = id_c 20;
              query = record {
                query = values_at 23;
                order =
                    record { name = id_k 29; descending = false } ∷ [];
              };
            })
            ∷ declaration_of.Handler (roll-Handler (record {
              anchor = at 32;
              handler_type = handler_type_of.Exit;
              values = condition_value_of.Condition (id_t 35) ∷ [];
              action = stmt_of.Set (at 36) (record { target = id_k 37; value = number_one 39 });
            })) ∷ [];
        statements = stmt_of.Set (at 41) (record { target = id_k 42; value = number_one 44 }) ∷
            stmt_of.Open (at 46) (id_c 47) ∷ [];
      }));
      end_label = Some (id_l 50);
    })),
    [],
  )
  -- neither ATOMIC nor a label is asked for
  pub block_may_be_empty : reading rules most_open statement an_empty_block ≡ Ok (
    stmt_of.Labelled (roll-Labelled (record {
      label = None;
      anchor = at 0;
      structure = structure_of.Block (roll-Block
          (record { atomic = false; declarations = []; statements = [] }));
      end_label = None;
    })),
    [],
  )
  -- NOT ATOMIC is as if nothing were written; a label may stand at the end alone: the grammar
  -- doesn't judge it
  pub not_atomic_is_read : reading rules most_open statement a_block_not_atomic ≡ Ok (
    stmt_of.Labelled (roll-Labelled (record {
      label = None;
      anchor = at 0;
      structure = structure_of.Block (roll-Block
          (record { atomic = false; declarations = []; statements = [] }));
      end_label = Some (id_t 4);
    })),
    [],
  )
  pub atomic_is_wanted : reading rules most_open statement not_alone ≡
      Err (NoSpelling (drop 2 not_alone))
  pub colon_is_wanted : reading rules most_open statement a_label_without_colon ≡
      Err (NoSpelling (drop 1 a_label_without_colon))
  pub semicolon_is_wanted : reading rules most_open statement a_statement_unended ≡
      Err (NoSpelling (drop 5 a_statement_unended))
  pub declarations_come_first : reading rules most_open statement a_declaration_too_late ≡
      Err (NoSpelling (drop 6 a_declaration_too_late))

-- which stage follows a declaration is told by what it declares, so these look into it
pub block_rows_hold : BlockRows
unfolding same_kind out out-Declaration bracketed ident varchar_length plain_type varchar data_type
    constant literal dotted column_name named function_call aggregate function case_expression
    exists primary unary_sign factor operator term sum comparison_sign comparison compared
    truth_test not_word asked tested in_word among predicate_part predicate negation conjunction
    expr after more_exprs exprs for_length as_type all_rows argument operands when_clause
    more_when_clauses when_clauses else_clause arms cases more_idents idents column_list alias
    select_value more_select_values select_values all_columns select_list named_table derived_table
    table_ref on_condition joined_on comma_item cross_join left_join inner_join from_item
    more_from_items first_item from_items from_clause filter more_column_names column_names
    group_clause group_by having grouping select_word select row more_rows rows values_word values
    query query_or_expr query_or_exprs direction sort_specification more_sort_specifications
    sort_specifications order_clause order_by ordered_query insertion into_table insert_word insert
    assignment more_assignments assignments set_clause update_word update from_table delete_word
    delete parameter_argument call_argument more_call_arguments call_arguments if_call_arguments
    call_word call dml state_text state state_value exception_value warning_value not_found
    condition_value more_condition_values condition_values sqlstate signal_value message_text
    message if_message signal_word signal resignal_word if_signal_value resignal statement_item_name
    statement_item_value statement_item more_statement_items statement_items condition_item_name
    condition_item_value condition_item more_condition_items condition_items written_number
    condition_number numbered_items condition_information information written_area area diagnostics
    get_word get_diagnostics set_word set_statement targets select_into open_word open_statement
    close_word close_statement fetch_word fetch_orientation fetched_cursor fetch leave_word
    leave_statement iterate_word iterate_statement return_word return_statement storing
    cursor_statement condition_statement leaving simple_statement end_label construct structure
    structures label if_label labelled labelled_block if_construct if_statement case_construct
    case_statement stmt ended statements body body_after branch branch_after more_branches branches
    otherwise if_body when_branches case_body while_body repeat_body for_query for_body
    default_clause variables condition cursor named_declaration named_cursor handler_type handled
    handler declaration declarations atomic block_body structure_body not_null key_words primary_key
    column_constraint constraints column table_column table_key element more_elements elements
    table_definition create_table parameter more_parameters parameters if_parameters written_mode
    mode modal_parameter more_modal_parameters modal_parameters if_modal_parameters language
    deterministic not_deterministic contains_sql data_access data_characteristic null_call
    null_characteristic characteristic characteristics returns_type function_definition
    create_function procedure_definition create_procedure create_word created create object_sort
    dropped_name drop_word drop_object ddl explain_word explain other_statement unended statement
block_rows_hold = record {
  block_is_read = refl;
  block_may_be_empty = refl;
  not_atomic_is_read = refl;
  atomic_is_wanted = refl;
  colon_is_wanted = refl;
  semicolon_is_wanted = refl;
  declarations_come_first = refl;
}

-- ---- the order of declarations

-- BEGIN DECLARE t CONDITION FOR SQLSTATE VALUE 'T'; DECLARE k INT; DECLARE c CURSOR FOR VALUES (1);
-- DECLARE k CURSOR FOR VALUES (1); DECLARE UNDO HANDLER FOR t CLOSE c; DECLARE EXIT HANDLER FOR k
-- CLOSE c; END;
abbrev all_stages : List Token
all_stages = tokens_of (wd w.Begin ∷ wd w.Declare ∷ t ∷ wd w.Condition ∷ wd w.For ∷ wd w.Sqlstate ∷
    wd w.Value ∷ text_t ∷ sg s.Semicolon
    ∷ wd w.Declare ∷ k ∷ wd w.Int ∷ sg s.Semicolon ∷ wd w.Declare ∷ c ∷ wd w.Cursor ∷ wd w.For ∷
    wd w.Values
    ∷ sg s.LeftParen ∷ one ∷ sg s.RightParen ∷ sg s.Semicolon ∷ wd w.Declare ∷ k ∷ wd w.Cursor ∷
    wd w.For ∷ wd w.Values
    ∷ sg s.LeftParen ∷ one ∷ sg s.RightParen ∷ sg s.Semicolon ∷ wd w.Declare ∷ wd w.Undo ∷
    wd w.Handler ∷ wd w.For ∷ t
    ∷ wd w.Close ∷ c ∷ sg s.Semicolon ∷ wd w.Declare ∷ wd w.Exit ∷ wd w.Handler ∷ wd w.For ∷ k ∷
    wd w.Close ∷ c
    ∷ sg s.Semicolon ∷ wd w.End ∷ sg s.Semicolon ∷ [])

-- BEGIN DECLARE c CURSOR FOR VALUES (1); DECLARE k INT; END;
abbrev a_variable_after_a_cursor : List Token
a_variable_after_a_cursor = tokens_of (wd w.Begin ∷ wd w.Declare ∷ c ∷ wd w.Cursor ∷ wd w.For ∷
    wd w.Values ∷ sg s.LeftParen ∷ one ∷ sg s.RightParen
    ∷ sg s.Semicolon ∷ wd w.Declare ∷ k ∷ wd w.Int ∷ sg s.Semicolon ∷ wd w.End ∷ sg s.Semicolon ∷
    [])

-- BEGIN DECLARE c CURSOR FOR VALUES (1); DECLARE k CONDITION FOR SQLSTATE 'T'; END;
abbrev a_condition_after_a_cursor : List Token
a_condition_after_a_cursor = tokens_of (wd w.Begin ∷ wd w.Declare ∷ c ∷ wd w.Cursor ∷ wd w.For ∷
    wd w.Values ∷ sg s.LeftParen ∷ one ∷ sg s.RightParen
    ∷ sg s.Semicolon ∷ wd w.Declare ∷ k ∷ wd w.Condition ∷ wd w.For ∷ wd w.Sqlstate ∷ text_t ∷
    sg s.Semicolon ∷ wd w.End
    ∷ sg s.Semicolon ∷ [])

-- BEGIN DECLARE EXIT HANDLER FOR k SET k = 1; DECLARE c CURSOR FOR VALUES (1); END;
abbrev a_cursor_after_a_handler : List Token
a_cursor_after_a_handler = tokens_of (wd w.Begin ∷ wd w.Declare ∷ wd w.Exit ∷ wd w.Handler ∷
    wd w.For ∷ k ∷ wd w.Set ∷ k ∷ sg s.Equals ∷ one
    ∷ sg s.Semicolon ∷ wd w.Declare ∷ c ∷ wd w.Cursor ∷ wd w.For ∷ wd w.Values ∷ sg s.LeftParen ∷
    one ∷ sg s.RightParen
    ∷ sg s.Semicolon ∷ wd w.End ∷ sg s.Semicolon ∷ [])

-- BEGIN DECLARE EXIT HANDLER FOR k SET k = 1; DECLARE k INT; END;
abbrev a_variable_after_a_handler : List Token
a_variable_after_a_handler = tokens_of (wd w.Begin ∷ wd w.Declare ∷ wd w.Exit ∷ wd w.Handler ∷
    wd w.For ∷ k ∷ wd w.Set ∷ k ∷ sg s.Equals ∷ one
    ∷ sg s.Semicolon ∷ wd w.Declare ∷ k ∷ wd w.Int ∷ sg s.Semicolon ∷ wd w.End ∷ sg s.Semicolon ∷
    [])

-- BEGIN DECLARE c, k CURSOR FOR VALUES (1); END;
abbrev two_cursors_at_once : List Token
two_cursors_at_once = tokens_of (wd w.Begin ∷ wd w.Declare ∷ c ∷ sg s.Comma ∷ k ∷ wd w.Cursor ∷
    wd w.For ∷ wd w.Values ∷ sg s.LeftParen ∷ one
    ∷ sg s.RightParen ∷ sg s.Semicolon ∷ wd w.End ∷ sg s.Semicolon ∷ [])

-- BEGIN DECLARE k DEFAULT 1; END;
abbrev a_variable_without_type : List Token
a_variable_without_type = tokens_of (wd w.Begin ∷ wd w.Declare ∷ k ∷ wd w.Default ∷ one ∷
    sg s.Semicolon ∷ wd w.End ∷ sg s.Semicolon ∷ [])

-- declarations by stages: variables and conditions, then cursors, then handlers
pub record DeclarationRows : Type 0 where
  -- variables and conditions stand in any order, and each stage may have several
  pub stages_are_read : reading rules most_open statement all_stages ≡ Ok (
    stmt_of.Labelled (roll-Labelled (record {
      label = None;
      anchor = at 0;
      structure = structure_of.Block (roll-Block (record {
        atomic = false;
        declarations = declaration_of.Condition (record { name = id_t 2; state = state_t 7 })
            ∷ declaration_of.Variables (record {
              names = id_k 10 ∷ [];
              data_type = integer_at 11;
              default = None;
            })
            ∷ declaration_of.Cursor (record {
              name = id_c 14;
              query =
                  record { query = values_at 17; order = [] };
            })
            ∷ declaration_of.Cursor (record {
              name = id_k 23;
              query =
                  record { query = values_at 26; order = [] };
            })
            ∷ declaration_of.Handler (roll-Handler (record {
              anchor = at 32;
              handler_type = handler_type_of.Undo;
              values = condition_value_of.Condition (id_t 35) ∷ [];
              action = stmt_of.Close (at 36) (id_c 37);
            }))
            ∷ declaration_of.Handler (roll-Handler (record {
              anchor = at 40;
              handler_type = handler_type_of.Exit;
              values = condition_value_of.Condition (id_k 43) ∷ [];
              action = stmt_of.Close (at 44) (id_c 45);
            })) ∷ [];
        statements = [];
      }));
      end_label = None;
    })),
    [],
  )
  -- after a cursor a name declares only another cursor
  pub variable_after_cursor : reading rules most_open statement a_variable_after_a_cursor ≡
      Err (NoSpelling (drop 12 a_variable_after_a_cursor))
  pub condition_after_cursor : reading rules most_open statement a_condition_after_a_cursor ≡
      Err (NoSpelling (drop 12 a_condition_after_a_cursor))
  -- after a handler only a handler
  pub cursor_after_handler : reading rules most_open statement a_cursor_after_a_handler ≡
      Err (NoSpelling (drop 12 a_cursor_after_a_handler))
  pub variable_after_handler : reading rules most_open statement a_variable_after_a_handler ≡
      Err (NoSpelling (drop 12 a_variable_after_a_handler))
  -- only variables share a declaration
  pub cursor_has_one_name : reading rules most_open statement two_cursors_at_once ≡
      Err (NoSpelling (drop 5 two_cursors_at_once))
  pub type_is_wanted : reading rules most_open statement a_variable_without_type ≡
      Err (NoSpelling (drop 3 a_variable_without_type))

-- which stage follows a declaration is told by what it declares, so these look into it
pub declaration_rows_hold : DeclarationRows
unfolding same_kind out out-Declaration bracketed ident varchar_length plain_type varchar data_type
    constant literal dotted column_name named function_call aggregate function case_expression
    exists primary unary_sign factor operator term sum comparison_sign comparison compared
    truth_test not_word asked tested in_word among predicate_part predicate negation conjunction
    expr after more_exprs exprs for_length as_type all_rows argument operands when_clause
    more_when_clauses when_clauses else_clause arms cases more_idents idents column_list alias
    select_value more_select_values select_values all_columns select_list named_table derived_table
    table_ref on_condition joined_on comma_item cross_join left_join inner_join from_item
    more_from_items first_item from_items from_clause filter more_column_names column_names
    group_clause group_by having grouping select_word select row more_rows rows values_word values
    query query_or_expr query_or_exprs direction sort_specification more_sort_specifications
    sort_specifications order_clause order_by ordered_query insertion into_table insert_word insert
    assignment more_assignments assignments set_clause update_word update from_table delete_word
    delete parameter_argument call_argument more_call_arguments call_arguments if_call_arguments
    call_word call dml state_text state state_value exception_value warning_value not_found
    condition_value more_condition_values condition_values sqlstate signal_value message_text
    message if_message signal_word signal resignal_word if_signal_value resignal statement_item_name
    statement_item_value statement_item more_statement_items statement_items condition_item_name
    condition_item_value condition_item more_condition_items condition_items written_number
    condition_number numbered_items condition_information information written_area area diagnostics
    get_word get_diagnostics set_word set_statement targets select_into open_word open_statement
    close_word close_statement fetch_word fetch_orientation fetched_cursor fetch leave_word
    leave_statement iterate_word iterate_statement return_word return_statement storing
    cursor_statement condition_statement leaving simple_statement end_label construct structure
    structures label if_label labelled labelled_block if_construct if_statement case_construct
    case_statement stmt ended statements body body_after branch branch_after more_branches branches
    otherwise if_body when_branches case_body while_body repeat_body for_query for_body
    default_clause variables condition cursor named_declaration named_cursor handler_type handled
    handler declaration declarations atomic block_body structure_body not_null key_words primary_key
    column_constraint constraints column table_column table_key element more_elements elements
    table_definition create_table parameter more_parameters parameters if_parameters written_mode
    mode modal_parameter more_modal_parameters modal_parameters if_modal_parameters language
    deterministic not_deterministic contains_sql data_access data_characteristic null_call
    null_characteristic characteristic characteristics returns_type function_definition
    create_function procedure_definition create_procedure create_word created create object_sort
    dropped_name drop_word drop_object ddl explain_word explain other_statement unended statement
declaration_rows_hold = record {
  stages_are_read = refl;
  variable_after_cursor = refl;
  condition_after_cursor = refl;
  cursor_after_handler = refl;
  variable_after_handler = refl;
  cursor_has_one_name = refl;
  type_is_wanted = refl;
}

-- ---- handlers

-- BEGIN DECLARE CONTINUE HANDLER FOR SQLSTATE 'T', SQLSTATE VALUE 'T', k, SQLEXCEPTION, SQLWARNING,
-- NOT FOUND BEGIN SET k = 1; END; END;
abbrev each_value : List Token
each_value = tokens_of (wd w.Begin ∷ wd w.Declare ∷ wd w.Continue ∷ wd w.Handler ∷ wd w.For ∷
    wd w.Sqlstate ∷ text_t ∷ sg s.Comma
    ∷ wd w.Sqlstate ∷ wd w.Value ∷ text_t ∷ sg s.Comma ∷ k ∷ sg s.Comma ∷ wd w.Sqlexception ∷
    sg s.Comma ∷ wd w.Sqlwarning
    ∷ sg s.Comma ∷ wd w.Not ∷ wd w.Found ∷ wd w.Begin ∷ wd w.Set ∷ k ∷ sg s.Equals ∷ one ∷
    sg s.Semicolon ∷ wd w.End
    ∷ sg s.Semicolon ∷ wd w.End ∷ sg s.Semicolon ∷ [])

-- BEGIN DECLARE UNDO HANDLER FOR NOT FOUND FOR k AS VALUES (1) DO SET t = 1; END FOR; END;
abbrev a_loop_for_an_action : List Token
a_loop_for_an_action = tokens_of (wd w.Begin ∷ wd w.Declare ∷ wd w.Undo ∷ wd w.Handler ∷ wd w.For ∷
    wd w.Not ∷ wd w.Found ∷ wd w.For ∷ k ∷ wd w.As
    ∷ wd w.Values ∷ sg s.LeftParen ∷ one ∷ sg s.RightParen ∷ wd w.Do ∷ wd w.Set ∷ t ∷ sg s.Equals ∷
    one ∷ sg s.Semicolon
    ∷ wd w.End ∷ wd w.For ∷ sg s.Semicolon ∷ wd w.End ∷ sg s.Semicolon ∷ [])

-- BEGIN DECLARE EXIT HANDLER FOR BEGIN END; END;
abbrev no_value : List Token
no_value = tokens_of (wd w.Begin ∷ wd w.Declare ∷ wd w.Exit ∷ wd w.Handler ∷ wd w.For ∷ wd w.Begin ∷
    wd w.End ∷ sg s.Semicolon ∷ wd w.End
    ∷ sg s.Semicolon ∷ [])

-- BEGIN DECLARE EXIT HANDLER FOR NOT SQLEXCEPTION SET k = 1; END;
abbrev not_without_found : List Token
not_without_found = tokens_of (wd w.Begin ∷ wd w.Declare ∷ wd w.Exit ∷ wd w.Handler ∷ wd w.For ∷
    wd w.Not ∷ wd w.Sqlexception ∷ wd w.Set ∷ k
    ∷ sg s.Equals ∷ one ∷ sg s.Semicolon ∷ wd w.End ∷ sg s.Semicolon ∷ [])

-- BEGIN DECLARE EXIT HANDLER FOR SQLSTATE k SET k = 1; END;
abbrev a_state_by_name : List Token
a_state_by_name = tokens_of (wd w.Begin ∷ wd w.Declare ∷ wd w.Exit ∷ wd w.Handler ∷ wd w.For ∷
    wd w.Sqlstate ∷ k ∷ wd w.Set ∷ k ∷ sg s.Equals ∷ one
    ∷ sg s.Semicolon ∷ wd w.End ∷ sg s.Semicolon ∷ [])

-- BEGIN DECLARE EXIT HANDLER FOR k; END;
abbrev no_action : List Token
no_action = tokens_of (wd w.Begin ∷ wd w.Declare ∷ wd w.Exit ∷ wd w.Handler ∷ wd w.For ∷ k ∷
    sg s.Semicolon ∷ wd w.End ∷ sg s.Semicolon ∷ [])

-- BEGIN DECLARE EXIT HANDLER FOR k VALUES (1); END;
abbrev a_query_for_an_action : List Token
a_query_for_an_action = tokens_of (wd w.Begin ∷ wd w.Declare ∷ wd w.Exit ∷ wd w.Handler ∷ wd w.For ∷
    k ∷ wd w.Values ∷ sg s.LeftParen ∷ one
    ∷ sg s.RightParen ∷ sg s.Semicolon ∷ wd w.End ∷ sg s.Semicolon ∷ [])

-- handlers: their types, what they wait for, their actions
pub record HandlerRows : Type 0 where
  -- a handler's anchor is the word of its type; its action may be a block
  pub values_are_read : reading rules most_open statement each_value ≡ Ok (
    stmt_of.Labelled (roll-Labelled (record {
      label = None;
      anchor = at 0;
      structure = structure_of.Block (roll-Block (record {
        atomic = false;
        declarations = declaration_of.Handler (roll-Handler (record {
          anchor = at 2;
          handler_type = handler_type_of.Continue;
          values = condition_value_of.Sqlstate (at 5) (state_t 6)
              ∷ condition_value_of.Sqlstate (at 8) (state_t 10)
              ∷ condition_value_of.Condition (id_k 12)
              ∷ condition_value_of.SqlException (at 14)
              ∷ condition_value_of.SqlWarning (at 16)
              ∷ condition_value_of.NotFound (at 18) ∷ [];
          action = stmt_of.Labelled (roll-Labelled (record {
            label = None;
            anchor = at 20;
            structure = structure_of.Block (roll-Block (record {
              atomic = false;
              declarations = [];
              statements = stmt_of.Set (at 21) (record { target = id_k 22; value = number_one 24 })
                  ∷ [];
            }));
            end_label = None;
          }));
        })) ∷ [];
        statements = [];
      }));
      end_label = None;
    })),
    [],
  )
  -- of two words FOR the first belongs to the handler, and the second begins the loop
  pub loop_is_an_action : reading rules most_open statement a_loop_for_an_action ≡ Ok (
    stmt_of.Labelled (roll-Labelled (record {
      label = None;
      anchor = at 0;
      structure = structure_of.Block (roll-Block (record {
        atomic = false;
        declarations = declaration_of.Handler (roll-Handler (record {
          anchor = at 2;
          handler_type = handler_type_of.Undo;
          values = condition_value_of.NotFound (at 5) ∷ [];
          action = stmt_of.Labelled (roll-Labelled (record {
            label = None;
            anchor = at 7;
            structure = structure_of.For (id_k 8) (record { query = values_at 10; order = [] })
                (stmt_of.Set (at 15) (record { target = id_t 16; value = number_one 18 }) ∷ []);
            end_label = None;
          }));
        })) ∷ [];
        statements = [];
      }));
      end_label = None;
    })),
    [],
  )
  pub value_is_wanted : reading rules most_open statement no_value ≡
      Err (NoSpelling (drop 5 no_value))
  pub found_is_wanted : reading rules most_open statement not_without_found ≡
      Err (NoSpelling (drop 6 not_without_found))
  pub state_is_a_text : reading rules most_open statement a_state_by_name ≡
      Err (NoSpelling (drop 6 a_state_by_name))
  pub action_is_wanted : reading rules most_open statement no_action ≡
      Err (NoSpelling (drop 6 no_action))
  pub query_is_no_action : reading rules most_open statement a_query_for_an_action ≡
      Err (NoSpelling (drop 6 a_query_for_an_action))

-- All of it holds by computation.
pub handler_rows_hold : HandlerRows
unfolding same_kind bracketed ident varchar_length plain_type varchar data_type constant literal
    dotted column_name named function_call aggregate function case_expression exists primary
    unary_sign factor operator term sum comparison_sign comparison compared truth_test not_word
    asked tested in_word among predicate_part predicate negation conjunction expr after more_exprs
    exprs for_length as_type all_rows argument operands when_clause more_when_clauses when_clauses
    else_clause arms cases more_idents idents column_list alias select_value more_select_values
    select_values all_columns select_list named_table derived_table table_ref on_condition joined_on
    comma_item cross_join left_join inner_join from_item more_from_items first_item from_items
    from_clause filter more_column_names column_names group_clause group_by having grouping
    select_word select row more_rows rows values_word values query query_or_expr query_or_exprs
    direction sort_specification more_sort_specifications sort_specifications order_clause order_by
    ordered_query insertion into_table insert_word insert assignment more_assignments assignments
    set_clause update_word update from_table delete_word delete parameter_argument call_argument
    more_call_arguments call_arguments if_call_arguments call_word call dml state_text state
    state_value exception_value warning_value not_found condition_value more_condition_values
    condition_values sqlstate signal_value message_text message if_message signal_word signal
    resignal_word if_signal_value resignal statement_item_name statement_item_value statement_item
    more_statement_items statement_items condition_item_name condition_item_value condition_item
    more_condition_items condition_items written_number condition_number numbered_items
    condition_information information written_area area diagnostics get_word get_diagnostics
    set_word set_statement targets select_into open_word open_statement close_word close_statement
    fetch_word fetch_orientation fetched_cursor fetch leave_word leave_statement iterate_word
    iterate_statement return_word return_statement storing cursor_statement condition_statement
    leaving simple_statement end_label construct structure structures label if_label labelled
    labelled_block if_construct if_statement case_construct case_statement stmt ended statements
    body body_after branch branch_after more_branches branches otherwise if_body when_branches
    case_body while_body repeat_body for_query for_body default_clause variables condition cursor
    named_declaration named_cursor handler_type handled handler declaration declarations atomic
    block_body structure_body not_null key_words primary_key column_constraint constraints column
    table_column table_key element more_elements elements table_definition create_table parameter
    more_parameters parameters if_parameters written_mode mode modal_parameter more_modal_parameters
    modal_parameters if_modal_parameters language deterministic not_deterministic contains_sql
    data_access data_characteristic null_call null_characteristic characteristic characteristics
    returns_type function_definition create_function procedure_definition create_procedure
    create_word created create object_sort dropped_name drop_word drop_object ddl explain_word
    explain other_statement unended statement
handler_rows_hold = record {
  values_are_read = refl;
  loop_is_an_action = refl;
  value_is_wanted = refl;
  found_is_wanted = refl;
  state_is_a_text = refl;
  action_is_wanted = refl;
  query_is_no_action = refl;
}

-- ---- IF

-- IF k THEN SET k = 1; ELSEIF t THEN RETURN 1; RETURN k; ELSE RETURN t; END IF
abbrev three_branches : List Token
three_branches = tokens_of (wd w.If ∷ k ∷ wd w.Then ∷ wd w.Set ∷ k ∷ sg s.Equals ∷ one ∷
    sg s.Semicolon ∷ wd w.Elseif ∷ t ∷ wd w.Then
    ∷ wd w.Return ∷ one ∷ sg s.Semicolon ∷ wd w.Return ∷ k ∷ sg s.Semicolon ∷ wd w.Else ∷
    wd w.Return ∷ t ∷ sg s.Semicolon
    ∷ wd w.End ∷ wd w.If ∷ [])

-- IF k = 1 THEN RETURN k; END IF
abbrev one_branch : List Token
one_branch = tokens_of (wd w.If ∷ k ∷ sg s.Equals ∷ one ∷ wd w.Then ∷ wd w.Return ∷ k ∷
    sg s.Semicolon ∷ wd w.End ∷ wd w.If ∷ [])

-- IF k THEN END IF
abbrev an_empty_branch : List Token
an_empty_branch = tokens_of (wd w.If ∷ k ∷ wd w.Then ∷ wd w.End ∷ wd w.If ∷ [])

-- IF k THEN RETURN 1; ELSE END IF
abbrev an_empty_else : List Token
an_empty_else = tokens_of (wd w.If ∷ k ∷ wd w.Then ∷ wd w.Return ∷ one ∷ sg s.Semicolon ∷
    wd w.Else ∷ wd w.End ∷ wd w.If ∷ [])

-- IF k THEN RETURN 1; END;
abbrev an_end_alone : List Token
an_end_alone = tokens_of (wd w.If ∷ k ∷ wd w.Then ∷ wd w.Return ∷ one ∷ sg s.Semicolon ∷ wd w.End ∷
    sg s.Semicolon ∷ [])

-- IF k THEN RETURN 1; END CASE;
abbrev an_end_of_another : List Token
an_end_of_another = tokens_of (wd w.If ∷ k ∷ wd w.Then ∷ wd w.Return ∷ one ∷ sg s.Semicolon ∷
    wd w.End ∷ wd w.Case ∷ sg s.Semicolon ∷ [])

-- IF k THEN RETURN 1; ELSE RETURN 1; ELSEIF k THEN RETURN 1; END IF
abbrev an_else_too_early : List Token
an_else_too_early = tokens_of (wd w.If ∷ k ∷ wd w.Then ∷ wd w.Return ∷ one ∷ sg s.Semicolon ∷
    wd w.Else ∷ wd w.Return ∷ one ∷ sg s.Semicolon
    ∷ wd w.Elseif ∷ k ∷ wd w.Then ∷ wd w.Return ∷ one ∷ sg s.Semicolon ∷ wd w.End ∷ wd w.If ∷ [])

-- IF with ELSEIF and ELSE
pub record IfRows : Type 0 where
  -- each test has the statements up to the next one
  pub branches_are_read : reading rules most_open stmt three_branches ≡ Ok (
    stmt_of.If (roll-If (record {
      anchor = at 0;
      branches = roll-Branch (record {
        test = name_k 1;
        body =
            stmt_of.Set (at 3) (record { target = id_k 4; value = number_one 6 }) ∷ [];
      })
          ∷ roll-Branch (record {
            test = name_t 9;
            body = stmt_of.Return (at 11) (number_one 12) ∷
                stmt_of.Return (at 14) (name_k 15) ∷ [];
          }) ∷ [];
      otherwise = stmt_of.Return (at 18) (name_t 19) ∷ [];
    })),
    [],
  )
  pub else_may_be_left_out : reading rules most_open stmt one_branch ≡ Ok (
    stmt_of.If (roll-If (record {
      anchor = at 0;
      branches = roll-Branch (record {
        test = e.Operation (at 2) (operation.Compare cmp.Equals) (name_k 1 ∷ number_one 3 ∷ []);
        body = stmt_of.Return (at 5) (name_k 6) ∷ [];
      }) ∷ [];
      otherwise = [];
    })),
    [],
  )
  pub statement_is_wanted : reading rules most_open stmt an_empty_branch ≡
      Err (NoSpelling (drop 3 an_empty_branch))
  pub statement_is_wanted_after_else : reading rules most_open stmt an_empty_else ≡
      Err (NoSpelling (drop 7 an_empty_else))
  -- END takes the word of what it closes
  pub if_is_wanted_after_end : reading rules most_open ended an_end_alone ≡
      Err (NoSpelling (drop 7 an_end_alone))
  pub end_takes_its_word : reading rules most_open ended an_end_of_another ≡
      Err (NoSpelling (drop 7 an_end_of_another))
  pub else_comes_last : reading rules most_open stmt an_else_too_early ≡
      Err (NoSpelling (drop 10 an_else_too_early))

-- All of it holds by computation.
pub if_rows_hold : IfRows
unfolding same_kind bracketed ident varchar_length plain_type varchar data_type constant literal
    dotted column_name named function_call aggregate function case_expression exists primary
    unary_sign factor operator term sum comparison_sign comparison compared truth_test not_word
    asked tested in_word among predicate_part predicate negation conjunction expr after more_exprs
    exprs for_length as_type all_rows argument operands when_clause more_when_clauses when_clauses
    else_clause arms cases more_idents idents column_list alias select_value more_select_values
    select_values all_columns select_list named_table derived_table table_ref on_condition joined_on
    comma_item cross_join left_join inner_join from_item more_from_items first_item from_items
    from_clause filter more_column_names column_names group_clause group_by having grouping
    select_word select row more_rows rows values_word values query query_or_expr query_or_exprs
    direction sort_specification more_sort_specifications sort_specifications order_clause order_by
    ordered_query insertion into_table insert_word insert assignment more_assignments assignments
    set_clause update_word update from_table delete_word delete parameter_argument call_argument
    more_call_arguments call_arguments if_call_arguments call_word call dml state_text state
    state_value exception_value warning_value not_found condition_value more_condition_values
    condition_values sqlstate signal_value message_text message if_message signal_word signal
    resignal_word if_signal_value resignal statement_item_name statement_item_value statement_item
    more_statement_items statement_items condition_item_name condition_item_value condition_item
    more_condition_items condition_items written_number condition_number numbered_items
    condition_information information written_area area diagnostics get_word get_diagnostics
    set_word set_statement targets select_into open_word open_statement close_word close_statement
    fetch_word fetch_orientation fetched_cursor fetch leave_word leave_statement iterate_word
    iterate_statement return_word return_statement storing cursor_statement condition_statement
    leaving simple_statement end_label construct structure structures label if_label labelled
    labelled_block if_construct if_statement case_construct case_statement stmt ended statements
    body body_after branch branch_after more_branches branches otherwise if_body when_branches
    case_body while_body repeat_body for_query for_body default_clause variables condition cursor
    named_declaration named_cursor handler_type handled handler declaration declarations atomic
    block_body structure_body not_null key_words primary_key column_constraint constraints column
    table_column table_key element more_elements elements table_definition create_table parameter
    more_parameters parameters if_parameters written_mode mode modal_parameter more_modal_parameters
    modal_parameters if_modal_parameters language deterministic not_deterministic contains_sql
    data_access data_characteristic null_call null_characteristic characteristic characteristics
    returns_type function_definition create_function procedure_definition create_procedure
    create_word created create object_sort dropped_name drop_word drop_object ddl explain_word
    explain other_statement unended statement
if_rows_hold = record {
  branches_are_read = refl;
  else_may_be_left_out = refl;
  statement_is_wanted = refl;
  statement_is_wanted_after_else = refl;
  if_is_wanted_after_end = refl;
  end_takes_its_word = refl;
  else_comes_last = refl;
}

-- ---- CASE

-- CASE k WHEN 1 THEN SET k = 1; WHEN t THEN RETURN 1; RETURN k; ELSE RETURN t; END CASE
abbrev a_simple_case : List Token
a_simple_case = tokens_of (wd w.Case ∷ k ∷ wd w.When ∷ one ∷ wd w.Then ∷ wd w.Set ∷ k ∷
    sg s.Equals ∷ one ∷ sg s.Semicolon ∷ wd w.When ∷ t
    ∷ wd w.Then ∷ wd w.Return ∷ one ∷ sg s.Semicolon ∷ wd w.Return ∷ k ∷ sg s.Semicolon ∷
    wd w.Else ∷ wd w.Return ∷ t
    ∷ sg s.Semicolon ∷ wd w.End ∷ wd w.Case ∷ [])

-- CASE WHEN k = 1 THEN RETURN k; WHEN t THEN RETURN t; END CASE
abbrev a_searched_case : List Token
a_searched_case = tokens_of (wd w.Case ∷ wd w.When ∷ k ∷ sg s.Equals ∷ one ∷ wd w.Then ∷
    wd w.Return ∷ k ∷ sg s.Semicolon ∷ wd w.When ∷ t
    ∷ wd w.Then ∷ wd w.Return ∷ t ∷ sg s.Semicolon ∷ wd w.End ∷ wd w.Case ∷ [])

-- CASE CASE WHEN k THEN 1 END WHEN 1 THEN RETURN CASE k WHEN 1 THEN t ELSE k END; END CASE
abbrev a_case_of_a_case : List Token
a_case_of_a_case = tokens_of (wd w.Case ∷ wd w.Case ∷ wd w.When ∷ k ∷ wd w.Then ∷ one ∷ wd w.End ∷
    wd w.When ∷ one ∷ wd w.Then ∷ wd w.Return
    ∷ wd w.Case ∷ k ∷ wd w.When ∷ one ∷ wd w.Then ∷ t ∷ wd w.Else ∷ k ∷ wd w.End ∷ sg s.Semicolon ∷
    wd w.End ∷ wd w.Case ∷ [])

-- CASE WHEN k THEN 1 END
abbrev an_expression_for_a_statement : List Token
an_expression_for_a_statement = tokens_of (wd w.Case ∷ wd w.When ∷ k ∷ wd w.Then ∷ one ∷ wd w.End ∷
    [])

-- CASE k ELSE RETURN 1; END CASE
abbrev no_branch : List Token
no_branch = tokens_of (wd w.Case ∷ k ∷ wd w.Else ∷ wd w.Return ∷ one ∷ sg s.Semicolon ∷ wd w.End ∷
    wd w.Case ∷ [])

-- CASE k WHEN 1 THEN END CASE
abbrev an_empty_when : List Token
an_empty_when = tokens_of (wd w.Case ∷ k ∷ wd w.When ∷ one ∷ wd w.Then ∷ wd w.End ∷ wd w.Case ∷ [])

-- CASE WHEN k THEN RETURN 1; END;
abbrev a_case_ended_as_expression : List Token
a_case_ended_as_expression = tokens_of (wd w.Case ∷ wd w.When ∷ k ∷ wd w.Then ∷ wd w.Return ∷ one ∷
    sg s.Semicolon ∷ wd w.End ∷ sg s.Semicolon ∷ [])

-- CASE as a statement, simple and searched
pub record CaseRows : Type 0 where
  pub simple_case_is_read : reading rules most_open stmt a_simple_case ≡ Ok (
    stmt_of.Case (roll-Case (record {
      anchor = at 0;
      operand = Some (name_k 1);
      branches = roll-Branch (record {
        test = number_one 3;
        body =
            stmt_of.Set (at 5) (record { target = id_k 6; value = number_one 8 }) ∷ [];
      })
          ∷ roll-Branch (record {
            test = name_t 11;
            body = stmt_of.Return (at 13) (number_one 14) ∷
                stmt_of.Return (at 16) (name_k 17) ∷ [];
          }) ∷ [];
      otherwise = stmt_of.Return (at 20) (name_t 21) ∷ [];
    })),
    [],
  )
  pub searched_case_is_read : reading rules most_open stmt a_searched_case ≡ Ok (
    stmt_of.Case (roll-Case (record {
      anchor = at 0;
      operand = None;
      branches = roll-Branch (record {
        test = e.Operation (at 3) (operation.Compare cmp.Equals) (name_k 2 ∷ number_one 4 ∷ []);
        body = stmt_of.Return (at 6) (name_k 7) ∷ [];
      })
          ∷ roll-Branch (record {
            test = name_t 10;
            body =
                stmt_of.Return (at 12) (name_t 13) ∷ [];
          }) ∷ [];
      otherwise = [];
    })),
    [],
  )
  -- the first CASE is a statement, for it stands where a statement may; the others are expressions,
  -- and end without CASE
  pub case_in_case_is_read : reading rules most_open stmt a_case_of_a_case ≡ Ok (
    stmt_of.Case (roll-Case (record {
      anchor = at 0;
      operand = Some (e.Operation (at 1) operation.Case (name_k 3 ∷ number_one 5 ∷ []));
      branches = roll-Branch (record {
        test = number_one 8;
        body = stmt_of.Return (at 10) (e.Operation (at 11) operation.CaseOf
            (name_k 12 ∷ number_one 14 ∷ name_t 16 ∷ name_k 18 ∷ [])) ∷ [];
      }) ∷ [];
      otherwise = [];
    })),
    [],
  )
  pub expression_is_no_statement : reading rules most_open stmt an_expression_for_a_statement ≡
      Err (NoSpelling (drop 4 an_expression_for_a_statement))
  pub when_is_wanted : reading rules most_open stmt no_branch ≡ Err (NoSpelling (drop 2 no_branch))
  pub statement_is_wanted : reading rules most_open stmt an_empty_when ≡
      Err (NoSpelling (drop 5 an_empty_when))
  pub case_is_wanted_after_end : reading rules most_open ended a_case_ended_as_expression ≡
      Err (NoSpelling (drop 8 a_case_ended_as_expression))

-- All of it holds by computation.
pub case_rows_hold : CaseRows
unfolding same_kind bracketed ident varchar_length plain_type varchar data_type constant literal
    dotted column_name named function_call aggregate function case_expression exists primary
    unary_sign factor operator term sum comparison_sign comparison compared truth_test not_word
    asked tested in_word among predicate_part predicate negation conjunction expr after more_exprs
    exprs for_length as_type all_rows argument operands when_clause more_when_clauses when_clauses
    else_clause arms cases more_idents idents column_list alias select_value more_select_values
    select_values all_columns select_list named_table derived_table table_ref on_condition joined_on
    comma_item cross_join left_join inner_join from_item more_from_items first_item from_items
    from_clause filter more_column_names column_names group_clause group_by having grouping
    select_word select row more_rows rows values_word values query query_or_expr query_or_exprs
    direction sort_specification more_sort_specifications sort_specifications order_clause order_by
    ordered_query insertion into_table insert_word insert assignment more_assignments assignments
    set_clause update_word update from_table delete_word delete parameter_argument call_argument
    more_call_arguments call_arguments if_call_arguments call_word call dml state_text state
    state_value exception_value warning_value not_found condition_value more_condition_values
    condition_values sqlstate signal_value message_text message if_message signal_word signal
    resignal_word if_signal_value resignal statement_item_name statement_item_value statement_item
    more_statement_items statement_items condition_item_name condition_item_value condition_item
    more_condition_items condition_items written_number condition_number numbered_items
    condition_information information written_area area diagnostics get_word get_diagnostics
    set_word set_statement targets select_into open_word open_statement close_word close_statement
    fetch_word fetch_orientation fetched_cursor fetch leave_word leave_statement iterate_word
    iterate_statement return_word return_statement storing cursor_statement condition_statement
    leaving simple_statement end_label construct structure structures label if_label labelled
    labelled_block if_construct if_statement case_construct case_statement stmt ended statements
    body body_after branch branch_after more_branches branches otherwise if_body when_branches
    case_body while_body repeat_body for_query for_body default_clause variables condition cursor
    named_declaration named_cursor handler_type handled handler declaration declarations atomic
    block_body structure_body not_null key_words primary_key column_constraint constraints column
    table_column table_key element more_elements elements table_definition create_table parameter
    more_parameters parameters if_parameters written_mode mode modal_parameter more_modal_parameters
    modal_parameters if_modal_parameters language deterministic not_deterministic contains_sql
    data_access data_characteristic null_call null_characteristic characteristic characteristics
    returns_type function_definition create_function procedure_definition create_procedure
    create_word created create object_sort dropped_name drop_word drop_object ddl explain_word
    explain other_statement unended statement
case_rows_hold = record {
  simple_case_is_read = refl;
  searched_case_is_read = refl;
  case_in_case_is_read = refl;
  expression_is_no_statement = refl;
  when_is_wanted = refl;
  statement_is_wanted = refl;
  case_is_wanted_after_end = refl;
}

-- ---- loops

-- l: LOOP SET k = 1; LEAVE l; END LOOP l
abbrev a_loop : List Token
a_loop = tokens_of (l ∷ sg s.Colon ∷ wd w.Loop ∷ wd w.Set ∷ k ∷ sg s.Equals ∷ one ∷ sg s.Semicolon ∷
    wd w.Leave ∷ l ∷ sg s.Semicolon
    ∷ wd w.End ∷ wd w.Loop ∷ l ∷ [])

-- WHILE k DO ITERATE l; END WHILE
abbrev a_while : List Token
a_while = tokens_of (wd w.While ∷ k ∷ wd w.Do ∷ wd w.Iterate ∷ l ∷ sg s.Semicolon ∷ wd w.End ∷
    wd w.While ∷ [])

-- l: REPEAT SET k = 1; SET t = 1; UNTIL k = t END REPEAT
abbrev a_repeat : List Token
a_repeat = tokens_of (l ∷ sg s.Colon ∷ wd w.Repeat ∷ wd w.Set ∷ k ∷ sg s.Equals ∷ one ∷
    sg s.Semicolon ∷ wd w.Set ∷ t ∷ sg s.Equals ∷ one
    ∷ sg s.Semicolon ∷ wd w.Until ∷ k ∷ sg s.Equals ∷ t ∷ wd w.End ∷ wd w.Repeat ∷ [])

-- l: FOR k AS SELECT * FROM t ORDER BY c DESC DO SET t = 1; CALL k (t); END FOR l
abbrev a_for : List Token
a_for = tokens_of (l ∷ sg s.Colon ∷ wd w.For ∷ k ∷ wd w.As ∷ wd w.Select ∷ sg s.Asterisk ∷
    wd w.From ∷ t ∷ wd w.Order ∷ wd w.By ∷ c
    ∷ wd w.Desc ∷ wd w.Do ∷ wd w.Set ∷ t ∷ sg s.Equals ∷ one ∷ sg s.Semicolon ∷ wd w.Call ∷ k ∷
    sg s.LeftParen ∷ t
    ∷ sg s.RightParen ∷ sg s.Semicolon ∷ wd w.End ∷ wd w.For ∷ l ∷ [])

-- BEGIN SET k = SUBSTRING (t FROM 1 FOR 1); FOR k AS VALUES (1) DO IF k THEN RETURN 1; END IF; END
-- FOR; END;
abbrev a_for_beside_substring : List Token
a_for_beside_substring = tokens_of (wd w.Begin ∷ wd w.Set ∷ k ∷ sg s.Equals ∷ wd w.Substring ∷
    sg s.LeftParen ∷ t ∷ wd w.From ∷ one ∷ wd w.For ∷ one
    ∷ sg s.RightParen ∷ sg s.Semicolon ∷ wd w.For ∷ k ∷ wd w.As ∷ wd w.Values ∷ sg s.LeftParen ∷
    one ∷ sg s.RightParen
    ∷ wd w.Do ∷ wd w.If ∷ k ∷ wd w.Then ∷ wd w.Return ∷ one ∷ sg s.Semicolon ∷ wd w.End ∷ wd w.If ∷
    sg s.Semicolon
    ∷ wd w.End ∷ wd w.For ∷ sg s.Semicolon ∷ wd w.End ∷ sg s.Semicolon ∷ [])

-- k: LOOP t: WHILE k DO LEAVE k; END WHILE t; END LOOP k
abbrev a_loop_in_a_loop : List Token
a_loop_in_a_loop = tokens_of (k ∷ sg s.Colon ∷ wd w.Loop ∷ t ∷ sg s.Colon ∷ wd w.While ∷ k ∷
    wd w.Do ∷ wd w.Leave ∷ k ∷ sg s.Semicolon ∷ wd w.End
    ∷ wd w.While ∷ t ∷ sg s.Semicolon ∷ wd w.End ∷ wd w.Loop ∷ k ∷ [])

-- LOOP, WHILE, REPEAT and FOR
pub record LoopRows : Type 0 where
  pub loop_is_read : reading rules most_open stmt a_loop ≡ Ok (
    stmt_of.Labelled (roll-Labelled (record {
      label = Some (id_l 0);
      anchor = at 2;
      structure = structure_of.Loop (stmt_of.Set (at 3)
          (record { target = id_k 4; value = number_one 6 }) ∷ stmt_of.Leave (at 8) (id_l 9) ∷ []);
      end_label = Some (id_l 13);
    })),
    [],
  )
  pub while_is_read : reading rules most_open stmt a_while ≡ Ok (
    stmt_of.Labelled (roll-Labelled (record {
      label = None;
      anchor = at 0;
      structure = structure_of.While (name_k 1) (stmt_of.Iterate (at 3) (id_l 4) ∷ []);
      end_label = None;
    })),
    [],
  )
  -- the test stands after the statements
  pub repeat_is_read : reading rules most_open stmt a_repeat ≡ Ok (
    stmt_of.Labelled (roll-Labelled (record {
      label = Some (id_l 0);
      anchor = at 2;
      structure = structure_of.Repeat (stmt_of.Set (at 3)
          (record { target = id_k 4; value = number_one 6 })
          ∷ stmt_of.Set (at 8) (record { target = id_t 9; value = number_one 11 }) ∷ [])
          (e.Operation (at 15) (operation.Compare cmp.Equals) (name_k 14 ∷ name_t 16 ∷ []));
      end_label = None;
    })),
    [],
  )
  pub for_is_read : reading rules most_open stmt a_for ≡ Ok (
    stmt_of.Labelled (roll-Labelled (record {
      label = Some (id_l 0);
      anchor = at 2;
      structure = structure_of.For (id_k 3) (record {
        query = q.Select (roll-Select (record {
          anchor = at 5;
          items = item.All (at 6) ∷ [];
          from = from.Comma (table_t 8) ∷ [];
          filter = None;
          group_by = [];
          having = None;
        }));
        order = record { name = id_c 11; descending = true } ∷ [];
      }) (stmt_of.Set (at 14) (record { target = id_t 15; value = number_one 17 })
          ∷ stmt_of.Call (record {
            anchor = at 19;
            name = id_k 20;
            arguments =
                argument_of.Value (name_t 22) ∷ [];
          }) ∷ []);
      end_label = Some (id_l 27);
    })),
    [],
  )
  -- of two words FOR the first stands right in brackets, and begins no loop
  pub both_words_for_are_read : reading rules most_open ended a_for_beside_substring ≡ Ok (
    stmt_of.Labelled (roll-Labelled (record {
      label = None;
      anchor = at 0;
      structure = structure_of.Block (roll-Block (record {
        atomic = false;
        declarations = [];
        statements = stmt_of.Set (at 1) (record {
          target = id_k 2;
          value = e.Operation (at 4) operation.Substring
              (name_t 6 ∷ number_one 8 ∷ number_one 10 ∷ []);
        })
            ∷ stmt_of.Labelled (roll-Labelled (record {
              label = None;
              anchor = at 13;
              structure = structure_of.For (id_k 14) (record { query = values_at 16; order = [] })
                  (stmt_of.If (roll-If (record {
                    anchor = at 21;
                    branches = roll-Branch (record {
                      test = name_k 22;
                      body =
                          stmt_of.Return (at 24) (number_one 25) ∷ [];
                    }) ∷ [];
                    otherwise = [];
                  })) ∷ []);
              end_label = None;
            })) ∷ [];
      }));
      end_label = None;
    })),
    [],
  )
  pub loops_in_loops_are_read : reading rules most_open stmt a_loop_in_a_loop ≡ Ok (
    stmt_of.Labelled (roll-Labelled (record {
      label = Some (id_k 0);
      anchor = at 2;
      structure = structure_of.Loop (stmt_of.Labelled (roll-Labelled (record {
        label = Some (id_t 3);
        anchor = at 5;
        structure = structure_of.While (name_k 6) (stmt_of.Leave (at 8) (id_k 9) ∷ []);
        end_label = Some (id_t 13);
      })) ∷ []);
      end_label = Some (id_k 17);
    })),
    [],
  )

-- All of it holds by computation.
pub loop_rows_hold : LoopRows
unfolding same_kind bracketed ident varchar_length plain_type varchar data_type constant literal
    dotted column_name named function_call aggregate function case_expression exists primary
    unary_sign factor operator term sum comparison_sign comparison compared truth_test not_word
    asked tested in_word among predicate_part predicate negation conjunction expr after more_exprs
    exprs for_length as_type all_rows argument operands when_clause more_when_clauses when_clauses
    else_clause arms cases more_idents idents column_list alias select_value more_select_values
    select_values all_columns select_list named_table derived_table table_ref on_condition joined_on
    comma_item cross_join left_join inner_join from_item more_from_items first_item from_items
    from_clause filter more_column_names column_names group_clause group_by having grouping
    select_word select row more_rows rows values_word values query query_or_expr query_or_exprs
    direction sort_specification more_sort_specifications sort_specifications order_clause order_by
    ordered_query insertion into_table insert_word insert assignment more_assignments assignments
    set_clause update_word update from_table delete_word delete parameter_argument call_argument
    more_call_arguments call_arguments if_call_arguments call_word call dml state_text state
    state_value exception_value warning_value not_found condition_value more_condition_values
    condition_values sqlstate signal_value message_text message if_message signal_word signal
    resignal_word if_signal_value resignal statement_item_name statement_item_value statement_item
    more_statement_items statement_items condition_item_name condition_item_value condition_item
    more_condition_items condition_items written_number condition_number numbered_items
    condition_information information written_area area diagnostics get_word get_diagnostics
    set_word set_statement targets select_into open_word open_statement close_word close_statement
    fetch_word fetch_orientation fetched_cursor fetch leave_word leave_statement iterate_word
    iterate_statement return_word return_statement storing cursor_statement condition_statement
    leaving simple_statement end_label construct structure structures label if_label labelled
    labelled_block if_construct if_statement case_construct case_statement stmt ended statements
    body body_after branch branch_after more_branches branches otherwise if_body when_branches
    case_body while_body repeat_body for_query for_body default_clause variables condition cursor
    named_declaration named_cursor handler_type handled handler declaration declarations atomic
    block_body structure_body not_null key_words primary_key column_constraint constraints column
    table_column table_key element more_elements elements table_definition create_table parameter
    more_parameters parameters if_parameters written_mode mode modal_parameter more_modal_parameters
    modal_parameters if_modal_parameters language deterministic not_deterministic contains_sql
    data_access data_characteristic null_call null_characteristic characteristic characteristics
    returns_type function_definition create_function procedure_definition create_procedure
    create_word created create object_sort dropped_name drop_word drop_object ddl explain_word
    explain other_statement unended statement
loop_rows_hold = record {
  loop_is_read = refl;
  while_is_read = refl;
  repeat_is_read = refl;
  for_is_read = refl;
  both_words_for_are_read = refl;
  loops_in_loops_are_read = refl;
}

-- ---- loops that are none

-- LOOP END LOOP
abbrev an_empty_loop : List Token
an_empty_loop = tokens_of (wd w.Loop ∷ wd w.End ∷ wd w.Loop ∷ [])

-- LOOP RETURN 1; END WHILE
abbrev a_loop_ended_as_while : List Token
a_loop_ended_as_while = tokens_of (wd w.Loop ∷ wd w.Return ∷ one ∷ sg s.Semicolon ∷ wd w.End ∷
    wd w.While ∷ [])

-- l: LOOP RETURN 1; END l;
abbrev a_loop_ended_as_block : List Token
a_loop_ended_as_block = tokens_of (l ∷ sg s.Colon ∷ wd w.Loop ∷ wd w.Return ∷ one ∷ sg s.Semicolon ∷
    wd w.End ∷ l ∷ sg s.Semicolon ∷ [])

-- REPEAT SET k = 1; END REPEAT
abbrev a_repeat_without_test : List Token
a_repeat_without_test = tokens_of (wd w.Repeat ∷ wd w.Set ∷ k ∷ sg s.Equals ∷ one ∷ sg s.Semicolon ∷
    wd w.End ∷ wd w.Repeat ∷ [])

-- FOR k AS t DO SET k = 1; END FOR
abbrev a_for_over_a_table : List Token
a_for_over_a_table = tokens_of (wd w.For ∷ k ∷ wd w.As ∷ t ∷ wd w.Do ∷ wd w.Set ∷ k ∷ sg s.Equals ∷
    one ∷ sg s.Semicolon ∷ wd w.End ∷ wd w.For ∷ [])

-- l: IF k THEN RETURN 1; END IF
abbrev a_label_before_if : List Token
a_label_before_if = tokens_of (l ∷ sg s.Colon ∷ wd w.If ∷ k ∷ wd w.Then ∷ wd w.Return ∷ one ∷
    sg s.Semicolon ∷ wd w.End ∷ wd w.If ∷ [])

-- LOOP LEAVE; END LOOP
abbrev a_leave_without_label : List Token
a_leave_without_label = tokens_of (wd w.Loop ∷ wd w.Leave ∷ sg s.Semicolon ∷ wd w.End ∷ wd w.Loop ∷
    [])

-- what is no loop, and where reading stops
pub record NoLoopRows : Type 0 where
  pub statement_is_wanted : reading rules most_open stmt an_empty_loop ≡
      Err (NoSpelling (drop 1 an_empty_loop))
  pub end_takes_its_word : reading rules most_open stmt a_loop_ended_as_while ≡
      Err (NoSpelling (drop 5 a_loop_ended_as_while))
  -- a label stands right after END in a block only
  pub loop_is_wanted_after_end : reading rules most_open ended a_loop_ended_as_block ≡
      Err (NoSpelling (drop 7 a_loop_ended_as_block))
  pub until_is_wanted : reading rules most_open stmt a_repeat_without_test ≡
      Err (NoSpelling (drop 6 a_repeat_without_test))
  pub query_is_wanted : reading rules most_open stmt a_for_over_a_table ≡
      Err (NoSpelling (drop 3 a_for_over_a_table))
  -- a label stands before blocks and loops only
  pub if_has_no_label : reading rules most_open stmt a_label_before_if ≡
      Err (NoSpelling (drop 2 a_label_before_if))
  pub name_is_wanted : reading rules most_open stmt a_leave_without_label ≡
      Err (NoSpelling (drop 2 a_leave_without_label))

-- All of it holds by computation.
pub no_loop_rows_hold : NoLoopRows
unfolding same_kind bracketed ident varchar_length plain_type varchar data_type constant literal
    dotted column_name named function_call aggregate function case_expression exists primary
    unary_sign factor operator term sum comparison_sign comparison compared truth_test not_word
    asked tested in_word among predicate_part predicate negation conjunction expr after more_exprs
    exprs for_length as_type all_rows argument operands when_clause more_when_clauses when_clauses
    else_clause arms cases more_idents idents column_list alias select_value more_select_values
    select_values all_columns select_list named_table derived_table table_ref on_condition joined_on
    comma_item cross_join left_join inner_join from_item more_from_items first_item from_items
    from_clause filter more_column_names column_names group_clause group_by having grouping
    select_word select row more_rows rows values_word values query query_or_expr query_or_exprs
    direction sort_specification more_sort_specifications sort_specifications order_clause order_by
    ordered_query insertion into_table insert_word insert assignment more_assignments assignments
    set_clause update_word update from_table delete_word delete parameter_argument call_argument
    more_call_arguments call_arguments if_call_arguments call_word call dml state_text state
    state_value exception_value warning_value not_found condition_value more_condition_values
    condition_values sqlstate signal_value message_text message if_message signal_word signal
    resignal_word if_signal_value resignal statement_item_name statement_item_value statement_item
    more_statement_items statement_items condition_item_name condition_item_value condition_item
    more_condition_items condition_items written_number condition_number numbered_items
    condition_information information written_area area diagnostics get_word get_diagnostics
    set_word set_statement targets select_into open_word open_statement close_word close_statement
    fetch_word fetch_orientation fetched_cursor fetch leave_word leave_statement iterate_word
    iterate_statement return_word return_statement storing cursor_statement condition_statement
    leaving simple_statement end_label construct structure structures label if_label labelled
    labelled_block if_construct if_statement case_construct case_statement stmt ended statements
    body body_after branch branch_after more_branches branches otherwise if_body when_branches
    case_body while_body repeat_body for_query for_body default_clause variables condition cursor
    named_declaration named_cursor handler_type handled handler declaration declarations atomic
    block_body structure_body not_null key_words primary_key column_constraint constraints column
    table_column table_key element more_elements elements table_definition create_table parameter
    more_parameters parameters if_parameters written_mode mode modal_parameter more_modal_parameters
    modal_parameters if_modal_parameters language deterministic not_deterministic contains_sql
    data_access data_characteristic null_call null_characteristic characteristic characteristics
    returns_type function_definition create_function procedure_definition create_procedure
    create_word created create object_sort dropped_name drop_word drop_object ddl explain_word
    explain other_statement unended statement
no_loop_rows_hold = record {
  statement_is_wanted = refl;
  end_takes_its_word = refl;
  loop_is_wanted_after_end = refl;
  until_is_wanted = refl;
  query_is_wanted = refl;
  if_has_no_label = refl;
  name_is_wanted = refl;
}

-- ---- variables and targets

-- SET k = t = 1
abbrev a_set : List Token
a_set = tokens_of (wd w.Set ∷ k ∷ sg s.Equals ∷ t ∷ sg s.Equals ∷ one ∷ [])

-- SET k, t = 1
abbrev two_targets_set : List Token
two_targets_set = tokens_of (wd w.Set ∷ k ∷ sg s.Comma ∷ t ∷ sg s.Equals ∷ one ∷ [])

-- SELECT k, 1 INTO t, c FROM t WHERE k = 1
abbrev a_select_into : List Token
a_select_into = tokens_of (wd w.Select ∷ k ∷ sg s.Comma ∷ one ∷ wd w.Into ∷ t ∷ sg s.Comma ∷ c ∷
    wd w.From ∷ t ∷ wd w.Where ∷ k ∷ sg s.Equals
    ∷ one ∷ [])

-- SELECT * INTO k FROM t, k GROUP BY k, t HAVING k
abbrev a_group_selected : List Token
a_group_selected = tokens_of (wd w.Select ∷ sg s.Asterisk ∷ wd w.Into ∷ k ∷ wd w.From ∷ t ∷
    sg s.Comma ∷ k ∷ wd w.Group ∷ wd w.By ∷ k ∷ sg s.Comma
    ∷ t ∷ wd w.Having ∷ k ∷ [])

-- SELECT k FROM t
abbrev a_select_without_targets : List Token
a_select_without_targets = tokens_of (wd w.Select ∷ k ∷ wd w.From ∷ t ∷ [])

-- SELECT k INTO t FROM t ORDER BY k;
abbrev an_order_of_one_row : List Token
an_order_of_one_row = tokens_of (wd w.Select ∷ k ∷ wd w.Into ∷ t ∷ wd w.From ∷ t ∷ wd w.Order ∷
    wd w.By ∷ k ∷ sg s.Semicolon ∷ [])

-- CALL k (1, ?, t + 1);
abbrev a_call : List Token
a_call = tokens_of (wd w.Call ∷ k ∷ sg s.LeftParen ∷ one ∷ sg s.Comma ∷ sg s.QuestionMark ∷
    sg s.Comma ∷ t ∷ sg s.Plus ∷ one
    ∷ sg s.RightParen ∷ sg s.Semicolon ∷ [])

-- SET and SELECT INTO
pub record StoringRows : Type 0 where
  -- of two signs of equality the first assigns, and the second compares
  pub set_is_read : reading rules most_open stmt a_set ≡ Ok (
    stmt_of.Set (at 0) (record {
      target = id_k 1;
      value =
          e.Operation (at 4) (operation.Compare cmp.Equals) (name_t 3 ∷ number_one 5 ∷ []);
    }),
    [],
  )
  pub one_target_is_set : reading rules most_open stmt two_targets_set ≡
      Err (NoSpelling (drop 2 two_targets_set))
  pub select_into_is_read : reading rules most_open stmt a_select_into ≡ Ok (
    stmt_of.SelectInto (record {
      anchor = at 0;
      items = item.Value (name_k 1) None ∷ item.Value (number_one 3) None ∷ [];
      targets = id_t 5 ∷ id_c 7 ∷ [];
      from = from.Comma (table_t 9) ∷ [];
      filter = Some (e.Operation (at 12) (operation.Compare cmp.Equals)
          (name_k 11 ∷ number_one 13 ∷ []));
      group_by = [];
      having = None;
    }),
    [],
  )
  pub groups_are_selected : reading rules most_open stmt a_group_selected ≡ Ok (
    stmt_of.SelectInto (record {
      anchor = at 0;
      items = item.All (at 1) ∷ [];
      targets = id_k 3 ∷ [];
      from = from.Comma (table_t 5) ∷ from.Comma (table_k 7) ∷ [];
      filter = None;
      group_by = unqualified (id_k 10) ∷ unqualified (id_t 12) ∷ [];
      having = Some (name_k 14);
    }),
    [],
  )
  -- in a routine no row goes out
  pub targets_are_wanted : reading rules most_open stmt a_select_without_targets ≡
      Err (NoSpelling (drop 2 a_select_without_targets))
  pub one_row_has_no_order : reading rules most_open ended an_order_of_one_row ≡
      Err (NoSpelling (drop 6 an_order_of_one_row))
  -- `?` is an argument of its own
  pub call_is_read : reading rules most_open statement a_call ≡ Ok (
    stmt_of.Call (record {
      anchor = at 0;
      name = id_k 1;
      arguments = argument_of.Value (number_one 3)
          ∷ argument_of.Parameter (at 5)
          ∷ argument_of.Value (e.Chain (name_t 7)
          (link (chain_operator.Value op.Add) 8 (number_one 9) ∷ [])) ∷ [];
    }),
    [],
  )

-- All of it holds by computation.
pub storing_rows_hold : StoringRows
unfolding same_kind bracketed ident varchar_length plain_type varchar data_type constant literal
    dotted column_name named function_call aggregate function case_expression exists primary
    unary_sign factor operator term sum comparison_sign comparison compared truth_test not_word
    asked tested in_word among predicate_part predicate negation conjunction expr after more_exprs
    exprs for_length as_type all_rows argument operands when_clause more_when_clauses when_clauses
    else_clause arms cases more_idents idents column_list alias select_value more_select_values
    select_values all_columns select_list named_table derived_table table_ref on_condition joined_on
    comma_item cross_join left_join inner_join from_item more_from_items first_item from_items
    from_clause filter more_column_names column_names group_clause group_by having grouping
    select_word select row more_rows rows values_word values query query_or_expr query_or_exprs
    direction sort_specification more_sort_specifications sort_specifications order_clause order_by
    ordered_query insertion into_table insert_word insert assignment more_assignments assignments
    set_clause update_word update from_table delete_word delete parameter_argument call_argument
    more_call_arguments call_arguments if_call_arguments call_word call dml state_text state
    state_value exception_value warning_value not_found condition_value more_condition_values
    condition_values sqlstate signal_value message_text message if_message signal_word signal
    resignal_word if_signal_value resignal statement_item_name statement_item_value statement_item
    more_statement_items statement_items condition_item_name condition_item_value condition_item
    more_condition_items condition_items written_number condition_number numbered_items
    condition_information information written_area area diagnostics get_word get_diagnostics
    set_word set_statement targets select_into open_word open_statement close_word close_statement
    fetch_word fetch_orientation fetched_cursor fetch leave_word leave_statement iterate_word
    iterate_statement return_word return_statement storing cursor_statement condition_statement
    leaving simple_statement end_label construct structure structures label if_label labelled
    labelled_block if_construct if_statement case_construct case_statement stmt ended statements
    body body_after branch branch_after more_branches branches otherwise if_body when_branches
    case_body while_body repeat_body for_query for_body default_clause variables condition cursor
    named_declaration named_cursor handler_type handled handler declaration declarations atomic
    block_body structure_body not_null key_words primary_key column_constraint constraints column
    table_column table_key element more_elements elements table_definition create_table parameter
    more_parameters parameters if_parameters written_mode mode modal_parameter more_modal_parameters
    modal_parameters if_modal_parameters language deterministic not_deterministic contains_sql
    data_access data_characteristic null_call null_characteristic characteristic characteristics
    returns_type function_definition create_function procedure_definition create_procedure
    create_word created create object_sort dropped_name drop_word drop_object ddl explain_word
    explain other_statement unended statement
storing_rows_hold = record {
  set_is_read = refl;
  one_target_is_set = refl;
  select_into_is_read = refl;
  groups_are_selected = refl;
  targets_are_wanted = refl;
  one_row_has_no_order = refl;
  call_is_read = refl;
}

-- ---- calls and changes of tables

-- CALL k ()
abbrev a_call_of_none : List Token
a_call_of_none = tokens_of (wd w.Call ∷ k ∷ sg s.LeftParen ∷ sg s.RightParen ∷ [])

-- CALL k;
abbrev a_call_without_brackets : List Token
a_call_without_brackets = tokens_of (wd w.Call ∷ k ∷ sg s.Semicolon ∷ [])

-- CALL k (?,)
abbrev an_argument_too_few : List Token
an_argument_too_few = tokens_of (wd w.Call ∷ k ∷ sg s.LeftParen ∷ sg s.QuestionMark ∷ sg s.Comma ∷
    sg s.RightParen ∷ [])

-- CALL k (? + 1)
abbrev a_parameter_in_a_sum : List Token
a_parameter_in_a_sum = tokens_of (wd w.Call ∷ k ∷ sg s.LeftParen ∷ sg s.QuestionMark ∷ sg s.Plus ∷
    one ∷ sg s.RightParen ∷ [])

-- UPDATE t SET k = 1 WHERE t
abbrev an_update : List Token
an_update = tokens_of (wd w.Update ∷ t ∷ wd w.Set ∷ k ∷ sg s.Equals ∷ one ∷ wd w.Where ∷ t ∷ [])

-- RETURN k + 1 = t
abbrev a_return : List Token
a_return = tokens_of (wd w.Return ∷ k ∷ sg s.Plus ∷ one ∷ sg s.Equals ∷ t ∷ [])

-- RETURN;
abbrev a_return_of_none : List Token
a_return_of_none = tokens_of (wd w.Return ∷ sg s.Semicolon ∷ [])

-- CALL, and other statements that stand in routines as in scripts
pub record CallRows : Type 0 where
  pub call_of_none_is_read : reading rules most_open stmt a_call_of_none ≡
      Ok (stmt_of.Call (record { anchor = at 0; name = id_k 1; arguments = [] }), [])
  pub brackets_are_wanted : reading rules most_open statement a_call_without_brackets ≡
      Err (NoSpelling (drop 2 a_call_without_brackets))
  pub argument_is_wanted : reading rules most_open stmt an_argument_too_few ≡
      Err (NoSpelling (drop 5 an_argument_too_few))
  -- `?` is no expression
  pub parameter_is_whole : reading rules most_open stmt a_parameter_in_a_sum ≡
      Err (NoSpelling (drop 4 a_parameter_in_a_sum))
  -- what changes tables may stand in a routine as in a script
  pub update_is_read : reading rules most_open stmt an_update ≡ Ok (
    stmt_of.Update (record {
      anchor = at 0;
      table = id_t 1;
      assignments = record { target = id_k 3; value = number_one 5 } ∷ [];
      filter = Some (name_t 7);
    }),
    [],
  )
  pub return_is_read : reading rules most_open stmt a_return ≡ Ok (
    stmt_of.Return (at 0) (e.Operation (at 4) (operation.Compare cmp.Equals)
        (e.Chain (name_k 1) (link (chain_operator.Value op.Add) 2 (number_one 3) ∷ []) ∷ name_t 5 ∷
        [])),
    [],
  )
  pub value_is_wanted : reading rules most_open ended a_return_of_none ≡
      Err (NoSpelling (drop 1 a_return_of_none))

-- All of it holds by computation.
pub call_rows_hold : CallRows
unfolding same_kind bracketed ident varchar_length plain_type varchar data_type constant literal
    dotted column_name named function_call aggregate function case_expression exists primary
    unary_sign factor operator term sum comparison_sign comparison compared truth_test not_word
    asked tested in_word among predicate_part predicate negation conjunction expr after more_exprs
    exprs for_length as_type all_rows argument operands when_clause more_when_clauses when_clauses
    else_clause arms cases more_idents idents column_list alias select_value more_select_values
    select_values all_columns select_list named_table derived_table table_ref on_condition joined_on
    comma_item cross_join left_join inner_join from_item more_from_items first_item from_items
    from_clause filter more_column_names column_names group_clause group_by having grouping
    select_word select row more_rows rows values_word values query query_or_expr query_or_exprs
    direction sort_specification more_sort_specifications sort_specifications order_clause order_by
    ordered_query insertion into_table insert_word insert assignment more_assignments assignments
    set_clause update_word update from_table delete_word delete parameter_argument call_argument
    more_call_arguments call_arguments if_call_arguments call_word call dml state_text state
    state_value exception_value warning_value not_found condition_value more_condition_values
    condition_values sqlstate signal_value message_text message if_message signal_word signal
    resignal_word if_signal_value resignal statement_item_name statement_item_value statement_item
    more_statement_items statement_items condition_item_name condition_item_value condition_item
    more_condition_items condition_items written_number condition_number numbered_items
    condition_information information written_area area diagnostics get_word get_diagnostics
    set_word set_statement targets select_into open_word open_statement close_word close_statement
    fetch_word fetch_orientation fetched_cursor fetch leave_word leave_statement iterate_word
    iterate_statement return_word return_statement storing cursor_statement condition_statement
    leaving simple_statement end_label construct structure structures label if_label labelled
    labelled_block if_construct if_statement case_construct case_statement stmt ended statements
    body body_after branch branch_after more_branches branches otherwise if_body when_branches
    case_body while_body repeat_body for_query for_body default_clause variables condition cursor
    named_declaration named_cursor handler_type handled handler declaration declarations atomic
    block_body structure_body not_null key_words primary_key column_constraint constraints column
    table_column table_key element more_elements elements table_definition create_table parameter
    more_parameters parameters if_parameters written_mode mode modal_parameter more_modal_parameters
    modal_parameters if_modal_parameters language deterministic not_deterministic contains_sql
    data_access data_characteristic null_call null_characteristic characteristic characteristics
    returns_type function_definition create_function procedure_definition create_procedure
    create_word created create object_sort dropped_name drop_word drop_object ddl explain_word
    explain other_statement unended statement
call_rows_hold = record {
  call_of_none_is_read = refl;
  brackets_are_wanted = refl;
  argument_is_wanted = refl;
  parameter_is_whole = refl;
  update_is_read = refl;
  return_is_read = refl;
  value_is_wanted = refl;
}

-- ---- cursors

-- OPEN c
abbrev an_open : List Token
an_open = tokens_of (wd w.Open ∷ c ∷ [])

-- CLOSE c
abbrev a_close : List Token
a_close = tokens_of (wd w.Close ∷ c ∷ [])

-- FETCH c INTO k, t
abbrev a_fetch : List Token
a_fetch = tokens_of (wd w.Fetch ∷ c ∷ wd w.Into ∷ k ∷ sg s.Comma ∷ t ∷ [])

-- FETCH FROM c INTO k
abbrev a_fetch_from : List Token
a_fetch_from = tokens_of (wd w.Fetch ∷ wd w.From ∷ c ∷ wd w.Into ∷ k ∷ [])

-- FETCH NEXT FROM c INTO k
abbrev a_fetch_next : List Token
a_fetch_next = tokens_of (wd w.Fetch ∷ wd w.Next ∷ wd w.From ∷ c ∷ wd w.Into ∷ k ∷ [])

-- FETCH NEXT c INTO k
abbrev a_next_without_from : List Token
a_next_without_from = tokens_of (wd w.Fetch ∷ wd w.Next ∷ c ∷ wd w.Into ∷ k ∷ [])

-- FETCH c
abbrev a_fetch_without_targets : List Token
a_fetch_without_targets = tokens_of (wd w.Fetch ∷ c ∷ [])

-- OPEN, CLOSE and the three forms of FETCH
pub record CursorRows : Type 0 where
  pub open_is_read : reading rules most_open stmt an_open ≡ Ok (stmt_of.Open (at 0) (id_c 1), [])
  pub close_is_read : reading rules most_open stmt a_close ≡ Ok (stmt_of.Close (at 0) (id_c 1), [])
  pub fetch_is_read : reading rules most_open stmt a_fetch ≡ Ok (
    stmt_of.Fetch (record { anchor = at 0; cursor = id_c 1; targets = id_k 3 ∷ id_t 5 ∷ [] }),
    [],
  )
  -- the three forms say the same
  pub fetch_from_is_read : reading rules most_open stmt a_fetch_from ≡ Ok (
    stmt_of.Fetch (record { anchor = at 0; cursor = id_c 2; targets = id_k 4 ∷ [] }),
    [],
  )
  pub fetch_next_is_read : reading rules most_open stmt a_fetch_next ≡ Ok (
    stmt_of.Fetch (record { anchor = at 0; cursor = id_c 3; targets = id_k 5 ∷ [] }),
    [],
  )
  pub from_is_wanted : reading rules most_open stmt a_next_without_from ≡
      Err (NoSpelling (drop 2 a_next_without_from))
  pub targets_are_wanted : reading rules most_open stmt a_fetch_without_targets ≡
      Err (NoSpelling [])

-- All of it holds by computation.
pub cursor_rows_hold : CursorRows
unfolding same_kind bracketed ident varchar_length plain_type varchar data_type constant literal
    dotted column_name named function_call aggregate function case_expression exists primary
    unary_sign factor operator term sum comparison_sign comparison compared truth_test not_word
    asked tested in_word among predicate_part predicate negation conjunction expr after more_exprs
    exprs for_length as_type all_rows argument operands when_clause more_when_clauses when_clauses
    else_clause arms cases more_idents idents column_list alias select_value more_select_values
    select_values all_columns select_list named_table derived_table table_ref on_condition joined_on
    comma_item cross_join left_join inner_join from_item more_from_items first_item from_items
    from_clause filter more_column_names column_names group_clause group_by having grouping
    select_word select row more_rows rows values_word values query query_or_expr query_or_exprs
    direction sort_specification more_sort_specifications sort_specifications order_clause order_by
    ordered_query insertion into_table insert_word insert assignment more_assignments assignments
    set_clause update_word update from_table delete_word delete parameter_argument call_argument
    more_call_arguments call_arguments if_call_arguments call_word call dml state_text state
    state_value exception_value warning_value not_found condition_value more_condition_values
    condition_values sqlstate signal_value message_text message if_message signal_word signal
    resignal_word if_signal_value resignal statement_item_name statement_item_value statement_item
    more_statement_items statement_items condition_item_name condition_item_value condition_item
    more_condition_items condition_items written_number condition_number numbered_items
    condition_information information written_area area diagnostics get_word get_diagnostics
    set_word set_statement targets select_into open_word open_statement close_word close_statement
    fetch_word fetch_orientation fetched_cursor fetch leave_word leave_statement iterate_word
    iterate_statement return_word return_statement storing cursor_statement condition_statement
    leaving simple_statement end_label construct structure structures label if_label labelled
    labelled_block if_construct if_statement case_construct case_statement stmt ended statements
    body body_after branch branch_after more_branches branches otherwise if_body when_branches
    case_body while_body repeat_body for_query for_body default_clause variables condition cursor
    named_declaration named_cursor handler_type handled handler declaration declarations atomic
    block_body structure_body not_null key_words primary_key column_constraint constraints column
    table_column table_key element more_elements elements table_definition create_table parameter
    more_parameters parameters if_parameters written_mode mode modal_parameter more_modal_parameters
    modal_parameters if_modal_parameters language deterministic not_deterministic contains_sql
    data_access data_characteristic null_call null_characteristic characteristic characteristics
    returns_type function_definition create_function procedure_definition create_procedure
    create_word created create object_sort dropped_name drop_word drop_object ddl explain_word
    explain other_statement unended statement
cursor_rows_hold = record {
  open_is_read = refl;
  close_is_read = refl;
  fetch_is_read = refl;
  fetch_from_is_read = refl;
  fetch_next_is_read = refl;
  from_is_wanted = refl;
  targets_are_wanted = refl;
}

-- ---- SIGNAL and RESIGNAL

-- SIGNAL SQLSTATE 'T' SET MESSAGE_TEXT = k
abbrev a_signal : List Token
a_signal = tokens_of (wd w.Signal ∷ wd w.Sqlstate ∷ text_t ∷ wd w.Set ∷ wd w.MessageText ∷
    sg s.Equals ∷ k ∷ [])

-- SIGNAL SQLSTATE VALUE 'T'
abbrev a_signal_without_text : List Token
a_signal_without_text = tokens_of (wd w.Signal ∷ wd w.Sqlstate ∷ wd w.Value ∷ text_t ∷ [])

-- SIGNAL k
abbrev a_signal_by_name : List Token
a_signal_by_name = tokens_of (wd w.Signal ∷ k ∷ [])

-- SIGNAL SET MESSAGE_TEXT = k
abbrev a_signal_of_none : List Token
a_signal_of_none = tokens_of (wd w.Signal ∷ wd w.Set ∷ wd w.MessageText ∷ sg s.Equals ∷ k ∷ [])

-- RESIGNAL
abbrev a_resignal : List Token
a_resignal = tokens_of (wd w.Resignal ∷ [])

-- RESIGNAL SET MESSAGE_TEXT = 'T'
abbrev a_resignal_with_text : List Token
a_resignal_with_text = tokens_of (wd w.Resignal ∷ wd w.Set ∷ wd w.MessageText ∷ sg s.Equals ∷
    text_t ∷ [])

-- RESIGNAL SQLSTATE 'T' SET MESSAGE_TEXT = k
abbrev a_resignal_with_value : List Token
a_resignal_with_value = tokens_of (wd w.Resignal ∷ wd w.Sqlstate ∷ text_t ∷ wd w.Set ∷
    wd w.MessageText ∷ sg s.Equals ∷ k ∷ [])

-- SIGNAL and RESIGNAL
pub record SignalRows : Type 0 where
  pub signal_is_read : reading rules most_open stmt a_signal ≡ Ok (
    stmt_of.Signal (record {
      anchor = at 0;
      value = signal_value_of.Sqlstate (state_t 2);
      message =
          Some (name_k 6);
    }),
    [],
  )
  pub text_may_be_left_out : reading rules most_open stmt a_signal_without_text ≡ Ok (
    stmt_of.Signal (record {
      anchor = at 0;
      value = signal_value_of.Sqlstate (state_t 3);
      message =
          None;
    }),
    [],
  )
  pub condition_is_raised : reading rules most_open stmt a_signal_by_name ≡ Ok (
    stmt_of.Signal (record {
      anchor = at 0;
      value = signal_value_of.Condition (id_k 1);
      message =
          None;
    }),
    [],
  )
  -- only RESIGNAL may leave out what is raised
  pub value_is_wanted : reading rules most_open stmt a_signal_of_none ≡
      Err (NoSpelling (drop 1 a_signal_of_none))
  pub resignal_is_read : reading rules most_open stmt a_resignal ≡
      Ok (stmt_of.Resignal (record { anchor = at 0; value = None; message = None }), [])
  pub text_alone_is_read : reading rules most_open stmt a_resignal_with_text ≡ Ok (
    stmt_of.Resignal (record {
      anchor = at 0;
      value = None;
      message =
          Some (e.Literal (at 4) (literal_of.Text (codes "T")));
    }),
    [],
  )
  pub resignal_of_value_is_read : reading rules most_open stmt a_resignal_with_value ≡ Ok (
    stmt_of.Resignal (record {
      anchor = at 0;
      value = Some (signal_value_of.Sqlstate (state_t 2));
      message = Some (name_k 6);
    }),
    [],
  )

-- All of it holds by computation.
pub signal_rows_hold : SignalRows
unfolding same_kind bracketed ident varchar_length plain_type varchar data_type constant literal
    dotted column_name named function_call aggregate function case_expression exists primary
    unary_sign factor operator term sum comparison_sign comparison compared truth_test not_word
    asked tested in_word among predicate_part predicate negation conjunction expr after more_exprs
    exprs for_length as_type all_rows argument operands when_clause more_when_clauses when_clauses
    else_clause arms cases more_idents idents column_list alias select_value more_select_values
    select_values all_columns select_list named_table derived_table table_ref on_condition joined_on
    comma_item cross_join left_join inner_join from_item more_from_items first_item from_items
    from_clause filter more_column_names column_names group_clause group_by having grouping
    select_word select row more_rows rows values_word values query query_or_expr query_or_exprs
    direction sort_specification more_sort_specifications sort_specifications order_clause order_by
    ordered_query insertion into_table insert_word insert assignment more_assignments assignments
    set_clause update_word update from_table delete_word delete parameter_argument call_argument
    more_call_arguments call_arguments if_call_arguments call_word call dml state_text state
    state_value exception_value warning_value not_found condition_value more_condition_values
    condition_values sqlstate signal_value message_text message if_message signal_word signal
    resignal_word if_signal_value resignal statement_item_name statement_item_value statement_item
    more_statement_items statement_items condition_item_name condition_item_value condition_item
    more_condition_items condition_items written_number condition_number numbered_items
    condition_information information written_area area diagnostics get_word get_diagnostics
    set_word set_statement targets select_into open_word open_statement close_word close_statement
    fetch_word fetch_orientation fetched_cursor fetch leave_word leave_statement iterate_word
    iterate_statement return_word return_statement storing cursor_statement condition_statement
    leaving simple_statement end_label construct structure structures label if_label labelled
    labelled_block if_construct if_statement case_construct case_statement stmt ended statements
    body body_after branch branch_after more_branches branches otherwise if_body when_branches
    case_body while_body repeat_body for_query for_body default_clause variables condition cursor
    named_declaration named_cursor handler_type handled handler declaration declarations atomic
    block_body structure_body not_null key_words primary_key column_constraint constraints column
    table_column table_key element more_elements elements table_definition create_table parameter
    more_parameters parameters if_parameters written_mode mode modal_parameter more_modal_parameters
    modal_parameters if_modal_parameters language deterministic not_deterministic contains_sql
    data_access data_characteristic null_call null_characteristic characteristic characteristics
    returns_type function_definition create_function procedure_definition create_procedure
    create_word created create object_sort dropped_name drop_word drop_object ddl explain_word
    explain other_statement unended statement
signal_rows_hold = record {
  signal_is_read = refl;
  text_may_be_left_out = refl;
  condition_is_raised = refl;
  value_is_wanted = refl;
  resignal_is_read = refl;
  text_alone_is_read = refl;
  resignal_of_value_is_read = refl;
}

-- ---- GET DIAGNOSTICS

-- GET DIAGNOSTICS k = NUMBER, t = ROW_COUNT
abbrev a_get_of_area : List Token
a_get_of_area = tokens_of (wd w.Get ∷ wd w.Diagnostics ∷ k ∷ sg s.Equals ∷ wd w.Number ∷
    sg s.Comma ∷ t ∷ sg s.Equals ∷ wd w.RowCount ∷ [])

-- GET STACKED DIAGNOSTICS CONDITION 1 k = RETURNED_SQLSTATE, t = MESSAGE_TEXT
abbrev a_get_of_condition : List Token
a_get_of_condition = tokens_of (wd w.Get ∷ wd w.Stacked ∷ wd w.Diagnostics ∷ wd w.Condition ∷ one ∷
    k ∷ sg s.Equals ∷ wd w.ReturnedSqlstate
    ∷ sg s.Comma ∷ t ∷ sg s.Equals ∷ wd w.MessageText ∷ [])

-- GET CURRENT DIAGNOSTICS CONDITION c k = MESSAGE_TEXT
abbrev a_get_by_variable : List Token
a_get_by_variable = tokens_of (wd w.Get ∷ wd w.Current ∷ wd w.Diagnostics ∷ wd w.Condition ∷ c ∷ k ∷
    sg s.Equals ∷ wd w.MessageText ∷ [])

-- GET DIAGNOSTICS k = NUMBER, t = MESSAGE_TEXT
abbrev an_item_of_a_condition : List Token
an_item_of_a_condition = tokens_of (wd w.Get ∷ wd w.Diagnostics ∷ k ∷ sg s.Equals ∷ wd w.Number ∷
    sg s.Comma ∷ t ∷ sg s.Equals ∷ wd w.MessageText ∷ [])

-- GET DIAGNOSTICS CONDITION 1 k = ROW_COUNT
abbrev an_item_of_the_area : List Token
an_item_of_the_area = tokens_of (wd w.Get ∷ wd w.Diagnostics ∷ wd w.Condition ∷ one ∷ k ∷
    sg s.Equals ∷ wd w.RowCount ∷ [])

-- GET DIAGNOSTICS CONDITION k = MESSAGE_TEXT
abbrev a_condition_without_number : List Token
a_condition_without_number = tokens_of (wd w.Get ∷ wd w.Diagnostics ∷ wd w.Condition ∷ k ∷
    sg s.Equals ∷ wd w.MessageText ∷ [])

-- GET STACKED k = NUMBER
abbrev a_get_without_diagnostics : List Token
a_get_without_diagnostics = tokens_of (wd w.Get ∷ wd w.Stacked ∷ k ∷ sg s.Equals ∷ wd w.Number ∷ [])

-- GET DIAGNOSTICS of a statement and of a condition
pub record DiagnosticsRows : Type 0 where
  -- the area is the current one where none is written
  pub area_is_read : reading rules most_open stmt a_get_of_area ≡ Ok (
    stmt_of.GetDiagnostics (record {
      anchor = at 0;
      area = area_of.Current;
      information = information_of.Statement (record {
        target = id_k 2;
        item =
            statement_item_of.Number;
      }
          ∷ record { target = id_t 6; item = statement_item_of.RowCount } ∷ []);
    }),
    [],
  )
  pub condition_is_read : reading rules most_open stmt a_get_of_condition ≡ Ok (
    stmt_of.GetDiagnostics (record {
      anchor = at 0;
      area = area_of.Stacked;
      information = information_of.Condition (condition_number_of.Number (at 4) (pos 1))
          (record { target = id_k 5; item = condition_item_of.ReturnedSqlstate }
          ∷ record { target = id_t 9; item = condition_item_of.MessageText } ∷ []);
    }),
    [],
  )
  pub condition_by_variable : reading rules most_open stmt a_get_by_variable ≡ Ok (
    stmt_of.GetDiagnostics (record {
      anchor = at 0;
      area = area_of.Current;
      information = information_of.Condition (condition_number_of.Variable (id_c 4))
          (record { target = id_k 5; item = condition_item_of.MessageText } ∷ []);
    }),
    [],
  )
  -- the items of an area aren't those of a condition
  pub kinds_stand_apart : reading rules most_open stmt an_item_of_a_condition ≡
      Err (NoSpelling (drop 8 an_item_of_a_condition))
  pub condition_has_its_items : reading rules most_open stmt an_item_of_the_area ≡
      Err (NoSpelling (drop 6 an_item_of_the_area))
  -- the name is that of the condition's number, and none is left for the target
  pub number_is_wanted : reading rules most_open stmt a_condition_without_number ≡
      Err (NoSpelling (drop 4 a_condition_without_number))
  pub area_is_no_item : reading rules most_open stmt a_get_without_diagnostics ≡
      Err (NoSpelling (drop 2 a_get_without_diagnostics))

-- All of it holds by computation.
pub diagnostics_rows_hold : DiagnosticsRows
unfolding same_kind bracketed ident varchar_length plain_type varchar data_type constant literal
    dotted column_name named function_call aggregate function case_expression exists primary
    unary_sign factor operator term sum comparison_sign comparison compared truth_test not_word
    asked tested in_word among predicate_part predicate negation conjunction expr after more_exprs
    exprs for_length as_type all_rows argument operands when_clause more_when_clauses when_clauses
    else_clause arms cases more_idents idents column_list alias select_value more_select_values
    select_values all_columns select_list named_table derived_table table_ref on_condition joined_on
    comma_item cross_join left_join inner_join from_item more_from_items first_item from_items
    from_clause filter more_column_names column_names group_clause group_by having grouping
    select_word select row more_rows rows values_word values query query_or_expr query_or_exprs
    direction sort_specification more_sort_specifications sort_specifications order_clause order_by
    ordered_query insertion into_table insert_word insert assignment more_assignments assignments
    set_clause update_word update from_table delete_word delete parameter_argument call_argument
    more_call_arguments call_arguments if_call_arguments call_word call dml state_text state
    state_value exception_value warning_value not_found condition_value more_condition_values
    condition_values sqlstate signal_value message_text message if_message signal_word signal
    resignal_word if_signal_value resignal statement_item_name statement_item_value statement_item
    more_statement_items statement_items condition_item_name condition_item_value condition_item
    more_condition_items condition_items written_number condition_number numbered_items
    condition_information information written_area area diagnostics get_word get_diagnostics
    set_word set_statement targets select_into open_word open_statement close_word close_statement
    fetch_word fetch_orientation fetched_cursor fetch leave_word leave_statement iterate_word
    iterate_statement return_word return_statement storing cursor_statement condition_statement
    leaving simple_statement end_label construct structure structures label if_label labelled
    labelled_block if_construct if_statement case_construct case_statement stmt ended statements
    body body_after branch branch_after more_branches branches otherwise if_body when_branches
    case_body while_body repeat_body for_query for_body default_clause variables condition cursor
    named_declaration named_cursor handler_type handled handler declaration declarations atomic
    block_body structure_body not_null key_words primary_key column_constraint constraints column
    table_column table_key element more_elements elements table_definition create_table parameter
    more_parameters parameters if_parameters written_mode mode modal_parameter more_modal_parameters
    modal_parameters if_modal_parameters language deterministic not_deterministic contains_sql
    data_access data_characteristic null_call null_characteristic characteristic characteristics
    returns_type function_definition create_function procedure_definition create_procedure
    create_word created create object_sort dropped_name drop_word drop_object ddl explain_word
    explain other_statement unended statement
diagnostics_rows_hold = record {
  area_is_read = refl;
  condition_is_read = refl;
  condition_by_variable = refl;
  kinds_stand_apart = refl;
  condition_has_its_items = refl;
  number_is_wanted = refl;
  area_is_no_item = refl;
}

-- ---- definitions of routines

-- CREATE FUNCTION t (k INT, c VARCHAR (1)) RETURNS INT LANGUAGE SQL DETERMINISTIC NOT DETERMINISTIC
-- CONTAINS SQL READS SQL DATA MODIFIES SQL DATA RETURNS NULL ON NULL INPUT CALLED ON NULL INPUT
-- RETURN k;
abbrev each_characteristic : List Token
each_characteristic = tokens_of (wd w.Create ∷ wd w.Function ∷ t ∷ sg s.LeftParen ∷ k ∷ wd w.Int ∷
    sg s.Comma ∷ c ∷ wd w.Varchar ∷ sg s.LeftParen ∷ one
    ∷ sg s.RightParen ∷ sg s.RightParen ∷ wd w.Returns ∷ wd w.Int ∷ wd w.Language ∷ wd w.Sql ∷
    wd w.Deterministic
    ∷ wd w.Not ∷ wd w.Deterministic ∷ wd w.Contains ∷ wd w.Sql ∷ wd w.Reads ∷ wd w.Sql ∷ wd w.Data ∷
    wd w.Modifies
    ∷ wd w.Sql ∷ wd w.Data ∷ wd w.Returns ∷ wd w.Null ∷ wd w.On ∷ wd w.Null ∷ wd w.Input ∷
    wd w.Called ∷ wd w.On
    ∷ wd w.Null ∷ wd w.Input ∷ wd w.Return ∷ k ∷ sg s.Semicolon ∷ [])

-- CREATE PROCEDURE t (k INT, IN t INT, OUT c INT, INOUT l BOOLEAN) SET k = 1;
abbrev each_mode : List Token
each_mode = tokens_of (wd w.Create ∷ wd w.Procedure ∷ t ∷ sg s.LeftParen ∷ k ∷ wd w.Int ∷
    sg s.Comma ∷ wd w.In ∷ t ∷ wd w.Int ∷ sg s.Comma
    ∷ wd w.Out ∷ c ∷ wd w.Int ∷ sg s.Comma ∷ wd w.Inout ∷ l ∷ wd w.Boolean ∷ sg s.RightParen ∷
    wd w.Set ∷ k ∷ sg s.Equals
    ∷ one ∷ sg s.Semicolon ∷ [])

-- CREATE PROCEDURE k () MODIFIES SQL DATA l: BEGIN CALL k (); END l;
abbrev a_procedure : List Token
a_procedure = tokens_of (wd w.Create ∷ wd w.Procedure ∷ k ∷ sg s.LeftParen ∷ sg s.RightParen ∷
    wd w.Modifies ∷ wd w.Sql ∷ wd w.Data ∷ l
    ∷ sg s.Colon ∷ wd w.Begin ∷ wd w.Call ∷ k ∷ sg s.LeftParen ∷ sg s.RightParen ∷ sg s.Semicolon ∷
    wd w.End ∷ l
    ∷ sg s.Semicolon ∷ [])

-- CREATE FUNCTION k (IN t INT) RETURNS INT RETURN t;
abbrev a_mode_in_a_function : List Token
a_mode_in_a_function = tokens_of (wd w.Create ∷ wd w.Function ∷ k ∷ sg s.LeftParen ∷ wd w.In ∷ t ∷
    wd w.Int ∷ sg s.RightParen ∷ wd w.Returns ∷ wd w.Int
    ∷ wd w.Return ∷ t ∷ sg s.Semicolon ∷ [])

-- CREATE FUNCTION k () RETURN 1;
abbrev a_function_without_type : List Token
a_function_without_type = tokens_of (wd w.Create ∷ wd w.Function ∷ k ∷ sg s.LeftParen ∷
    sg s.RightParen ∷ wd w.Return ∷ one ∷ sg s.Semicolon ∷ [])

-- CREATE PROCEDURE k () RETURNS INT RETURN 1;
abbrev a_procedure_with_type : List Token
a_procedure_with_type = tokens_of (wd w.Create ∷ wd w.Procedure ∷ k ∷ sg s.LeftParen ∷
    sg s.RightParen ∷ wd w.Returns ∷ wd w.Int ∷ wd w.Return ∷ one
    ∷ sg s.Semicolon ∷ [])

-- CREATE PROCEDURE k ();
abbrev a_procedure_without_body : List Token
a_procedure_without_body = tokens_of (wd w.Create ∷ wd w.Procedure ∷ k ∷ sg s.LeftParen ∷
    sg s.RightParen ∷ sg s.Semicolon ∷ [])

-- CREATE FUNCTION and CREATE PROCEDURE
pub record RoutineRows : Type 0 where
  -- in any order and any number; which go together is no matter of the grammar
  pub characteristics_are_read : reading rules most_open statement each_characteristic ≡ Ok (
    stmt_of.CreateFunction (roll-CreateFunction (record {
      anchor = at 0;
      name = id_t 2;
      parameters = record { mode = mode_of.In; name = id_k 4; data_type = integer_at 5 }
          ∷ record {
            mode = mode_of.In;
            name = id_c 7;
            data_type =
                type_at 8 (type.Varchar (at 10) (pos 1));
          } ∷ [];
      returns = integer_at 14;
      characteristics = record { anchor = at 15; kind = characteristic_of.LanguageSql }
          ∷ record { anchor = at 17; kind = characteristic_of.Deterministic }
          ∷ record { anchor = at 18; kind = characteristic_of.NotDeterministic }
          ∷ record { anchor = at 20; kind = characteristic_of.ContainsSql }
          ∷ record { anchor = at 22; kind = characteristic_of.ReadsSqlData }
          ∷ record { anchor = at 25; kind = characteristic_of.ModifiesSqlData }
          ∷ record { anchor = at 28; kind = characteristic_of.ReturnsNullOnNullInput }
          ∷ record { anchor = at 33; kind = characteristic_of.CalledOnNullInput } ∷ [];
      body = stmt_of.Return (at 37) (name_k 38);
    })),
    [],
  )
  -- a parameter without a mode is IN
  pub modes_are_read : reading rules most_open statement each_mode ≡ Ok (
    stmt_of.CreateProcedure (roll-CreateProcedure (record {
      anchor = at 0;
      name = id_t 2;
      parameters = record { mode = mode_of.In; name = id_k 4; data_type = integer_at 5 }
          ∷ record { mode = mode_of.In; name = id_t 8; data_type = integer_at 9 }
          ∷ record { mode = mode_of.Out; name = id_c 12; data_type = integer_at 13 }
          ∷ record { mode = mode_of.Inout; name = id_l 16; data_type = type_at 17 type.Boolean } ∷
          [];
      characteristics = [];
      body = stmt_of.Set (at 19) (record { target = id_k 20; value = number_one 22 });
    })),
    [],
  )
  -- the body may be any statement of a routine
  pub procedure_is_read : reading rules most_open statement a_procedure ≡ Ok (
    stmt_of.CreateProcedure (roll-CreateProcedure (record {
      anchor = at 0;
      name = id_k 2;
      parameters = [];
      characteristics = record { anchor = at 5; kind = characteristic_of.ModifiesSqlData } ∷ [];
      body = stmt_of.Labelled (roll-Labelled (record {
        label = Some (id_l 8);
        anchor = at 10;
        structure = structure_of.Block (roll-Block (record {
          atomic = false;
          declarations = [];
          statements = stmt_of.Call (record { anchor = at 11; name = id_k 12; arguments = [] }) ∷
              [];
        }));
        end_label = Some (id_l 17);
      }));
    })),
    [],
  )
  pub function_has_no_modes : reading rules most_open statement a_mode_in_a_function ≡
      Err (NoSpelling (drop 4 a_mode_in_a_function))
  pub returns_is_wanted : reading rules most_open statement a_function_without_type ≡
      Err (NoSpelling (drop 5 a_function_without_type))
  -- RETURNS is then RETURNS NULL ON NULL INPUT
  pub procedure_has_no_type : reading rules most_open statement a_procedure_with_type ≡
      Err (NoSpelling (drop 6 a_procedure_with_type))
  pub body_is_wanted : reading rules most_open statement a_procedure_without_body ≡
      Err (NoSpelling (drop 5 a_procedure_without_body))

-- All of it holds by computation.
pub routine_rows_hold : RoutineRows
unfolding same_kind bracketed ident varchar_length plain_type varchar data_type constant literal
    dotted column_name named function_call aggregate function case_expression exists primary
    unary_sign factor operator term sum comparison_sign comparison compared truth_test not_word
    asked tested in_word among predicate_part predicate negation conjunction expr after more_exprs
    exprs for_length as_type all_rows argument operands when_clause more_when_clauses when_clauses
    else_clause arms cases more_idents idents column_list alias select_value more_select_values
    select_values all_columns select_list named_table derived_table table_ref on_condition joined_on
    comma_item cross_join left_join inner_join from_item more_from_items first_item from_items
    from_clause filter more_column_names column_names group_clause group_by having grouping
    select_word select row more_rows rows values_word values query query_or_expr query_or_exprs
    direction sort_specification more_sort_specifications sort_specifications order_clause order_by
    ordered_query insertion into_table insert_word insert assignment more_assignments assignments
    set_clause update_word update from_table delete_word delete parameter_argument call_argument
    more_call_arguments call_arguments if_call_arguments call_word call dml state_text state
    state_value exception_value warning_value not_found condition_value more_condition_values
    condition_values sqlstate signal_value message_text message if_message signal_word signal
    resignal_word if_signal_value resignal statement_item_name statement_item_value statement_item
    more_statement_items statement_items condition_item_name condition_item_value condition_item
    more_condition_items condition_items written_number condition_number numbered_items
    condition_information information written_area area diagnostics get_word get_diagnostics
    set_word set_statement targets select_into open_word open_statement close_word close_statement
    fetch_word fetch_orientation fetched_cursor fetch leave_word leave_statement iterate_word
    iterate_statement return_word return_statement storing cursor_statement condition_statement
    leaving simple_statement end_label construct structure structures label if_label labelled
    labelled_block if_construct if_statement case_construct case_statement stmt ended statements
    body body_after branch branch_after more_branches branches otherwise if_body when_branches
    case_body while_body repeat_body for_query for_body default_clause variables condition cursor
    named_declaration named_cursor handler_type handled handler declaration declarations atomic
    block_body structure_body not_null key_words primary_key column_constraint constraints column
    table_column table_key element more_elements elements table_definition create_table parameter
    more_parameters parameters if_parameters written_mode mode modal_parameter more_modal_parameters
    modal_parameters if_modal_parameters language deterministic not_deterministic contains_sql
    data_access data_characteristic null_call null_characteristic characteristic characteristics
    returns_type function_definition create_function procedure_definition create_procedure
    create_word created create object_sort dropped_name drop_word drop_object ddl explain_word
    explain other_statement unended statement
routine_rows_hold = record {
  characteristics_are_read = refl;
  modes_are_read = refl;
  procedure_is_read = refl;
  function_has_no_modes = refl;
  returns_is_wanted = refl;
  procedure_has_no_type = refl;
  body_is_wanted = refl;
}

-- ---- what stands in a script

-- EXPLAIN SELECT k FROM t ORDER BY k;
abbrev an_explain : List Token
an_explain = tokens_of (wd w.Explain ∷ wd w.Select ∷ k ∷ wd w.From ∷ t ∷ wd w.Order ∷ wd w.By ∷ k ∷
    sg s.Semicolon ∷ [])

-- EXPLAIN INSERT INTO t VALUES (1);
abbrev an_explain_of_insert : List Token
an_explain_of_insert = tokens_of (wd w.Explain ∷ wd w.Insert ∷ wd w.Into ∷ t ∷ wd w.Values ∷
    sg s.LeftParen ∷ one ∷ sg s.RightParen ∷ sg s.Semicolon ∷ [])

-- CREATE FUNCTION t (k INT) RETURNS INT BEGIN RETURN k;
abbrev an_unfinished_function : List Token
an_unfinished_function = tokens_of (wd w.Create ∷ wd w.Function ∷ t ∷ sg s.LeftParen ∷ k ∷
    wd w.Int ∷ sg s.RightParen ∷ wd w.Returns ∷ wd w.Int
    ∷ wd w.Begin ∷ wd w.Return ∷ k ∷ sg s.Semicolon ∷ [])

-- LOOP SET k = 1; END LOOP;
abbrev a_loop_in_a_script : List Token
a_loop_in_a_script = tokens_of (wd w.Loop ∷ wd w.Set ∷ k ∷ sg s.Equals ∷ one ∷ sg s.Semicolon ∷
    wd w.End ∷ wd w.Loop ∷ sg s.Semicolon ∷ [])

-- l: LOOP SET k = 1; END LOOP;
abbrev a_labelled_loop_in_a_script : List Token
a_labelled_loop_in_a_script = tokens_of (l ∷ sg s.Colon ∷ wd w.Loop ∷ wd w.Set ∷ k ∷ sg s.Equals ∷
    one ∷ sg s.Semicolon ∷ wd w.End ∷ wd w.Loop ∷ sg s.Semicolon ∷ [])

-- SET k = 1;
abbrev a_set_in_a_script : List Token
a_set_in_a_script = tokens_of (wd w.Set ∷ k ∷ sg s.Equals ∷ one ∷ sg s.Semicolon ∷ [])

-- SELECT k INTO t FROM t;
abbrev a_select_into_in_a_script : List Token
a_select_into_in_a_script = tokens_of (wd w.Select ∷ k ∷ wd w.Into ∷ t ∷ wd w.From ∷ t ∷
    sg s.Semicolon ∷ [])

-- which statements a script may have
pub record ScriptRows : Type 0 where
  pub explain_is_read : reading rules most_open statement an_explain ≡ Ok (
    stmt_of.Explain (at 0) (record {
      query = q.Select (roll-Select (record {
        anchor = at 1;
        items = item.Value (name_k 2) None ∷ [];
        from = from.Comma (table_t 4) ∷ [];
        filter = None;
        group_by = [];
        having = None;
      }));
      order = record { name = id_k 7; descending = false } ∷ [];
    }),
    [],
  )
  pub query_is_explained : reading rules most_open statement an_explain_of_insert ≡
      Err (NoSpelling (drop 1 an_explain_of_insert))
  -- a beginning is refused at its end, where more may still come
  pub function_is_unfinished : reading rules most_open statement an_unfinished_function ≡
      Err (NoSpelling [])
  -- loops, and what sets variables, stand in routines and blocks only
  pub loop_is_no_statement : reading rules most_open statement a_loop_in_a_script ≡
      Err (NoSpelling a_loop_in_a_script)
  pub labelled_loop_is_none : reading rules most_open statement a_labelled_loop_in_a_script ≡
      Err (NoSpelling (drop 2 a_labelled_loop_in_a_script))
  pub set_is_no_statement : reading rules most_open statement a_set_in_a_script ≡
      Err (NoSpelling a_set_in_a_script)
  pub select_into_is_no_statement : reading rules most_open statement a_select_into_in_a_script ≡
      Err (NoSpelling (drop 2 a_select_into_in_a_script))

-- All of it holds by computation.
pub script_rows_hold : ScriptRows
unfolding same_kind bracketed ident varchar_length plain_type varchar data_type constant literal
    dotted column_name named function_call aggregate function case_expression exists primary
    unary_sign factor operator term sum comparison_sign comparison compared truth_test not_word
    asked tested in_word among predicate_part predicate negation conjunction expr after more_exprs
    exprs for_length as_type all_rows argument operands when_clause more_when_clauses when_clauses
    else_clause arms cases more_idents idents column_list alias select_value more_select_values
    select_values all_columns select_list named_table derived_table table_ref on_condition joined_on
    comma_item cross_join left_join inner_join from_item more_from_items first_item from_items
    from_clause filter more_column_names column_names group_clause group_by having grouping
    select_word select row more_rows rows values_word values query query_or_expr query_or_exprs
    direction sort_specification more_sort_specifications sort_specifications order_clause order_by
    ordered_query insertion into_table insert_word insert assignment more_assignments assignments
    set_clause update_word update from_table delete_word delete parameter_argument call_argument
    more_call_arguments call_arguments if_call_arguments call_word call dml state_text state
    state_value exception_value warning_value not_found condition_value more_condition_values
    condition_values sqlstate signal_value message_text message if_message signal_word signal
    resignal_word if_signal_value resignal statement_item_name statement_item_value statement_item
    more_statement_items statement_items condition_item_name condition_item_value condition_item
    more_condition_items condition_items written_number condition_number numbered_items
    condition_information information written_area area diagnostics get_word get_diagnostics
    set_word set_statement targets select_into open_word open_statement close_word close_statement
    fetch_word fetch_orientation fetched_cursor fetch leave_word leave_statement iterate_word
    iterate_statement return_word return_statement storing cursor_statement condition_statement
    leaving simple_statement end_label construct structure structures label if_label labelled
    labelled_block if_construct if_statement case_construct case_statement stmt ended statements
    body body_after branch branch_after more_branches branches otherwise if_body when_branches
    case_body while_body repeat_body for_query for_body default_clause variables condition cursor
    named_declaration named_cursor handler_type handled handler declaration declarations atomic
    block_body structure_body not_null key_words primary_key column_constraint constraints column
    table_column table_key element more_elements elements table_definition create_table parameter
    more_parameters parameters if_parameters written_mode mode modal_parameter more_modal_parameters
    modal_parameters if_modal_parameters language deterministic not_deterministic contains_sql
    data_access data_characteristic null_call null_characteristic characteristic characteristics
    returns_type function_definition create_function procedure_definition create_procedure
    create_word created create object_sort dropped_name drop_word drop_object ddl explain_word
    explain other_statement unended statement
script_rows_hold = record {
  explain_is_read = refl;
  query_is_explained = refl;
  function_is_unfinished = refl;
  loop_is_no_statement = refl;
  labelled_loop_is_none = refl;
  set_is_no_statement = refl;
  select_into_is_no_statement = refl;
}

-- ---- what stands in a script alone

-- l: VALUES (1);
abbrev a_label_before_a_query : List Token
a_label_before_a_query = tokens_of (l ∷ sg s.Colon ∷ wd w.Values ∷ sg s.LeftParen ∷ one ∷
    sg s.RightParen ∷ sg s.Semicolon ∷ [])

-- l: CALL k ();
abbrev a_label_before_a_call : List Token
a_label_before_a_call = tokens_of (l ∷ sg s.Colon ∷ wd w.Call ∷ k ∷ sg s.LeftParen ∷
    sg s.RightParen ∷ sg s.Semicolon ∷ [])

-- BEGIN VALUES (1); END;
abbrev a_query_in_a_block : List Token
a_query_in_a_block = tokens_of (wd w.Begin ∷ wd w.Values ∷ sg s.LeftParen ∷ one ∷ sg s.RightParen ∷
    sg s.Semicolon ∷ wd w.End ∷ sg s.Semicolon ∷ [])

-- BEGIN CREATE TABLE t (k INT); END;
abbrev a_definition_in_a_block : List Token
a_definition_in_a_block = tokens_of (wd w.Begin ∷ wd w.Create ∷ wd w.Table ∷ t ∷ sg s.LeftParen ∷
    k ∷ wd w.Int ∷ sg s.RightParen ∷ sg s.Semicolon
    ∷ wd w.End ∷ sg s.Semicolon ∷ [])

-- which statements only a script may have, and where a label may stand there
pub record ScriptAloneRows : Type 0 where
  pub query_has_no_label : reading rules most_open statement a_label_before_a_query ≡
      Err (NoSpelling (drop 2 a_label_before_a_query))
  pub call_has_no_label : reading rules most_open statement a_label_before_a_call ≡
      Err (NoSpelling (drop 2 a_label_before_a_call))
  -- queries and definitions stand in no block
  pub query_is_in_no_block : reading rules most_open statement a_query_in_a_block ≡
      Err (NoSpelling (drop 1 a_query_in_a_block))
  pub definition_is_in_no_block : reading rules most_open statement a_definition_in_a_block ≡
      Err (NoSpelling (drop 1 a_definition_in_a_block))

-- All of it holds by computation.
pub script_alone_rows_hold : ScriptAloneRows
unfolding same_kind bracketed ident varchar_length plain_type varchar data_type constant literal
    dotted column_name named function_call aggregate function case_expression exists primary
    unary_sign factor operator term sum comparison_sign comparison compared truth_test not_word
    asked tested in_word among predicate_part predicate negation conjunction expr after more_exprs
    exprs for_length as_type all_rows argument operands when_clause more_when_clauses when_clauses
    else_clause arms cases more_idents idents column_list alias select_value more_select_values
    select_values all_columns select_list named_table derived_table table_ref on_condition joined_on
    comma_item cross_join left_join inner_join from_item more_from_items first_item from_items
    from_clause filter more_column_names column_names group_clause group_by having grouping
    select_word select row more_rows rows values_word values query query_or_expr query_or_exprs
    direction sort_specification more_sort_specifications sort_specifications order_clause order_by
    ordered_query insertion into_table insert_word insert assignment more_assignments assignments
    set_clause update_word update from_table delete_word delete parameter_argument call_argument
    more_call_arguments call_arguments if_call_arguments call_word call dml state_text state
    state_value exception_value warning_value not_found condition_value more_condition_values
    condition_values sqlstate signal_value message_text message if_message signal_word signal
    resignal_word if_signal_value resignal statement_item_name statement_item_value statement_item
    more_statement_items statement_items condition_item_name condition_item_value condition_item
    more_condition_items condition_items written_number condition_number numbered_items
    condition_information information written_area area diagnostics get_word get_diagnostics
    set_word set_statement targets select_into open_word open_statement close_word close_statement
    fetch_word fetch_orientation fetched_cursor fetch leave_word leave_statement iterate_word
    iterate_statement return_word return_statement storing cursor_statement condition_statement
    leaving simple_statement end_label construct structure structures label if_label labelled
    labelled_block if_construct if_statement case_construct case_statement stmt ended statements
    body body_after branch branch_after more_branches branches otherwise if_body when_branches
    case_body while_body repeat_body for_query for_body default_clause variables condition cursor
    named_declaration named_cursor handler_type handled handler declaration declarations atomic
    block_body structure_body not_null key_words primary_key column_constraint constraints column
    table_column table_key element more_elements elements table_definition create_table parameter
    more_parameters parameters if_parameters written_mode mode modal_parameter more_modal_parameters
    modal_parameters if_modal_parameters language deterministic not_deterministic contains_sql
    data_access data_characteristic null_call null_characteristic characteristic characteristics
    returns_type function_definition create_function procedure_definition create_procedure
    create_word created create object_sort dropped_name drop_word drop_object ddl explain_word
    explain other_statement unended statement
script_alone_rows_hold = record {
  query_has_no_label = refl;
  call_has_no_label = refl;
  query_is_in_no_block = refl;
  definition_is_in_no_block = refl;
}

-- ---- constructs in constructs

-- BEGIN IF k THEN CASE WHEN k THEN LOOP SET k = (1); END LOOP; END CASE; END IF; END;
abbrev five_constructs : List Token
five_constructs = tokens_of (wd w.Begin ∷ wd w.If ∷ k ∷ wd w.Then ∷ wd w.Case ∷ wd w.When ∷ k ∷
    wd w.Then ∷ wd w.Loop ∷ wd w.Set ∷ k ∷ sg s.Equals
    ∷ sg s.LeftParen ∷ one ∷ sg s.RightParen ∷ sg s.Semicolon ∷ wd w.End ∷ wd w.Loop ∷
    sg s.Semicolon ∷ wd w.End
    ∷ wd w.Case ∷ sg s.Semicolon ∷ wd w.End ∷ wd w.If ∷ sg s.Semicolon ∷ wd w.End ∷ sg s.Semicolon ∷
    [])

-- BEGIN IF k THEN RETURN 1; END IF; FOR k AS SELECT k FROM t DO RETURN 1; END FOR; RETURN CASE WHEN
-- k THEN 1 END; END;
abbrev three_in_turn : List Token
three_in_turn = tokens_of (wd w.Begin ∷ wd w.If ∷ k ∷ wd w.Then ∷ wd w.Return ∷ one ∷
    sg s.Semicolon ∷ wd w.End ∷ wd w.If ∷ sg s.Semicolon
    ∷ wd w.For ∷ k ∷ wd w.As ∷ wd w.Select ∷ k ∷ wd w.From ∷ t ∷ wd w.Do ∷ wd w.Return ∷ one ∷
    sg s.Semicolon ∷ wd w.End
    ∷ wd w.For ∷ sg s.Semicolon ∷ wd w.Return ∷ wd w.Case ∷ wd w.When ∷ k ∷ wd w.Then ∷ one ∷
    wd w.End ∷ sg s.Semicolon
    ∷ wd w.End ∷ sg s.Semicolon ∷ [])

-- how many constructs are open at once
pub record DeepRows : Type 0 where
  -- a block, IF, CASE, a loop and a bracket: each of the five is one construct
  pub five_are_open : reading rules 5 statement five_constructs ≡ Ok (
    stmt_of.Labelled (roll-Labelled (record {
      label = None;
      anchor = at 0;
      structure = structure_of.Block (roll-Block (record {
        atomic = false;
        declarations = [];
        statements = stmt_of.If (roll-If (record {
          anchor = at 1;
          branches = roll-Branch (record {
            test = name_k 2;
            body = stmt_of.Case (roll-Case (record {
              anchor = at 4;
              operand = None;
              branches = roll-Branch (record {
                test = name_k 6;
                body = stmt_of.Labelled (roll-Labelled (record {
                  label = None;
                  anchor = at 8;
                  structure = structure_of.Loop
                      (stmt_of.Set (at 9) (record { target = id_k 10; value = number_one 13 }) ∷
                      []);
                  end_label = None;
                })) ∷ [];
              }) ∷ [];
              otherwise = [];
            })) ∷ [];
          }) ∷ [];
          otherwise = [];
        })) ∷ [];
      }));
      end_label = None;
    })),
    [],
  )
  pub bracket_is_too_deep : reading rules 4 statement five_constructs ≡
      Err (TooDeep (drop 12 five_constructs))
  pub loop_is_too_deep : reading rules 3 statement five_constructs ≡
      Err (TooDeep (drop 8 five_constructs))
  pub case_is_too_deep : reading rules 2 statement five_constructs ≡
      Err (TooDeep (drop 4 five_constructs))
  pub if_is_too_deep : reading rules 1 statement five_constructs ≡
      Err (TooDeep (drop 1 five_constructs))
  pub block_is_too_deep : reading rules 0 statement five_constructs ≡ Err (TooDeep five_constructs)
  -- what is closed takes no room
  pub closed_ones_leave_room : reading rules 2 statement three_in_turn ≡ Ok (
    stmt_of.Labelled (roll-Labelled (record {
      label = None;
      anchor = at 0;
      structure = structure_of.Block (roll-Block (record {
        atomic = false;
        declarations = [];
        statements = stmt_of.If (roll-If (record {
          anchor = at 1;
          branches = roll-Branch (record {
            test = name_k 2;
            body =
                stmt_of.Return (at 4) (number_one 5) ∷ [];
          }) ∷ [];
          otherwise = [];
        }))
            ∷ stmt_of.Labelled (roll-Labelled (record {
              label = None;
              anchor = at 10;
              structure = structure_of.For (id_k 11) (record {
                query = q.Select (roll-Select (record {
                  anchor = at 13;
                  items = item.Value (name_k 14) None ∷ [];
                  from = from.Comma (table_t 16) ∷ [];
                  filter = None;
                  group_by = [];
                  having = None;
                }));
                order = [];
              }) (stmt_of.Return (at 18) (number_one 19) ∷ []);
              end_label = None;
            }))
            ∷ stmt_of.Return (at 24) (e.Operation (at 25) operation.Case
            (name_k 27 ∷ number_one 29 ∷ [])) ∷ [];
      }));
      end_label = None;
    })),
    [],
  )

-- All of it holds by computation.
pub deep_rows_hold : DeepRows
unfolding same_kind bracketed ident varchar_length plain_type varchar data_type constant literal
    dotted column_name named function_call aggregate function case_expression exists primary
    unary_sign factor operator term sum comparison_sign comparison compared truth_test not_word
    asked tested in_word among predicate_part predicate negation conjunction expr after more_exprs
    exprs for_length as_type all_rows argument operands when_clause more_when_clauses when_clauses
    else_clause arms cases more_idents idents column_list alias select_value more_select_values
    select_values all_columns select_list named_table derived_table table_ref on_condition joined_on
    comma_item cross_join left_join inner_join from_item more_from_items first_item from_items
    from_clause filter more_column_names column_names group_clause group_by having grouping
    select_word select row more_rows rows values_word values query query_or_expr query_or_exprs
    direction sort_specification more_sort_specifications sort_specifications order_clause order_by
    ordered_query insertion into_table insert_word insert assignment more_assignments assignments
    set_clause update_word update from_table delete_word delete parameter_argument call_argument
    more_call_arguments call_arguments if_call_arguments call_word call dml state_text state
    state_value exception_value warning_value not_found condition_value more_condition_values
    condition_values sqlstate signal_value message_text message if_message signal_word signal
    resignal_word if_signal_value resignal statement_item_name statement_item_value statement_item
    more_statement_items statement_items condition_item_name condition_item_value condition_item
    more_condition_items condition_items written_number condition_number numbered_items
    condition_information information written_area area diagnostics get_word get_diagnostics
    set_word set_statement targets select_into open_word open_statement close_word close_statement
    fetch_word fetch_orientation fetched_cursor fetch leave_word leave_statement iterate_word
    iterate_statement return_word return_statement storing cursor_statement condition_statement
    leaving simple_statement end_label construct structure structures label if_label labelled
    labelled_block if_construct if_statement case_construct case_statement stmt ended statements
    body body_after branch branch_after more_branches branches otherwise if_body when_branches
    case_body while_body repeat_body for_query for_body default_clause variables condition cursor
    named_declaration named_cursor handler_type handled handler declaration declarations atomic
    block_body structure_body not_null key_words primary_key column_constraint constraints column
    table_column table_key element more_elements elements table_definition create_table parameter
    more_parameters parameters if_parameters written_mode mode modal_parameter more_modal_parameters
    modal_parameters if_modal_parameters language deterministic not_deterministic contains_sql
    data_access data_characteristic null_call null_characteristic characteristic characteristics
    returns_type function_definition create_function procedure_definition create_procedure
    create_word created create object_sort dropped_name drop_word drop_object ddl explain_word
    explain other_statement unended statement
deep_rows_hold = record {
  five_are_open = refl;
  bracket_is_too_deep = refl;
  loop_is_too_deep = refl;
  case_is_too_deep = refl;
  if_is_too_deep = refl;
  block_is_too_deep = refl;
  closed_ones_leave_room = refl;
}

-- ---- open constructs, by the tokens alone

-- BEGIN SET k = SUBSTRING (t FROM 1 FOR: that FOR begins no loop
pub in_substring : open_after a_for_beside_substring 0 10 ≡ 5 ∷ 0 ∷ []
in_substring = refl

-- ) ;: the bracket is closed, the block is open
pub after_substring : open_after a_for_beside_substring 0 12 ≡ 0 ∷ []
after_substring = refl

-- FOR: this one does
pub in_for : open_after a_for_beside_substring 0 14 ≡ 13 ∷ 0 ∷ []
in_for = refl

-- k AS VALUES (1) DO IF
pub in_if : open_after a_for_beside_substring 0 22 ≡ 21 ∷ 13 ∷ 0 ∷ []
in_if = refl

-- k THEN RETURN 1; END IF: END closes it, and the word after END opens nothing
pub after_if : open_after a_for_beside_substring 0 29 ≡ 13 ∷ 0 ∷ []
after_if = refl

-- ; END FOR: nor does FOR there
pub after_for : open_after a_for_beside_substring 0 32 ≡ 0 ∷ []
after_for = refl

-- ; END
pub after_block : open_after a_for_beside_substring 0 34 ≡ []
after_block = refl

-- BEGIN DECLARE UNDO HANDLER FOR: the FOR of a handler begins no loop
pub after_handler : open_after a_loop_for_an_action 0 5 ≡ 0 ∷ []
after_handler = refl

-- NOT FOUND FOR: that of its action does
pub in_action : open_after a_loop_for_an_action 0 8 ≡ 7 ∷ 0 ∷ []
in_action = refl

-- BEGIN DECLARE t CONDITION FOR: nor does that of a condition
pub after_condition : open_after all_stages 0 5 ≡ 0 ∷ []
after_condition = refl
