-- One token ahead decides the grammar, and its tokens tell its constructs: computed once for all
-- rules, so that a new rule's name is added to one list.
use Rattle.std.specs.Prelude.{◌≡◌, true, false, refl, []}
use Rattle.std.proofs.Common.{sym, ◌∙◌}
use Rattle.grammar_algebra.specs.Grammar.{Grammar}
use Rattle.grammar_algebra.specs.Reading.{decides, goes_on, nullable, same_kind}
use Rattle.grammar_sql.specs.declared.function_word.FunctionWord.TheVariants.{Coalesce, Modulo}
use Rattle.grammar_sql.specs.declared.function_word.FunctionWord.TheVariants.{CharLength, Substring}
use Rattle.grammar_sql.specs.declared.function_word.FunctionWord.TheVariants.{Cast, Aggregate}
use Rattle.grammar_sql.specs.declared.structure_word.StructureWord.TheVariants.{Begin, Loop, While}
use Rattle.grammar_sql.specs.declared.structure_word.StructureWord.TheVariants.{Repeat, For}
use Rattle.sql_values.specs.declared.fold.FoldKind.TheVariants.{Count, Sum, Avg, Min, Max}
use Rattle.grammar_sql.specs.Trees.{Rule, Tree, Elements, Parameters, ModalParameters, Length}
use Rattle.grammar_sql.specs.Trees.{Arguments, CallArguments, Exprs, Bracketed, Among, Operands}
use Rattle.grammar_sql.specs.Trees.{Subquery, Names, Cases, Body, IfBody, CaseBody, bracketed}
use Rattle.grammar_sql.specs.Trees.{ident, varchar_length, plain_type, varchar, data_type}
use Rattle.grammar_sql.specs.Expressions.{constant, literal, dotted, column_name, named}
use Rattle.grammar_sql.specs.Expressions.{function_call, aggregate, function, case_expression}
use Rattle.grammar_sql.specs.Expressions.{exists, primary, unary_sign, factor, operator, term, sum}
use Rattle.grammar_sql.specs.Expressions.{comparison_sign, comparison, compared, truth_test}
use Rattle.grammar_sql.specs.Expressions.{not_word, asked, tested, in_word, among, predicate_part}
use Rattle.grammar_sql.specs.Expressions.{predicate, negation, conjunction, expr, after, more_exprs}
use Rattle.grammar_sql.specs.Expressions.{exprs, for_length, as_type, all_rows, argument, operands}
use Rattle.grammar_sql.specs.Expressions.{when_clause, more_when_clauses, when_clauses, else_clause}
use Rattle.grammar_sql.specs.Expressions.{arms, cases}
use Rattle.grammar_sql.specs.Queries.{more_idents, idents, column_list, alias, select_value}
use Rattle.grammar_sql.specs.Queries.{more_select_values, select_values, all_columns, select_list}
use Rattle.grammar_sql.specs.Queries.{named_table, derived_table, table_ref, on_condition}
use Rattle.grammar_sql.specs.Queries.{joined_on, comma_item, cross_join, left_join, inner_join}
use Rattle.grammar_sql.specs.Queries.{from_item, more_from_items, first_item, from_items}
use Rattle.grammar_sql.specs.Queries.{from_clause, filter, more_column_names, column_names}
use Rattle.grammar_sql.specs.Queries.{group_clause, group_by, having, grouping, select_word, select}
use Rattle.grammar_sql.specs.Queries.{row, more_rows, rows, values_word, values, query}
use Rattle.grammar_sql.specs.Queries.{query_or_expr, query_or_exprs, direction, sort_specification}
use Rattle.grammar_sql.specs.Queries.{more_sort_specifications, sort_specifications, order_clause}
use Rattle.grammar_sql.specs.Queries.{order_by, ordered_query}
use Rattle.grammar_sql.specs.Writing.{insertion, into_table, insert_word, insert, assignment}
use Rattle.grammar_sql.specs.Writing.{more_assignments, assignments, set_clause, update_word}
use Rattle.grammar_sql.specs.Writing.{update, from_table, delete_word, delete, parameter_argument}
use Rattle.grammar_sql.specs.Writing.{call_argument, more_call_arguments, call_arguments}
use Rattle.grammar_sql.specs.Writing.{if_call_arguments, call_word, call, dml}
use Rattle.grammar_sql.specs.Conditions.{state_text, state, state_value, exception_value}
use Rattle.grammar_sql.specs.Conditions.{warning_value, not_found, condition_value}
use Rattle.grammar_sql.specs.Conditions.{more_condition_values, condition_values, sqlstate}
use Rattle.grammar_sql.specs.Conditions.{signal_value, message_text, message, if_message}
use Rattle.grammar_sql.specs.Conditions.{signal_word, signal, resignal_word, if_signal_value}
use Rattle.grammar_sql.specs.Conditions.{resignal, statement_item_name, statement_item_value}
use Rattle.grammar_sql.specs.Conditions.{statement_item, more_statement_items, statement_items}
use Rattle.grammar_sql.specs.Conditions.{condition_item_name, condition_item_value, condition_item}
use Rattle.grammar_sql.specs.Conditions.{more_condition_items, condition_items, written_number}
use Rattle.grammar_sql.specs.Conditions.{condition_number, numbered_items, condition_information}
use Rattle.grammar_sql.specs.Conditions.{information, written_area, area, diagnostics, get_word}
use Rattle.grammar_sql.specs.Conditions.{get_diagnostics}
use Rattle.grammar_sql.specs.Statements.{set_word, set_statement, targets, select_into, open_word}
use Rattle.grammar_sql.specs.Statements.{open_statement, close_word, close_statement, fetch_word}
use Rattle.grammar_sql.specs.Statements.{fetch_orientation, fetched_cursor, fetch, leave_word}
use Rattle.grammar_sql.specs.Statements.{leave_statement, iterate_word, iterate_statement}
use Rattle.grammar_sql.specs.Statements.{return_word, return_statement, storing, cursor_statement}
use Rattle.grammar_sql.specs.Statements.{condition_statement, leaving, simple_statement, end_label}
use Rattle.grammar_sql.specs.Statements.{construct, structure, structures, label, if_label}
use Rattle.grammar_sql.specs.Statements.{labelled, labelled_block, if_construct, if_statement}
use Rattle.grammar_sql.specs.Statements.{case_construct, case_statement, stmt, ended, statements}
use Rattle.grammar_sql.specs.Statements.{body, body_after, branch, branch_after, more_branches}
use Rattle.grammar_sql.specs.Statements.{branches, otherwise, if_body, when_branches, case_body}
use Rattle.grammar_sql.specs.Statements.{while_body, repeat_body, for_query, for_body}
use Rattle.grammar_sql.specs.Declarations.{default_clause, variables, condition, cursor}
use Rattle.grammar_sql.specs.Declarations.{named_declaration, named_cursor, handler_type, handled}
use Rattle.grammar_sql.specs.Declarations.{handler, declaration, declarations, atomic, block_body}
use Rattle.grammar_sql.specs.Declarations.{structure_body}
use Rattle.grammar_sql.specs.Definitions.{not_null, key_words, primary_key, column_constraint}
use Rattle.grammar_sql.specs.Definitions.{constraints, column, table_column, table_key, element}
use Rattle.grammar_sql.specs.Definitions.{more_elements, elements, table_definition, create_table}
use Rattle.grammar_sql.specs.Definitions.{parameter, more_parameters, parameters, if_parameters}
use Rattle.grammar_sql.specs.Definitions.{written_mode, mode, modal_parameter}
use Rattle.grammar_sql.specs.Definitions.{more_modal_parameters, modal_parameters}
use Rattle.grammar_sql.specs.Definitions.{if_modal_parameters, language, deterministic}
use Rattle.grammar_sql.specs.Definitions.{not_deterministic, contains_sql, data_access}
use Rattle.grammar_sql.specs.Definitions.{data_characteristic, null_call, null_characteristic}
use Rattle.grammar_sql.specs.Definitions.{characteristic, characteristics, returns_type}
use Rattle.grammar_sql.specs.Definitions.{function_definition, create_function}
use Rattle.grammar_sql.specs.Definitions.{procedure_definition, create_procedure, create_word}
use Rattle.grammar_sql.specs.Definitions.{created, create, object_sort, dropped_name, drop_word}
use Rattle.grammar_sql.specs.Definitions.{drop_object, ddl}
use Rattle.grammar_sql.specs.Sql.{explain_word, explain, other_statement, unended, statement, rules}
use Rattle.grammar_sql.specs.Sql.{shut}
use Rattle.grammar_sql.specs.Constructs.{Befores, any, but_end, stands}
use Rattle.grammar_sql.specs.Summary.{summary, is_sound, rule_sound}
use Rattle.grammar_sql.specs.Summaries.{goes_on_same, nullable_same, stands_same}
use Rattle.grammar_sql.specs.Summaries.{all_decide as decide_all, part_decides}

-- One token ahead decides what the rule spells, and its tokens tell its constructs.
abbrev RuleIsSound : Rule → Type 0
RuleIsSound r = rule_sound shut rules r ≡ true

-- A part that a parser reads by itself is sound, spelled by a token at least, and may stand after
-- these.
abbrev PartIsSound : {A : Type 0} → Befores → Grammar Rule Tree A → Type 0
PartIsSound befores g = (is_sound shut false g ≡ true) × ((summary shut false g).nullable ≡ false) ×
    ((summary shut false g).stands ≡ befores)

-- all rules, and the parts that are read by themselves, one line each
record AllAreSound : Type 0 where
  elements_rule : RuleIsSound Elements
  parameters_rule : RuleIsSound Parameters
  length_rule : RuleIsSound Length
  arguments_rule : RuleIsSound Arguments
  exprs_rule : RuleIsSound Exprs
  bracketed_rule : RuleIsSound Bracketed
  among_rule : RuleIsSound Among
  coalesce_rule : RuleIsSound (Operands Coalesce)
  modulo_rule : RuleIsSound (Operands Modulo)
  char_length_rule : RuleIsSound (Operands CharLength)
  substring_rule : RuleIsSound (Operands Substring)
  cast_rule : RuleIsSound (Operands Cast)
  count_rule : RuleIsSound (Operands (Aggregate Count))
  sum_rule : RuleIsSound (Operands (Aggregate Sum))
  avg_rule : RuleIsSound (Operands (Aggregate Avg))
  min_rule : RuleIsSound (Operands (Aggregate Min))
  max_rule : RuleIsSound (Operands (Aggregate Max))
  subquery_rule : RuleIsSound Subquery
  names_rule : RuleIsSound Names
  cases_rule : RuleIsSound Cases
  modal_parameters_rule : RuleIsSound ModalParameters
  call_arguments_rule : RuleIsSound CallArguments
  begin_rule : RuleIsSound (Body Begin)
  loop_rule : RuleIsSound (Body Loop)
  while_rule : RuleIsSound (Body While)
  repeat_rule : RuleIsSound (Body Repeat)
  for_rule : RuleIsSound (Body For)
  if_rule : RuleIsSound IfBody
  case_rule : RuleIsSound CaseBody
  statement_part : PartIsSound but_end statement
  query_part : PartIsSound any query
  dml_part : PartIsSound any dml
  ddl_part : PartIsSound any ddl
  -- no token goes on with a statement after its `;`
  statement_end : (summary shut false statement).goes_on ≡ []

-- It holds by computation, of all in one proof, since they share their parts.
all_are_sound : AllAreSound
unfolding same_kind bracketed ident varchar_length plain_type varchar data_type constant literal
    dotted column_name named function_call aggregate function case_expression exists primary
    unary_sign factor operator term sum comparison_sign comparison compared truth_test not_word
    asked tested in_word among predicate_part predicate negation conjunction expr after more_exprs
    exprs for_length as_type all_rows argument operands when_clause more_when_clauses when_clauses
    else_clause arms cases more_idents idents column_list alias select_value more_select_values
    select_values all_columns select_list named_table derived_table table_ref on_condition joined_on
    comma_item cross_join left_join inner_join from_item more_from_items first_item from_items
    from_clause filter more_column_names column_names group_clause group_by having grouping
    select_word select row more_rows rows values_word values query query_or_expr query_or_exprs
    direction sort_specification more_sort_specifications sort_specifications order_clause order_by
    ordered_query insertion into_table insert_word insert assignment more_assignments assignments
    set_clause update_word update from_table delete_word delete parameter_argument call_argument
    more_call_arguments call_arguments if_call_arguments call_word call dml state_text state
    state_value exception_value warning_value not_found condition_value more_condition_values
    condition_values sqlstate signal_value message_text message if_message signal_word signal
    resignal_word if_signal_value resignal statement_item_name statement_item_value statement_item
    more_statement_items statement_items condition_item_name condition_item_value condition_item
    more_condition_items condition_items written_number condition_number numbered_items
    condition_information information written_area area diagnostics get_word get_diagnostics
    set_word set_statement targets select_into open_word open_statement close_word close_statement
    fetch_word fetch_orientation fetched_cursor fetch leave_word leave_statement iterate_word
    iterate_statement return_word return_statement storing cursor_statement condition_statement
    leaving simple_statement end_label construct structure structures label if_label labelled
    labelled_block if_construct if_statement case_construct case_statement stmt ended statements
    body body_after branch branch_after more_branches branches otherwise if_body when_branches
    case_body while_body repeat_body for_query for_body default_clause variables condition cursor
    named_declaration named_cursor handler_type handled handler declaration declarations atomic
    block_body structure_body not_null key_words primary_key column_constraint constraints column
    table_column table_key element more_elements elements table_definition create_table parameter
    more_parameters parameters if_parameters written_mode mode modal_parameter more_modal_parameters
    modal_parameters if_modal_parameters language deterministic not_deterministic contains_sql
    data_access data_characteristic null_call null_characteristic characteristic characteristics
    returns_type function_definition create_function procedure_definition create_procedure
    create_word created create object_sort dropped_name drop_word drop_object ddl explain_word
    explain other_statement unended statement
all_are_sound = record {
  elements_rule = refl;
  parameters_rule = refl;
  length_rule = refl;
  arguments_rule = refl;
  exprs_rule = refl;
  bracketed_rule = refl;
  among_rule = refl;
  coalesce_rule = refl;
  modulo_rule = refl;
  char_length_rule = refl;
  substring_rule = refl;
  cast_rule = refl;
  count_rule = refl;
  sum_rule = refl;
  avg_rule = refl;
  min_rule = refl;
  max_rule = refl;
  subquery_rule = refl;
  names_rule = refl;
  cases_rule = refl;
  modal_parameters_rule = refl;
  call_arguments_rule = refl;
  begin_rule = refl;
  loop_rule = refl;
  while_rule = refl;
  repeat_rule = refl;
  for_rule = refl;
  if_rule = refl;
  case_rule = refl;
  statement_part = (refl, refl, refl);
  query_part = (refl, refl, refl);
  dml_part = (refl, refl, refl);
  ddl_part = (refl, refl, refl);
  statement_end = refl;
}

-- Each rule is sound: one line of the list above.
pub rules_sound : (r : Rule) → rule_sound shut rules r ≡ true
rules_sound Elements = all_are_sound.elements_rule
rules_sound Parameters = all_are_sound.parameters_rule
rules_sound Length = all_are_sound.length_rule
rules_sound Arguments = all_are_sound.arguments_rule
rules_sound Exprs = all_are_sound.exprs_rule
rules_sound Bracketed = all_are_sound.bracketed_rule
rules_sound Among = all_are_sound.among_rule
rules_sound (Operands Coalesce) = all_are_sound.coalesce_rule
rules_sound (Operands Modulo) = all_are_sound.modulo_rule
rules_sound (Operands CharLength) = all_are_sound.char_length_rule
rules_sound (Operands Substring) = all_are_sound.substring_rule
rules_sound (Operands Cast) = all_are_sound.cast_rule
rules_sound (Operands (Aggregate Count)) = all_are_sound.count_rule
rules_sound (Operands (Aggregate Sum)) = all_are_sound.sum_rule
rules_sound (Operands (Aggregate Avg)) = all_are_sound.avg_rule
rules_sound (Operands (Aggregate Min)) = all_are_sound.min_rule
rules_sound (Operands (Aggregate Max)) = all_are_sound.max_rule
rules_sound Subquery = all_are_sound.subquery_rule
rules_sound Names = all_are_sound.names_rule
rules_sound Cases = all_are_sound.cases_rule
rules_sound ModalParameters = all_are_sound.modal_parameters_rule
rules_sound CallArguments = all_are_sound.call_arguments_rule
rules_sound (Body Begin) = all_are_sound.begin_rule
rules_sound (Body Loop) = all_are_sound.loop_rule
rules_sound (Body While) = all_are_sound.while_rule
rules_sound (Body Repeat) = all_are_sound.repeat_rule
rules_sound (Body For) = all_are_sound.for_rule
rules_sound IfBody = all_are_sound.if_rule
rules_sound CaseBody = all_are_sound.case_rule

-- One token ahead decides each rule.
pub all_decide : (r : Rule) → decides rules (rules r) ≡ true
all_decide = decide_all shut rules rules_sound

-- ---- statement

-- A statement of a script is sound,
pub statement_sound : is_sound shut false statement ≡ true
statement_sound = all_are_sound.statement_part.0

-- its constructs are told where END does not stand right before it,
pub statement_stands : stands false statement ≡ but_end
statement_stands = sym (stands_same shut false statement) ∙ all_are_sound.statement_part.2

-- one token ahead decides it,
pub statement_decides : decides rules statement ≡ true
statement_decides = part_decides shut rules rules_sound statement statement_sound

-- no token goes on with a whole one,
pub statement_ends : goes_on statement ≡ []
statement_ends = sym (goes_on_same shut false statement) ∙ all_are_sound.statement_end

-- and it spells one token at least.
pub statement_goes : nullable statement ≡ false
statement_goes = sym (nullable_same shut false statement) ∙ all_are_sound.statement_part.1

-- ---- query

-- A query is sound,
pub query_sound : is_sound shut false query ≡ true
query_sound = all_are_sound.query_part.0

-- its constructs are told after any token,
pub query_stands : stands false query ≡ any
query_stands = sym (stands_same shut false query) ∙ all_are_sound.query_part.2

-- and one token ahead decides it.
pub query_decides : decides rules query ≡ true
query_decides = part_decides shut rules rules_sound query query_sound

-- ---- dml

-- A statement that changes a table is sound,
pub dml_sound : is_sound shut false dml ≡ true
dml_sound = all_are_sound.dml_part.0

-- its constructs are told after any token,
pub dml_stands : stands false dml ≡ any
dml_stands = sym (stands_same shut false dml) ∙ all_are_sound.dml_part.2

-- and one token ahead decides it.
pub dml_decides : decides rules dml ≡ true
dml_decides = part_decides shut rules rules_sound dml dml_sound

-- ---- ddl

-- A definition is sound,
pub ddl_sound : is_sound shut false ddl ≡ true
ddl_sound = all_are_sound.ddl_part.0

-- its constructs are told after any token,
pub ddl_stands : stands false ddl ≡ any
ddl_stands = sym (stands_same shut false ddl) ∙ all_are_sound.ddl_part.2

-- and one token ahead decides it.
pub ddl_decides : decides rules ddl ≡ true
ddl_decides = part_decides shut rules rules_sound ddl ddl_sound
