-- Conditions: ISO/IEC 9075-4, 14.2 (what handlers wait for), 17.2 (SIGNAL) and 17.3 (RESIGNAL), and
-- ISO/IEC 9075-2, 23.1 (GET DIAGNOSTICS).
use Rattle.std.specs.Prelude.{List, [], ◌∷◌, Option, Some, None}
use Rattle.sql_lex.specs.declared.sign.Sign.TheVariants as s
use Rattle.sql_lex.specs.declared.token.TokenKind.TheVariants as kind
use Rattle.sql_lex.specs.declared.word.Word.TheVariants as w
use Rattle.statement_trees.specs.declared.condition.ConditionItem.{ConditionItem}
use Rattle.statement_trees.specs.declared.condition.ConditionItemName.{ConditionItemName}
use Rattle.statement_trees.specs.declared.condition.ConditionItemName.TheVariants as condition_item_of
use Rattle.statement_trees.specs.declared.condition.ConditionNumber.{ConditionNumber}
use Rattle.statement_trees.specs.declared.condition.ConditionNumber.TheVariants as condition_number_of
use Rattle.statement_trees.specs.declared.condition.ConditionValue.{ConditionValue}
use Rattle.statement_trees.specs.declared.condition.ConditionValue.TheVariants as condition_value_of
use Rattle.statement_trees.specs.declared.condition.DiagnosticsArea.{DiagnosticsArea}
use Rattle.statement_trees.specs.declared.condition.DiagnosticsArea.TheVariants as area_of
use Rattle.statement_trees.specs.declared.condition.DiagnosticsInformation.{DiagnosticsInformation}
use Rattle.statement_trees.specs.declared.condition.DiagnosticsInformation.TheVariants as information_of
use Rattle.statement_trees.specs.declared.condition.GetDiagnostics.{GetDiagnostics}
use Rattle.statement_trees.specs.declared.condition.Resignal.{Resignal}
use Rattle.statement_trees.specs.declared.condition.Signal.{Signal}
use Rattle.statement_trees.specs.declared.condition.SignalValue.{SignalValue}
use Rattle.statement_trees.specs.declared.condition.SignalValue.TheVariants as signal_value_of
use Rattle.statement_trees.specs.declared.condition.SqlstateValue.{SqlstateValue}
use Rattle.statement_trees.specs.declared.condition.StatementItem.{StatementItem}
use Rattle.statement_trees.specs.declared.condition.StatementItemName.{StatementItemName}
use Rattle.statement_trees.specs.declared.condition.StatementItemName.TheVariants as statement_item_of
use Rattle.syntax_trees.specs.declared.anchor.Anchor.{Anchor}
use Rattle.syntax_trees.specs.declared.expr.Expr.{Expr}
use Rattle.grammar_algebra.specs.Grammar.{optional, many}
use Rattle.grammar_algebra.specs.Notation.{word, sign, number, text, ◌~◌, ◌~>◌, ◌<~◌, ◌or◌, ◌=>◌}
use Rattle.grammar_algebra.specs.Notation.{number_of, text_of}
use Rattle.grammar_sql.specs.Trees.{G, anchor_of, choice, ident}
use Rattle.grammar_sql.specs.Expressions.{after}

-- ---- what handlers wait for

-- <character string literal>: the text of a state, at its anchor
unfoldable pub state_text : G SqlstateValue
state_text = (λ t. record { anchor = anchor_of t; text = text_of t.lexeme }) => text

-- [VALUE] text
unfoldable pub state : G SqlstateValue
state = optional (word w.Value) ~> state_text

-- SQLSTATE [VALUE] text
unfoldable pub state_value : G ConditionValue
state_value = (λ p. condition_value_of.Sqlstate (anchor_of p.0) p.1) => word w.Sqlstate ~ state

-- SQLEXCEPTION: each condition of a class other than 00, 01 and 02
unfoldable pub exception_value : G ConditionValue
exception_value = (λ t. condition_value_of.SqlException (anchor_of t)) => word w.Sqlexception

-- SQLWARNING: a condition of class 01
unfoldable pub warning_value : G ConditionValue
warning_value = (λ t. condition_value_of.SqlWarning (anchor_of t)) => word w.Sqlwarning

-- NOT FOUND
unfoldable pub not_found : G ConditionValue
not_found = (λ t. condition_value_of.NotFound (anchor_of t)) => word w.Not <~ word w.Found

-- value := SQLSTATE [VALUE] text | name | SQLEXCEPTION | SQLWARNING | NOT FOUND
unfoldable pub condition_value : G ConditionValue
condition_value = state_value or condition_value_of.Condition => ident or exception_value or
    warning_value or not_found

-- {',' <condition value>}
unfoldable pub more_condition_values : G (List ConditionValue)
more_condition_values = many (sign s.Comma ~> condition_value)

-- <condition value list> := <condition value> {',' <condition value>}
unfoldable pub condition_values : G (List ConditionValue)
condition_values = (λ p. p.0 ∷ p.1) => condition_value ~ more_condition_values

-- ---- SIGNAL and RESIGNAL

-- SQLSTATE [VALUE] text
unfoldable pub sqlstate : G SqlstateValue
sqlstate = word w.Sqlstate ~> state

-- state := SQLSTATE [VALUE] text | name
unfoldable pub signal_value : G SignalValue
signal_value = signal_value_of.Sqlstate => sqlstate or signal_value_of.Condition => ident

-- MESSAGE_TEXT '=' e
unfoldable pub message_text : G Expr
message_text = word w.MessageText ~> after (kind.Sign s.Equals)

-- SET MESSAGE_TEXT '=' e
unfoldable pub message : G Expr
message = word w.Set ~> message_text

-- text_set := [SET MESSAGE_TEXT '=' e]
unfoldable pub if_message : G (Option Expr)
if_message = optional message

-- SIGNAL, whose place is the statement's anchor
unfoldable pub signal_word : G Anchor
signal_word = anchor_of => word w.Signal

-- the tree of <signal statement>: its anchor, its value, and the message where one is set
abbrev pub signal_of : Anchor × (SignalValue × Option Expr) → Signal
signal_of p = record { anchor = p.0; value = p.1.0; message = p.1.1 }

-- SIGNAL state [text_set]
unfoldable pub signal : G Signal
signal = signal_of => signal_word ~ signal_value ~ if_message

-- RESIGNAL, whose place is the statement's anchor
unfoldable pub resignal_word : G Anchor
resignal_word = anchor_of => word w.Resignal

-- [<signal value>]: RESIGNAL may name none
unfoldable pub if_signal_value : G (Option SignalValue)
if_signal_value = optional signal_value

-- the tree of <resignal statement>: its anchor, and its value and message where there are such
abbrev pub resignal_of : Anchor × (Option SignalValue × Option Expr) → Resignal
resignal_of p = record { anchor = p.0; value = p.1.0; message = p.1.1 }

-- RESIGNAL [state] [text_set]
unfoldable pub resignal : G Resignal
resignal = resignal_of => resignal_word ~ if_signal_value ~ if_message

-- ---- GET DIAGNOSTICS

-- NUMBER | ROW_COUNT
unfoldable pub statement_item_name : G (StatementItemName × Anchor)
statement_item_name = choice (kind.Word w.Number, statement_item_of.Number)
    ((kind.Word w.RowCount, statement_item_of.RowCount) ∷ [])

-- '=' (NUMBER | ROW_COUNT)
unfoldable pub statement_item_value : G (StatementItemName × Anchor)
statement_item_value = sign s.Equals ~> statement_item_name

-- name '=' (NUMBER | ROW_COUNT)
unfoldable pub statement_item : G StatementItem
statement_item = (λ p. record { target = p.0; item = p.1.0 }) => ident ~ statement_item_value

-- {',' <statement information item>}
unfoldable pub more_statement_items : G (List StatementItem)
more_statement_items = many (sign s.Comma ~> statement_item)

-- <statement information> := <statement information item> {',' <statement information item>}
unfoldable pub statement_items : G (List StatementItem)
statement_items = (λ p. p.0 ∷ p.1) => statement_item ~ more_statement_items

-- RETURNED_SQLSTATE | MESSAGE_TEXT
unfoldable pub condition_item_name : G (ConditionItemName × Anchor)
condition_item_name = choice (kind.Word w.ReturnedSqlstate, condition_item_of.ReturnedSqlstate)
    ((kind.Word w.MessageText, condition_item_of.MessageText) ∷ [])

-- '=' (RETURNED_SQLSTATE | MESSAGE_TEXT)
unfoldable pub condition_item_value : G (ConditionItemName × Anchor)
condition_item_value = sign s.Equals ~> condition_item_name

-- item := name '=' (RETURNED_SQLSTATE | MESSAGE_TEXT)
unfoldable pub condition_item : G ConditionItem
condition_item = (λ p. record { target = p.0; item = p.1.0 }) => ident ~ condition_item_value

-- {',' <condition information item>}
unfoldable pub more_condition_items : G (List ConditionItem)
more_condition_items = many (sign s.Comma ~> condition_item)

-- <condition information item> {',' <condition information item>}
unfoldable pub condition_items : G (List ConditionItem)
condition_items = (λ p. p.0 ∷ p.1) => condition_item ~ more_condition_items

-- <condition number> as a whole number, at its anchor
unfoldable pub written_number : G ConditionNumber
written_number = (λ t. condition_number_of.Number (anchor_of t) (number_of t.lexeme)) => number

-- number | name
unfoldable pub condition_number : G ConditionNumber
condition_number = written_number or condition_number_of.Variable => ident

-- <condition number> <condition information item> {',' <condition information item>}
unfoldable pub numbered_items : G (ConditionNumber × List ConditionItem)
numbered_items = condition_number ~ condition_items

-- CONDITION (number | name) item {',' item}
unfoldable pub condition_information : G DiagnosticsInformation
condition_information = (λ p. information_of.Condition p.0 p.1) => word w.Condition ~>
    numbered_items

-- diag := name '=' (NUMBER | ROW_COUNT) {',' name '=' (NUMBER | ROW_COUNT)}
--   | CONDITION (number | name) item {',' item}
unfoldable pub information : G DiagnosticsInformation
information = information_of.Statement => statement_items or condition_information

-- CURRENT | STACKED
unfoldable pub written_area : G (DiagnosticsArea × Anchor)
written_area = choice (kind.Word w.Current, area_of.Current)
    ((kind.Word w.Stacked, area_of.Stacked) ∷ [])

-- GET without CURRENT or STACKED is CURRENT.
abbrev pub area_or_current : Option (DiagnosticsArea × Anchor) → DiagnosticsArea
area_or_current None = area_of.Current
area_or_current (Some p) = p.0

-- [CURRENT | STACKED]: <which area>
unfoldable pub area : G DiagnosticsArea
area = area_or_current => optional written_area

-- DIAGNOSTICS diag
unfoldable pub diagnostics : G DiagnosticsInformation
diagnostics = word w.Diagnostics ~> information

-- GET, whose place is the statement's anchor
unfoldable pub get_word : G Anchor
get_word = anchor_of => word w.Get

-- the tree of <get diagnostics statement>: its anchor, the area, and what is asked of it
abbrev pub get_of : Anchor × (DiagnosticsArea × DiagnosticsInformation) → GetDiagnostics
get_of p = record { anchor = p.0; area = p.1.0; information = p.1.1 }

-- GET [CURRENT | STACKED] DIAGNOSTICS diag
unfoldable pub get_diagnostics : G GetDiagnostics
get_diagnostics = get_of => get_word ~ area ~ diagnostics
