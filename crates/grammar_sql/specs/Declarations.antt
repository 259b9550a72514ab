-- Declarations of a compound statement: ISO/IEC 9075-4, 14.1 to 14.4, and ISO/IEC 9075-2, 14.1
-- (cursors).
use Rattle.std.specs.Prelude.{Bool, true, false, List, [], ◌∷◌, Option, Some, None}
use Rattle.grammar_sql.specs.declared.structure_word.StructureWord.{StructureWord}
use Rattle.grammar_sql.specs.declared.structure_word.StructureWord.TheVariants as structure_word
use Rattle.sql_lex.specs.declared.sign.Sign.TheVariants as s
use Rattle.sql_lex.specs.declared.token.TokenKind.TheVariants as kind
use Rattle.sql_lex.specs.declared.token.Token.{Token}
use Rattle.sql_lex.specs.declared.word.Word.TheVariants as w
use Rattle.statement_trees.specs.declared.condition.ConditionValue.{ConditionValue}
use Rattle.statement_trees.specs.declared.condition.SqlstateValue.{SqlstateValue}
use Rattle.statement_trees.specs.declared.declaration.HandlerType.{HandlerType}
use Rattle.statement_trees.specs.declared.declaration.HandlerType.TheVariants as handler_type_of
use Rattle.statement_trees.specs.declared.statement.Block.{Block, roll-Block}
use Rattle.statement_trees.specs.declared.statement.Declaration.{Declaration, out-Declaration}
use Rattle.statement_trees.specs.declared.statement.Declaration.TheVariants as declaration_of
use Rattle.statement_trees.specs.declared.statement.Declaration.TheOpen.{Declaration-F}
use Rattle.statement_trees.specs.declared.statement.Handler.{Handler, roll-Handler}
use Rattle.statement_trees.specs.declared.statement.Stmt.{Stmt}
use Rattle.statement_trees.specs.declared.statement.Structure.{Structure}
use Rattle.statement_trees.specs.declared.statement.Structure.TheVariants as structure_of
use Rattle.syntax_trees.specs.declared.anchor.Anchor.{Anchor}
use Rattle.syntax_trees.specs.declared.anchor.Ident.{Ident}
use Rattle.syntax_trees.specs.declared.data_type.DataType.{DataType}
use Rattle.syntax_trees.specs.declared.expr.Expr.{Expr}
use Rattle.syntax_trees.specs.declared.query.OrderedQuery.{OrderedQuery}
use Rattle.grammar_algebra.specs.Grammar.{optional, many, staged}
use Rattle.grammar_algebra.specs.Notation.{word, sign, ◌~◌, ◌~>◌, ◌<~◌, ◌or◌, ◌=>◌}
use Rattle.grammar_algebra.specs.declared.stage.Stage.{Stage}
use Rattle.grammar_algebra.specs.declared.stage.Stage.TheVariants.{First, Second, Third}
use Rattle.grammar_sql.specs.Trees.{G, choice, ident, data_type}
use Rattle.grammar_sql.specs.Expressions.{after}
use Rattle.grammar_sql.specs.Queries.{more_idents, ordered_query}
use Rattle.grammar_sql.specs.Conditions.{sqlstate, condition_values}
use Rattle.grammar_sql.specs.Statements.{stmt, statements, body, while_body, repeat_body, for_body}

-- ---- what stands after the name that is declared

-- [DEFAULT e]
unfoldable pub default_clause : G (Option Expr)
default_clause = optional (after (kind.Word w.Default))

-- {',' name} type [DEFAULT e]
unfoldable pub variables : G (List Ident × (DataType × Option Expr))
variables = more_idents ~ data_type ~ default_clause

-- CONDITION FOR SQLSTATE [VALUE] text
unfoldable pub condition : G SqlstateValue
condition = word w.Condition ~> word w.For ~> sqlstate

-- CURSOR FOR query [order]
unfoldable pub cursor : G OrderedQuery
cursor = word w.Cursor ~> word w.For ~> ordered_query

-- the tree of <SQL variable declaration>, once the first name is read
abbrev pub variables_of : List Ident × (DataType × Option Expr) → Ident → Declaration
variables_of p i = declaration_of.Variables (record {
  names = i ∷ p.0;
  data_type = p.1.0;
  default =
      p.1.1;
})

-- the tree of <condition declaration>, once the name is read
abbrev pub condition_of : SqlstateValue → Ident → Declaration
condition_of state i = declaration_of.Condition (record { name = i; state = state })

-- the tree of <declare cursor>, once the name is read
abbrev pub cursor_of : OrderedQuery → Ident → Declaration
cursor_of query i = declaration_of.Cursor (record { name = i; query = query })

-- name, and what is declared by it
unfoldable pub named_declaration : G Declaration
named_declaration = (λ p. p.1 p.0) => ident ~
    (variables_of => variables or condition_of => condition or cursor_of => cursor)

-- name CURSOR FOR <cursor specification>: <declare cursor> after its DECLARE
unfoldable pub named_cursor : G Declaration
named_cursor = (λ p. cursor_of p.1 p.0) => ident ~ cursor

-- ---- handlers

-- CONTINUE | EXIT | UNDO
unfoldable pub handler_type : G (HandlerType × Anchor)
handler_type =
    choice (kind.Word w.Continue, handler_type_of.Continue)
    ((kind.Word w.Exit, handler_type_of.Exit) ∷ (kind.Word w.Undo, handler_type_of.Undo) ∷ [])

-- HANDLER FOR value {',' value}
unfoldable pub handled : G (List ConditionValue)
handled = word w.Handler ~> word w.For ~> condition_values

-- the tree of <handler declaration>: its type and anchor, what it waits for, its action
abbrev pub handler_of : (HandlerType × Anchor) × (List ConditionValue × Stmt) → Handler
handler_of p = roll-Handler (record {
  anchor = p.0.1;
  handler_type = p.0.0;
  values = p.1.0;
  action =
      p.1.1;
})

-- (CONTINUE | EXIT | UNDO) HANDLER FOR value {',' value} stmt
unfoldable pub handler : G Declaration
handler = (λ p. declaration_of.Handler (handler_of p)) => handler_type ~ handled ~ stmt

-- ---- in their order: variables and conditions, then cursors, then handlers

-- what may stand after DECLARE at a stage
abbrev pub declared_at : Stage → G Declaration
declared_at First = named_declaration or handler
declared_at Second = named_cursor or handler
declared_at Third = handler

-- DECLARE .. ';'
unfoldable pub declaration : Stage → G Declaration
declaration stage = word w.Declare ~> declared_at stage <~ sign s.Semicolon

-- the stage of what stands after a declaration
abbrev pub next_stage : Stage → Declaration → Stage
next_stage stage d = elim (out-Declaration d) [
  | Declaration-F.Variables x ↦ stage
  | Declaration-F.Condition x ↦ stage
  | Declaration-F.Cursor x ↦ Second
  | Declaration-F.Handler x ↦ Third
]

-- {vardecl ';'} {curdecl ';'} {handler ';'}
unfoldable pub declarations : G (List Declaration)
declarations = staged declaration next_stage First

-- ---- compound statements

-- whether ATOMIC is written without NOT before it
abbrev pub is_atomic : Option (Option Token × Token) → Bool
is_atomic None = false
is_atomic (Some (None, t)) = true
is_atomic (Some (Some n, t)) = false

-- [[NOT] ATOMIC]
unfoldable pub atomic : G Bool
atomic = is_atomic => optional (optional (word w.Not) ~ word w.Atomic)

-- the tree of <compound statement>: whether it is atomic, its declarations, its statements
abbrev pub block_of : Bool × (List Declaration × List Stmt) → Structure
block_of p =
    structure_of.Block
    (roll-Block (record { atomic = p.0; declarations = p.1.0; statements = p.1.1 }))

-- what stands between BEGIN and its END
unfoldable pub block_body : G Structure
block_body = block_of => atomic ~ declarations ~ statements

-- ---- what stands between each word and its END

-- what stands between each word that may have a label and its END
unfoldable pub structure_body : StructureWord → G Structure
structure_body structure_word.Begin = block_body
structure_body structure_word.Loop = structure_of.Loop => body
structure_body structure_word.While = while_body
structure_body structure_word.Repeat = repeat_body
structure_body structure_word.For = for_body
