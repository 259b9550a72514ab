-- Statements that store: ISO/IEC 9075-2, 14.9 (DELETE), 14.11 (INSERT), 14.14 and 14.15 (UPDATE and
-- its SET clause), and 15.1 (CALL).
use Rattle.std.specs.Prelude.{List, ◌∷◌, Option}
use Rattle.sql_lex.specs.declared.token.TokenKind.TheVariants as kind
use Rattle.sql_lex.specs.declared.word.Word.TheVariants as w
use Rattle.sql_lex.specs.declared.sign.Sign.TheVariants as s
use Rattle.syntax_trees.specs.declared.anchor.Anchor.{Anchor}
use Rattle.syntax_trees.specs.declared.anchor.Ident.{Ident}
use Rattle.syntax_trees.specs.declared.expr.Expr.{Expr}
use Rattle.syntax_trees.specs.declared.query.Query.{Query}
use Rattle.statement_trees.specs.declared.statement.Stmt.{Stmt}
use Rattle.statement_trees.specs.declared.statement.Stmt.TheVariants as stmt
use Rattle.statement_trees.specs.declared.writing.Argument.{Argument}
use Rattle.statement_trees.specs.declared.writing.Argument.TheVariants as argument_of
use Rattle.statement_trees.specs.declared.writing.Assignment.{Assignment}
use Rattle.statement_trees.specs.declared.writing.Call.{Call}
use Rattle.statement_trees.specs.declared.writing.Delete.{Delete}
use Rattle.statement_trees.specs.declared.writing.Insert.{Insert}
use Rattle.statement_trees.specs.declared.writing.Update.{Update}
use Rattle.grammar_algebra.specs.Grammar.{optional, many}
use Rattle.grammar_algebra.specs.Notation.{word, sign, ◌~◌, ◌~>◌, ◌or◌, ◌=>◌}
use Rattle.grammar_sql.specs.Trees.{G, CallArguments, anchor_of, if_any, bracketed, ident}
use Rattle.grammar_sql.specs.Expressions.{expr, after}
use Rattle.grammar_sql.specs.Queries.{column_list, filter, query}

-- ---- INSERT

-- name ['(' name {',' name} ')'] query
unfoldable pub insertion : G (Ident × (List Ident × Query))
insertion = ident ~ column_list ~ query

-- INTO <insertion target> <insert columns and source>
unfoldable pub into_table : G (Ident × (List Ident × Query))
into_table = word w.Into ~> insertion

-- INSERT, whose place is the statement's anchor
unfoldable pub insert_word : G Anchor
insert_word = anchor_of => word w.Insert

-- the tree of <insert statement>: its anchor, the table, the columns where listed, the source
abbrev pub insert_of : Anchor × (Ident × (List Ident × Query)) → Insert
insert_of p = record { anchor = p.0; table = p.1.0; columns = p.1.1.0; source = p.1.1.1 }

-- insert := INSERT INTO name ['(' name {',' name} ')'] query
unfoldable pub insert : G Insert
insert = insert_of => insert_word ~ into_table

-- ---- UPDATE

-- name '=' e
unfoldable pub assignment : G Assignment
assignment = (λ p. record { target = p.0; value = p.1 }) => ident ~ after (kind.Sign s.Equals)

-- {',' name '=' e}
unfoldable pub more_assignments : G (List Assignment)
more_assignments = many (sign s.Comma ~> assignment)

-- <set clause list>: <set clause> {',' <set clause>}
unfoldable pub assignments : G (List Assignment)
assignments = (λ p. p.0 ∷ p.1) => assignment ~ more_assignments

-- SET name '=' e {',' name '=' e}
unfoldable pub set_clause : G (List Assignment)
set_clause = word w.Set ~> assignments

-- UPDATE, whose place is the statement's anchor
unfoldable pub update_word : G Anchor
update_word = anchor_of => word w.Update

-- the tree of <update statement: searched>: its anchor, the table, assignments, WHERE
abbrev pub update_of : Anchor × (Ident × (List Assignment × Option Expr)) → Update
update_of p = record { anchor = p.0; table = p.1.0; assignments = p.1.1.0; filter = p.1.1.1 }

-- update := UPDATE name SET name '=' e {',' name '=' e} [WHERE e]
unfoldable pub update : G Update
update = update_of => update_word ~ ident ~ set_clause ~ filter

-- ---- DELETE

-- FROM <target table>
unfoldable pub from_table : G Ident
from_table = word w.From ~> ident

-- DELETE, whose place is the statement's anchor
unfoldable pub delete_word : G Anchor
delete_word = anchor_of => word w.Delete

-- the tree of <delete statement: searched>: its anchor, the table, WHERE
abbrev pub delete_of : Anchor × (Ident × Option Expr) → Delete
delete_of p = record { anchor = p.0; table = p.1.0; filter = p.1.1 }

-- delete := DELETE FROM name [WHERE e]
unfoldable pub delete : G Delete
delete = delete_of => delete_word ~ from_table ~ filter

-- ---- CALL

-- '?'
unfoldable pub parameter_argument : G Argument
parameter_argument = (λ t. argument_of.Parameter (anchor_of t)) => sign s.QuestionMark

-- arg := e | '?'
unfoldable pub call_argument : G Argument
call_argument = argument_of.Value => expr or parameter_argument

-- {',' <SQL argument>}
unfoldable pub more_call_arguments : G (List Argument)
more_call_arguments = many (sign s.Comma ~> call_argument)

-- <SQL argument> {',' <SQL argument>}
unfoldable pub call_arguments : G (List Argument)
call_arguments = (λ p. p.0 ∷ p.1) => call_argument ~ more_call_arguments

-- <SQL argument list> without its brackets: there may be none
unfoldable pub if_call_arguments : G (List Argument)
if_call_arguments = if_any => optional call_arguments

-- CALL, whose place is the statement's anchor
unfoldable pub call_word : G Anchor
call_word = anchor_of => word w.Call

-- the tree of <call statement>: its anchor, the procedure, the arguments
abbrev pub call_of : Anchor × (Ident × List Argument) → Call
call_of p = record { anchor = p.0; name = p.1.0; arguments = p.1.1 }

-- call := CALL name '(' [arg {',' arg}] ')'
unfoldable pub call : G Call
call = call_of => call_word ~ ident ~ bracketed CallArguments

-- ---- what changes data

-- <insert statement> | <update statement: searched> | <delete statement: searched>
unfoldable pub dml : G Stmt
dml = stmt.Insert => insert or stmt.Update => update or stmt.Delete => delete
