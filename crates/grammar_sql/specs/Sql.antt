-- The grammar of scripts: its statements, and what stands in constructs.
use Rattle.syntax_trees.specs.declared.anchor.Anchor.{Anchor}
use Rattle.sql_lex.specs.declared.token.TokenKind.TheVariants as kind
use Rattle.sql_lex.specs.declared.word.Word.TheVariants as w
use Rattle.sql_lex.specs.declared.sign.Sign.TheVariants as s
use Rattle.statement_trees.specs.declared.statement.Stmt.{Stmt}
use Rattle.statement_trees.specs.declared.statement.Stmt.TheVariants as stmt_of
use Rattle.grammar_algebra.specs.Grammar.{optional}
use Rattle.grammar_algebra.specs.Notation.{word, sign, ◌~◌, ◌<~◌, ◌or◌, ◌=>◌}
use Rattle.sql_lex.specs.declared.token.TokenKind.{TokenKind}
use Rattle.grammar_sql.specs.Trees.{Rule, Tree, G, anchor_of, if_any, varchar_length, Elements}
use Rattle.grammar_sql.specs.Trees.{Parameters, ModalParameters, Length, Arguments, CallArguments}
use Rattle.grammar_sql.specs.Trees.{Exprs, Bracketed, Among, Operands, Subquery, Names, Cases, Body}
use Rattle.grammar_sql.specs.Trees.{IfBody, CaseBody}
use Rattle.grammar_sql.specs.Expressions.{exprs, operands, cases}
use Rattle.grammar_sql.specs.Queries.{idents, query, query_or_expr, query_or_exprs, ordered_query}
use Rattle.grammar_sql.specs.Writing.{if_call_arguments, call, dml}
use Rattle.grammar_sql.specs.Statements.{labelled_block, if_body, case_body}
use Rattle.grammar_sql.specs.Declarations.{structure_body}
use Rattle.grammar_sql.specs.Definitions.{elements, if_parameters, if_modal_parameters, ddl}

-- EXPLAIN, whose place is the statement's anchor
unfoldable pub explain_word : G Anchor
explain_word = anchor_of => word w.Explain

-- EXPLAIN query [order]
unfoldable pub explain : G Stmt
explain = (λ p. stmt_of.Explain p.0 p.1) => explain_word ~ ordered_query

-- query [order] | EXPLAIN query [order] | call | [name ':'] block
unfoldable pub other_statement : G Stmt
other_statement = stmt_of.Query => ordered_query or explain or stmt_of.Call => call or
    stmt_of.Labelled => labelled_block

-- statement := query [order] | EXPLAIN query [order] | insert | update | delete | call
--   | [name ':'] block | DROP .. | CREATE ..
unfoldable pub unended : G Stmt
unended = ddl or dml or other_statement

-- a statement of a script with its `;`
unfoldable pub statement : G Stmt
statement = unended <~ sign s.Semicolon

-- what stands in a construct
abbrev pub rules : (r : Rule) → G (Tree r)
rules Elements = elements
rules Parameters = if_parameters
rules ModalParameters = if_modal_parameters
rules Length = varchar_length
rules Arguments = if_any => optional exprs
rules CallArguments = if_call_arguments
rules Exprs = exprs
rules Bracketed = query_or_expr
rules Among = query_or_exprs
rules (Operands f) = operands f
rules Subquery = query
rules Names = idents
rules Cases = cases
rules (Body k) = structure_body k
rules IfBody = if_body
rules CaseBody = case_body

-- the token that closes each
abbrev pub shut : Rule → TokenKind
shut Elements = kind.Sign s.RightParen
shut Parameters = kind.Sign s.RightParen
shut ModalParameters = kind.Sign s.RightParen
shut Length = kind.Sign s.RightParen
shut Arguments = kind.Sign s.RightParen
shut CallArguments = kind.Sign s.RightParen
shut Exprs = kind.Sign s.RightParen
shut Bracketed = kind.Sign s.RightParen
shut Among = kind.Sign s.RightParen
shut (Operands f) = kind.Sign s.RightParen
shut Subquery = kind.Sign s.RightParen
shut Names = kind.Sign s.RightParen
shut Cases = kind.Word w.End
shut (Body k) = kind.Word w.End
shut IfBody = kind.Word w.End
shut CaseBody = kind.Word w.End
