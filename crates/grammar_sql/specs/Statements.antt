-- Statements of routines: ISO/IEC 9075-4, 14.1 (compound statements) and 14.5 to 14.13 (control
-- statements), ISO/IEC 9075-2, 14.4 to 14.7 (cursors, and SELECT of one row), 15.1 (CALL) and 15.2
-- (RETURN).
use Rattle.std.specs.Prelude.{List, ◌∷◌, Option}
use Rattle.grammar_sql.specs.declared.structure_word.StructureWord.{StructureWord}
use Rattle.grammar_sql.specs.declared.structure_word.StructureWord.TheVariants as structure_word
use Rattle.sql_lex.specs.declared.sign.Sign.TheVariants as s
use Rattle.sql_lex.specs.declared.token.TokenKind.{TokenKind}
use Rattle.sql_lex.specs.declared.token.TokenKind.TheVariants as kind
use Rattle.sql_lex.specs.declared.token.Token.{Token}
use Rattle.sql_lex.specs.declared.word.Word.{Word}
use Rattle.sql_lex.specs.declared.word.Word.TheVariants as w
use Rattle.statement_trees.specs.declared.statement.Branch.{Branch, roll-Branch}
use Rattle.statement_trees.specs.declared.statement.Case.{Case, roll-Case}
use Rattle.statement_trees.specs.declared.statement.If.{If, roll-If}
use Rattle.statement_trees.specs.declared.statement.Labelled.{Labelled, roll-Labelled}
use Rattle.statement_trees.specs.declared.statement.Stmt.{Stmt}
use Rattle.statement_trees.specs.declared.statement.Stmt.TheVariants as stmt_of
use Rattle.statement_trees.specs.declared.statement.Structure.{Structure}
use Rattle.statement_trees.specs.declared.statement.Structure.TheVariants as structure_of
use Rattle.statement_trees.specs.declared.writing.Assignment.{Assignment}
use Rattle.statement_trees.specs.declared.writing.Fetch.{Fetch}
use Rattle.statement_trees.specs.declared.writing.SelectInto.{SelectInto}
use Rattle.syntax_trees.specs.declared.anchor.Anchor.{Anchor}
use Rattle.syntax_trees.specs.declared.anchor.ColumnName.{ColumnName}
use Rattle.syntax_trees.specs.declared.anchor.Ident.{Ident}
use Rattle.syntax_trees.specs.declared.expr.Expr.{Expr}
use Rattle.syntax_trees.specs.declared.query.FromItem.{FromItem}
use Rattle.syntax_trees.specs.declared.query.OrderedQuery.{OrderedQuery}
use Rattle.syntax_trees.specs.declared.query.SelectItem.{SelectItem}
use Rattle.grammar_algebra.specs.Grammar.{token, nested, optional, many}
use Rattle.grammar_algebra.specs.Notation.{word, sign, ◌~◌, ◌~>◌, ◌<~◌, ◌or◌, ◌=>◌}
use Rattle.grammar_sql.specs.Trees.{G, Body, IfBody, CaseBody, anchor_of, if_any, ident}
use Rattle.grammar_sql.specs.Expressions.{expr, after}
use Rattle.grammar_sql.specs.Queries.{idents, ordered_query, select_word, select_list, from_clause}
use Rattle.grammar_sql.specs.Queries.{filter, grouping}
use Rattle.grammar_sql.specs.Writing.{assignment, call, dml}
use Rattle.grammar_sql.specs.Conditions.{signal, resignal, get_diagnostics}

-- ---- variables and targets

-- SET, whose place is the statement's anchor
unfoldable pub set_word : G Anchor
set_word = anchor_of => word w.Set

-- SET name '=' e
unfoldable pub set_statement : G Stmt
set_statement = (λ p. stmt_of.Set p.0 p.1) => set_word ~ assignment

-- INTO name {',' name}
unfoldable pub targets : G (List Ident)
targets = word w.Into ~> idents

-- the tree of <select statement: single row>: a query and the variables that its row goes to
abbrev pub select_into_of : Anchor × (List SelectItem ×
    (List Ident × (List FromItem × (Option Expr × (List ColumnName × Option Expr))))) → SelectInto
select_into_of p = record {
  anchor = p.0;
  items = p.1.0;
  targets = p.1.1.0;
  from = p.1.1.1.0;
  filter = p.1.1.1.1.0;
  group_by = p.1.1.1.1.1.0;
  having = p.1.1.1.1.1.1;
}

-- SELECT list INTO name {',' name} rest
unfoldable pub select_into : G SelectInto
select_into = select_into_of => select_word ~ select_list ~ targets ~ from_clause ~ filter ~
    grouping

-- ---- cursors

-- OPEN, whose place is the statement's anchor
unfoldable pub open_word : G Anchor
open_word = anchor_of => word w.Open

-- OPEN name
unfoldable pub open_statement : G Stmt
open_statement = (λ p. stmt_of.Open p.0 p.1) => open_word ~ ident

-- CLOSE, whose place is the statement's anchor
unfoldable pub close_word : G Anchor
close_word = anchor_of => word w.Close

-- CLOSE name
unfoldable pub close_statement : G Stmt
close_statement = (λ p. stmt_of.Close p.0 p.1) => close_word ~ ident

-- FETCH, whose place is the statement's anchor
unfoldable pub fetch_word : G Anchor
fetch_word = anchor_of => word w.Fetch

-- [NEXT] FROM
unfoldable pub fetch_orientation : G Token
fetch_orientation = optional (word w.Next) ~> word w.From

-- [[NEXT] FROM] name
unfoldable pub fetched_cursor : G Ident
fetched_cursor = optional fetch_orientation ~> ident

-- the tree of <fetch statement>: its anchor, the cursor, the targets
abbrev pub fetch_of : Anchor × (Ident × List Ident) → Fetch
fetch_of p = record { anchor = p.0; cursor = p.1.0; targets = p.1.1 }

-- FETCH [[NEXT] FROM] name INTO name {',' name}
unfoldable pub fetch : G Fetch
fetch = fetch_of => fetch_word ~ fetched_cursor ~ targets

-- ---- what leaves

-- LEAVE, whose place is the statement's anchor
unfoldable pub leave_word : G Anchor
leave_word = anchor_of => word w.Leave

-- LEAVE name
unfoldable pub leave_statement : G Stmt
leave_statement = (λ p. stmt_of.Leave p.0 p.1) => leave_word ~ ident

-- ITERATE, whose place is the statement's anchor
unfoldable pub iterate_word : G Anchor
iterate_word = anchor_of => word w.Iterate

-- ITERATE name
unfoldable pub iterate_statement : G Stmt
iterate_statement = (λ p. stmt_of.Iterate p.0 p.1) => iterate_word ~ ident

-- RETURN, whose place is the statement's anchor
unfoldable pub return_word : G Anchor
return_word = anchor_of => word w.Return

-- RETURN e
unfoldable pub return_statement : G Stmt
return_statement = (λ p. stmt_of.Return p.0 p.1) => return_word ~ expr

-- ---- statements that hold no statement

-- a statement that stores in a table or a variable: INSERT, UPDATE, DELETE, CALL, SET, SELECT INTO
unfoldable pub storing : G Stmt
storing = dml or stmt_of.Call => call or set_statement or stmt_of.SelectInto => select_into

-- <open statement> | <close statement> | <fetch statement>
unfoldable pub cursor_statement : G Stmt
cursor_statement = open_statement or close_statement or stmt_of.Fetch => fetch

-- <signal statement> | <resignal statement> | <get diagnostics statement>
unfoldable pub condition_statement : G Stmt
condition_statement = stmt_of.Signal => signal or stmt_of.Resignal => resignal or
    stmt_of.GetDiagnostics => get_diagnostics

-- <leave statement> | <iterate statement> | <return statement>
unfoldable pub leaving : G Stmt
leaving = leave_statement or iterate_statement or return_statement

-- any statement that holds no statement
unfoldable pub simple_statement : G Stmt
simple_statement = storing or cursor_statement or condition_statement or leaving

-- ---- with labels

-- the word that begins each statement that may have a label, and stands after the END of a loop
abbrev pub word_of : StructureWord → Word
word_of structure_word.Begin = w.Begin
word_of structure_word.Loop = w.Loop
word_of structure_word.While = w.While
word_of structure_word.Repeat = w.Repeat
word_of structure_word.For = w.For

-- what stands after END: of a loop its word, and a name
unfoldable pub end_label : StructureWord → G (Option Ident)
end_label structure_word.Begin = optional ident
end_label structure_word.Loop = word w.Loop ~> optional ident
end_label structure_word.While = word w.While ~> optional ident
end_label structure_word.Repeat = word w.Repeat ~> optional ident
end_label structure_word.For = word w.For ~> optional ident

-- a word, and what it begins up to its END: the word's place, and what it begins
unfoldable pub construct : StructureWord → G (Anchor × Structure)
construct k = (λ p. (anchor_of p.0, p.1)) => nested (kind.Word (word_of k)) (Body k)
    (kind.Word w.End)

-- BEGIN .. END [name] | LOOP .. END LOOP [name] | WHILE .. END WHILE [name]
--   | REPEAT .. END REPEAT [name] | FOR .. END FOR [name]
unfoldable pub structure : StructureWord → G ((Anchor × Structure) × Option Ident)
structure k = construct k ~ end_label k

-- <compound statement> | <loop statement> | <while statement> | <repeat statement> | <for
-- statement>, each from its word on
unfoldable pub structures : G ((Anchor × Structure) × Option Ident)
structures =
    structure structure_word.Begin
    or structure structure_word.Loop
    or structure structure_word.While
    or structure structure_word.Repeat
    or structure structure_word.For

-- name ':'
unfoldable pub label : G Ident
label = ident <~ sign s.Colon

-- [<beginning label> ':']
unfoldable pub if_label : G (Option Ident)
if_label = optional label

-- the tree of a statement that may have a label, with its two labels where they are written
abbrev pub labelled_of : Option Ident × ((Anchor × Structure) × Option Ident) → Labelled
labelled_of p = roll-Labelled (record {
  label = p.0;
  anchor = p.1.0.0;
  structure = p.1.0.1;
  end_label = p.1.1;
})

-- [name ':'], and a compound statement or a loop
unfoldable pub labelled : G Labelled
labelled = labelled_of => if_label ~ structures

-- [name ':'] BEGIN .. END [name]
unfoldable pub labelled_block : G Labelled
labelled_block = labelled_of => if_label ~ structure structure_word.Begin

-- ---- choices

-- IF .. END IF
unfoldable pub if_construct : G (Anchor × (List Branch × List Stmt))
if_construct = (λ p. (anchor_of p.0, p.1)) => nested (kind.Word w.If) IfBody (kind.Word w.End)

-- the tree of <if statement>: its anchor, a branch for each test, and what ELSE has
abbrev pub if_of : Anchor × (List Branch × List Stmt) → If
if_of p = roll-If (record { anchor = p.0; branches = p.1.0; otherwise = p.1.1 })

-- IF e THEN body {ELSEIF e THEN body} [ELSE body] END IF
unfoldable pub if_statement : G If
if_statement = if_of => if_construct <~ word w.If

-- CASE .. END CASE
unfoldable pub case_construct : G (Anchor × (Option Expr × (List Branch × List Stmt)))
case_construct = (λ p. (anchor_of p.0, p.1)) => nested (kind.Word w.Case) CaseBody (kind.Word w.End)

-- the tree of <case statement>, searched or, with an operand, simple
abbrev pub case_of : Anchor × (Option Expr × (List Branch × List Stmt)) → Case
case_of p = roll-Case (record {
  anchor = p.0;
  operand = p.1.0;
  branches = p.1.1.0;
  otherwise =
      p.1.1.1;
})

-- CASE [e] WHEN e THEN body {WHEN e THEN body} [ELSE body] END CASE
unfoldable pub case_statement : G Case
case_statement = case_of => case_construct <~ word w.Case

-- ---- each of them

-- <SQL procedure statement>: any statement of a routine
unfoldable pub stmt : G Stmt
stmt = stmt_of.Labelled => labelled or stmt_of.If => if_statement or stmt_of.Case => case_statement
    or simple_statement

-- ---- in constructs

-- stmt ';'
unfoldable pub ended : G Stmt
ended = stmt <~ sign s.Semicolon

-- {stmt ';'}
unfoldable pub statements : G (List Stmt)
statements = many ended

-- body := stmt ';' {stmt ';'}
unfoldable pub body : G (List Stmt)
body = (λ p. p.0 ∷ p.1) => ended ~ statements

-- a token, and a body after it
unfoldable pub body_after : TokenKind → G (List Stmt)
body_after k = token k ~> body

-- e THEN body
unfoldable pub branch : G Branch
branch = (λ p. roll-Branch (record { test = p.0; body = p.1 })) => expr ~ body_after
    (kind.Word w.Then)

-- a token, and a branch after it
unfoldable pub branch_after : TokenKind → G Branch
branch_after k = token k ~> branch

-- {ELSEIF | WHEN ..}: further branches, each after a word of this kind
unfoldable pub more_branches : TokenKind → G (List Branch)
more_branches k = many (branch_after k)

-- e THEN body {ELSEIF e THEN body}
unfoldable pub branches : G (List Branch)
branches = (λ p. p.0 ∷ p.1) => branch ~ more_branches (kind.Word w.Elseif)

-- [ELSE body]
unfoldable pub otherwise : G (List Stmt)
otherwise = if_any => optional (body_after (kind.Word w.Else))

-- what stands between IF and its END
unfoldable pub if_body : G (List Branch × List Stmt)
if_body = branches ~ otherwise

-- WHEN e THEN body {WHEN e THEN body}
unfoldable pub when_branches : G (List Branch)
when_branches = (λ p. p.0 ∷ p.1) => branch_after (kind.Word w.When) ~ more_branches
    (kind.Word w.When)

-- what stands between CASE and its END
unfoldable pub case_body : G (Option Expr × (List Branch × List Stmt))
case_body = optional expr ~ when_branches ~ otherwise

-- e DO body
unfoldable pub while_body : G Structure
while_body = (λ p. structure_of.While p.0 p.1) => expr ~ body_after (kind.Word w.Do)

-- body UNTIL e
unfoldable pub repeat_body : G Structure
repeat_body = (λ p. structure_of.Repeat p.0 p.1) => body ~ after (kind.Word w.Until)

-- AS query [order]
unfoldable pub for_query : G OrderedQuery
for_query = word w.As ~> ordered_query

-- name AS query [order] DO body
unfoldable pub for_body : G Structure
for_body = (λ p. structure_of.For p.0 p.1.0 p.1.1) => ident ~ for_query ~ body_after
    (kind.Word w.Do)
