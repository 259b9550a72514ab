-- Expressions: ISO/IEC 9075-2, 6.4 (a call of a function), 6.6 (names), 6.12 (CASE), 6.13 (CAST),
-- 6.26 to 6.39 (value expressions), 7.19 (subqueries), 8.2 to 8.10 (predicates) and 10.9 (aggregate
-- functions).
use Rattle.std.specs.Prelude.{Bool, true, false, List, [], ◌∷◌, ◌++◌, Option, Some, None}
use Rattle.grammar_sql.specs.declared.chain_level.ChainLevel.{ChainLevel}
use Rattle.grammar_sql.specs.declared.chain_level.ChainLevel.TheVariants as level
use Rattle.grammar_sql.specs.declared.function_word.Function.{Function}
use Rattle.grammar_sql.specs.declared.function_word.Function.TheVariants as function_of
use Rattle.grammar_sql.specs.declared.function_word.FunctionWord.{FunctionWord}
use Rattle.grammar_sql.specs.declared.function_word.FunctionWord.TheVariants as function_word
use Rattle.grammar_sql.specs.declared.predicate_part.InValue.{InValue}
use Rattle.grammar_sql.specs.declared.predicate_part.InValue.TheVariants as in_value
use Rattle.grammar_sql.specs.declared.predicate_part.PredicatePart.{PredicatePart}
use Rattle.grammar_sql.specs.declared.predicate_part.PredicatePart.TheVariants as part
use Rattle.sql_lex.specs.declared.token.TokenKind.{TokenKind}
use Rattle.sql_lex.specs.declared.token.TokenKind.TheVariants as kind
use Rattle.sql_lex.specs.declared.token.Token.{Token}
use Rattle.sql_lex.specs.declared.word.Word.{Word}
use Rattle.sql_lex.specs.declared.word.Word.TheVariants as w
use Rattle.sql_lex.specs.declared.sign.Sign.TheVariants as s
use Rattle.sql_values.specs.declared.fold.FoldKind.{FoldKind}
use Rattle.sql_values.specs.declared.fold.FoldKind.TheVariants as fold
use Rattle.sql_values.specs.declared.operators.Comparison.{Comparison}
use Rattle.sql_values.specs.declared.operators.Comparison.TheVariants as cmp
use Rattle.sql_values.specs.declared.operators.Operator.TheVariants as op
use Rattle.syntax_trees.specs.declared.anchor.Anchor.{Anchor}
use Rattle.syntax_trees.specs.declared.anchor.ColumnName.{ColumnName}
use Rattle.syntax_trees.specs.declared.anchor.Ident.{Ident}
use Rattle.syntax_trees.specs.declared.data_type.DataType.{DataType}
use Rattle.syntax_trees.specs.declared.expr.ChainOperator.{ChainOperator}
use Rattle.syntax_trees.specs.declared.expr.ChainOperator.TheVariants as chain_operator
use Rattle.syntax_trees.specs.declared.expr.Expr.{Expr}
use Rattle.syntax_trees.specs.declared.expr.Expr.TheVariants as e
use Rattle.syntax_trees.specs.declared.expr.Link.{Link, roll-Link}
use Rattle.syntax_trees.specs.declared.expr.Literal.{Literal}
use Rattle.syntax_trees.specs.declared.expr.Literal.TheVariants as literal_of
use Rattle.syntax_trees.specs.declared.expr.Operation.{Operation}
use Rattle.syntax_trees.specs.declared.expr.Operation.TheVariants as operation
use Rattle.syntax_trees.specs.declared.expr.TruthTest.{TruthTest}
use Rattle.syntax_trees.specs.declared.expr.TruthTest.TheVariants as test
use Rattle.grammar_algebra.specs.Grammar.{token, nested, optional, many}
use Rattle.grammar_algebra.specs.Notation.{word, sign, number, text, ◌~◌, ◌~>◌, ◌or◌, ◌=>◌}
use Rattle.grammar_algebra.specs.Notation.{number_of, text_of, followed, joined}
use Rattle.grammar_sql.specs.Trees.{G, anchor_of, only, if_one, choice, bracketed, ident, data_type}
use Rattle.grammar_sql.specs.Trees.{Arguments, Bracketed, Among, Operands, Subquery, Cases}

-- ---- literals, names, calls, brackets

-- <truth value> or NULL: TRUE | FALSE | UNKNOWN | NULL
unfoldable pub constant : G (Literal × Anchor)
constant =
    choice (kind.Word w.True, literal_of.True)
    ((kind.Word w.False, literal_of.False) ∷ (kind.Word w.Unknown, literal_of.Unknown) ∷
    (kind.Word w.Null, literal_of.Null) ∷ [])

-- number | text | TRUE | FALSE | UNKNOWN | NULL
unfoldable pub literal : G (Literal × Anchor)
literal =
    (λ t. (literal_of.Number (number_of t.lexeme), anchor_of t)) => number
    or (λ t. (literal_of.Text (text_of t.lexeme), anchor_of t)) => text
    or constant

-- a name alone, and one with the name of its FROM item before it
abbrev pub unqualified : Ident → ColumnName
unqualified name = record { qualifier = None; name = name }

-- a column named with its table or correlation name
abbrev pub qualified : Ident → Ident → ColumnName
qualified qualifier name = record { qualifier = Some qualifier; name = name }

-- '.' name
unfoldable pub dotted : G Ident
dotted = sign s.Period ~> ident

-- The first of two names is the qualifier; one name alone is the column.
abbrev pub column_name_of : Ident → Option Ident → ColumnName
column_name_of name None = unqualified name
column_name_of qualifier (Some name) = qualified qualifier name

-- column := name ['.' name]
unfoldable pub column_name : G ColumnName
column_name = (λ p. column_name_of p.0 p.1) => ident ~ optional dotted

-- the same, and a call: name '(' [e {',' e}] ')'
unfoldable pub named : G Expr
named =
    (λ p. followed (λ i. e.Name (unqualified i)) p.1 p.0) => ident
    ~ optional (
    (λ args i. e.Call i args) => bracketed Arguments
    or (λ name i. e.Name (qualified i name)) => dotted)

-- ---- words with operands

-- a word, where it stands, and what its operation and operands are
abbrev pub operation_of : Token × (Operation × List Expr) → Expr
operation_of p = e.Operation (anchor_of p.0) p.1.0 p.1.1

-- the word of <set function type>: COUNT, SUM, AVG, MIN or MAX
abbrev pub aggregate_word : FoldKind → Word
aggregate_word fold.Count = w.Count
aggregate_word fold.Sum = w.Sum
aggregate_word fold.Avg = w.Avg
aggregate_word fold.Min = w.Min
aggregate_word fold.Max = w.Max

-- the word that each function of the language begins with
abbrev pub word_of : FunctionWord → Word
word_of function_word.Coalesce = w.Coalesce
word_of function_word.Modulo = w.Mod
word_of function_word.CharLength = w.CharLength
word_of function_word.Substring = w.Substring
word_of function_word.Cast = w.Cast
word_of (function_word.Aggregate f) = aggregate_word f

-- what such a word stands for, with its operands
abbrev pub applied : Anchor → Function × List Expr → Expr
applied anchor (function_of.Operation o, xs) = e.Operation anchor o xs
applied anchor (function_of.Aggregate f, xs) = e.Aggregate anchor f xs

-- a word and its operands in brackets
unfoldable pub function_call : FunctionWord → G Expr
function_call f = (λ p. applied (anchor_of p.0) p.1) => word (word_of f) ~ bracketed (Operands f)

-- an aggregate function
unfoldable pub aggregate : G Expr
aggregate =
    function_call (function_word.Aggregate fold.Count)
    or function_call (function_word.Aggregate fold.Sum)
    or function_call (function_word.Aggregate fold.Avg)
    or function_call (function_word.Aggregate fold.Min)
    or function_call (function_word.Aggregate fold.Max)

-- COALESCE, MOD, CHAR_LENGTH, SUBSTRING, CAST or <aggregate function>, with its brackets
unfoldable pub function : G Expr
function =
    function_call function_word.Coalesce
    or function_call function_word.Modulo
    or function_call function_word.CharLength
    or function_call function_word.Substring
    or function_call function_word.Cast
    or aggregate

-- CASE cases END
unfoldable pub case_expression : G Expr
case_expression = operation_of => nested (kind.Word w.Case) Cases (kind.Word w.End)

-- EXISTS '(' query ')'
unfoldable pub exists : G Expr
exists = (λ p. e.Exists (anchor_of p.0) p.1) => word w.Exists ~ bracketed Subquery

-- <value expression primary>: a literal, a name or a call, `( .. )`, <case expression>, EXISTS, or
-- a function of the language
unfoldable pub primary : G Expr
primary =
    (λ p. e.Literal p.1 p.0) => literal
    or named
    or bracketed Bracketed
    or case_expression
    or exists
    or function

-- ---- signs and NOT

-- the operand with the sign or NOT that stands before it, where one does
abbrev pub prefixed : Option (Operation × Anchor) → Expr → Expr
prefixed None x = x
prefixed (Some p) x = e.Operation p.1 p.0 (only x)

-- <sign> := '+' | '-'
unfoldable pub unary_sign : G (Operation × Anchor)
unary_sign = choice (kind.Sign s.Plus, operation.Plus) ((kind.Sign s.Minus, operation.Minus) ∷ [])

-- factor := ['+' | '-'] primary
unfoldable pub factor : G Expr
factor = (λ p. prefixed p.0 p.1) => optional unary_sign ~ primary

-- ---- chains

-- a chain of one is no chain
abbrev pub chain : Expr → List Link → Expr
chain first [] = first
chain first (l ∷ ls) = e.Chain first (l ∷ ls)

-- an operator with its right operand, one link of a chain
abbrev pub link_of : (ChainOperator × Anchor) × Expr → Link
link_of p = roll-Link (record { operator = p.0.0; anchor = p.0.1; operand = p.1 })

-- the operators of a level
unfoldable pub operator : ChainLevel → G (ChainOperator × Anchor)
operator level.Or = choice (kind.Word w.Or, chain_operator.Or) []
operator level.And = choice (kind.Word w.And, chain_operator.And) []
operator level.Additive =
    choice (kind.Sign s.Plus, chain_operator.Value op.Add)
    ((kind.Sign s.Minus, chain_operator.Value op.Subtract) ∷
    (kind.Sign s.Concatenation, chain_operator.Value op.Concatenate) ∷ [])
operator level.Multiplicative =
    choice (kind.Sign s.Asterisk, chain_operator.Value op.Multiply)
    ((kind.Sign s.Solidus, chain_operator.Value op.Divide) ∷ [])

-- an operator of a level and the operand after it, of which this is the rule
abbrev pub link_by : ChainLevel → G Expr → G Link
link_by l operand = link_of => operator l ~ operand

-- {operator operand}: the rest of a chain, whose operators bind equally and group from the left
abbrev pub links_by : ChainLevel → G Expr → G (List Link)
links_by l operand = many (link_by l operand)

-- operand {operator operand}
abbrev pub chain_by : ChainLevel → G Expr → G Expr
chain_by l operand = (λ p. chain p.0 p.1) => operand ~ links_by l operand

-- term := factor {('*' | '/') factor}
unfoldable pub term : G Expr
term = chain_by level.Multiplicative factor

-- sum := term {('+' | '-' | '||') term}
unfoldable pub sum : G Expr
sum = chain_by level.Additive term

-- ---- predicates

-- cmp := '=' | '<>' | '<' | '<=' | '>' | '>='
unfoldable pub comparison_sign : G (Comparison × Anchor)
comparison_sign =
    choice (kind.Sign s.Equals, cmp.Equals)
    ((kind.Sign s.NotEquals, cmp.NotEquals)
    ∷ (kind.Sign s.LessThan, cmp.LessThan)
    ∷ (kind.Sign s.LessThanOrEquals, cmp.LessThanOrEquals)
    ∷ (kind.Sign s.GreaterThan, cmp.GreaterThan)
    ∷ (kind.Sign s.GreaterThanOrEquals, cmp.GreaterThanOrEquals) ∷ [])

-- <comp op> := '=' | '<>' | '<' | '>' | '<=' | '>='
unfoldable pub comparison : G (Operation × Anchor)
comparison = (λ p. (operation.Compare p.0, p.1)) => comparison_sign

-- cmp sum
unfoldable pub compared : G ((Operation × Anchor) × List Expr)
compared = (λ p. (p.0, only p.1)) => comparison ~ sum

-- what may stand after IS [NOT]: NULL | TRUE | FALSE | UNKNOWN
unfoldable pub truth_test : G (TruthTest × Anchor)
truth_test =
    choice (kind.Word w.Null, test.Null) ((kind.Word w.True, test.True) ∷
    (kind.Word w.False, test.False) ∷ (kind.Word w.Unknown, test.Unknown) ∷ [])

-- NOT
unfoldable pub not_word : G (Operation × Anchor)
not_word = choice (kind.Word w.Not, operation.Not) []

-- IS or IS NOT, by whether NOT stands there
abbrev pub is_or_not : Option (Operation × Anchor) → TruthTest → Operation
is_or_not None t = operation.Is t
is_or_not (Some n) t = operation.IsNot t

-- [NOT] (NULL | TRUE | FALSE | UNKNOWN)
unfoldable pub asked : G Operation
asked = (λ p. is_or_not p.0 p.1.0) => optional not_word ~ truth_test

-- IS [NOT] (NULL | TRUE | FALSE | UNKNOWN)
unfoldable pub tested : G (Operation × Anchor)
tested = (λ p. (p.1, anchor_of p.0)) => word w.Is ~ asked

-- [NOT] IN: whether NOT stands before it
unfoldable pub in_word : G (Bool × Anchor)
in_word =
    (λ t. (false, anchor_of t)) => word w.In
    or (λ t. (true, anchor_of t)) => word w.Not ~> word w.In

-- [NOT] IN '(' (query | e {',' e}) ')'
unfoldable pub among : G ((Bool × Anchor) × InValue)
among = in_word ~ bracketed Among

-- what may stand after the left side of a predicate
unfoldable pub predicate_part : G PredicatePart
predicate_part =
    (λ p. part.Operation p.0 p.1) => compared
    or (λ p. part.Operation p []) => tested
    or (λ p. part.In p.0 p.1) => among

-- IN or NOT IN, by whether NOT stands there
abbrev pub in_operation : Bool → Operation
in_operation false = operation.In
in_operation true = operation.NotIn

-- IN over a list is an operation whose first operand is the left side; over a query it is a node of
-- its own
abbrev pub in_of : Expr → Bool × Anchor → InValue → Expr
in_of x p (in_value.List xs) = e.Operation p.1 (in_operation p.0) (x ∷ xs)
in_of x p (in_value.Query query) = e.InQuery p.1 p.0 x query

-- the left operand with what stands after it in the predicate
abbrev pub part_of : Expr → PredicatePart → Expr
part_of x (part.Operation o xs) = e.Operation o.1 o.0 (x ∷ xs)
part_of x (part.In p values) = in_of x p values

-- the operand alone, or as the left one of a predicate
abbrev pub predicate_of : Expr → Option PredicatePart → Expr
predicate_of x None = x
predicate_of x (Some p) = part_of x p

-- pred := sum [predicate_part]
unfoldable pub predicate : G Expr
predicate = (λ p. predicate_of p.0 p.1) => sum ~ optional predicate_part

-- not := [NOT] pred
unfoldable pub negation : G Expr
negation = (λ p. prefixed p.0 p.1) => optional not_word ~ predicate

-- ---- all expressions

-- and := not {AND not}
unfoldable pub conjunction : G Expr
conjunction = chain_by level.And negation

-- e := and {OR and}
unfoldable pub expr : G Expr
expr = chain_by level.Or conjunction

-- what the chains of a level are made of
abbrev pub operand_at : ChainLevel → G Expr
operand_at level.Or = conjunction
operand_at level.And = negation
operand_at level.Additive = term
operand_at level.Multiplicative = factor

-- an operator of a level and the operand after it
abbrev pub link_at : ChainLevel → G Link
link_at l = link_by l (operand_at l)

-- {operator operand}
abbrev pub links_at : ChainLevel → G (List Link)
links_at l = links_by l (operand_at l)

-- the chains of a level: of OR they are the expressions, of AND the conjunctions, and so on
abbrev pub chain_at : ChainLevel → G Expr
chain_at l = chain_by l (operand_at l)

-- a token, and an expression after it
unfoldable pub after : TokenKind → G Expr
after k = token k ~> expr

-- {',' e}
unfoldable pub more_exprs : G (List Expr)
more_exprs = many (after (kind.Sign s.Comma))

-- e {',' e}
unfoldable pub exprs : G (List Expr)
exprs = (λ p. p.0 ∷ p.1) => expr ~ more_exprs

-- ---- in brackets after a word

-- [FOR e]
unfoldable pub for_length : G (List Expr)
for_length = if_one => optional (after (kind.Word w.For))

-- AS type
unfoldable pub as_type : G DataType
as_type = word w.As ~> data_type

-- '*', of which COUNT counts the rows
unfoldable pub all_rows : G (List Expr)
all_rows = (λ t. []) => sign s.Asterisk

-- the argument of an aggregate: of COUNT(*) none, else one
unfoldable pub argument : FoldKind → G (List Expr)
argument fold.Count = all_rows or only => expr
argument fold.Sum = only => expr
argument fold.Avg = only => expr
argument fold.Min = only => expr
argument fold.Max = only => expr

-- an operation with its operands, in the brackets of a function of the language
abbrev pub calls : Operation → List Expr → Function × List Expr
calls o xs = (function_of.Operation o, xs)

-- what stands in the brackets after a word: what the word stands for, and its operands
unfoldable pub operands : FunctionWord → G (Function × List Expr)
operands function_word.Coalesce = (λ xs. calls operation.Coalesce xs) => exprs
operands function_word.Modulo = (λ p. calls operation.Modulo (p.0 ∷ only p.1)) => expr ~ after
    (kind.Sign s.Comma)
operands function_word.CharLength = (λ x. calls operation.CharLength (only x)) => expr
operands function_word.Substring = (λ p. calls operation.Substring (p.0 ∷ p.1.0 ∷ p.1.1)) => expr ~
    after (kind.Word w.From) ~ for_length
operands function_word.Cast = (λ p. calls (operation.Cast p.1) (only p.0)) => expr ~ as_type
operands (function_word.Aggregate f) = (λ xs. (function_of.Aggregate f, xs)) => argument f

-- ---- between CASE and END

-- WHEN e THEN e
unfoldable pub when_clause : G (List Expr)
when_clause = (λ p. p.0 ∷ only p.1) => after (kind.Word w.When) ~ after (kind.Word w.Then)

-- {WHEN e THEN e}
unfoldable pub more_when_clauses : G (List Expr)
more_when_clauses = joined => many when_clause

-- {<searched when clause>} or {<simple when clause>}, one at least
unfoldable pub when_clauses : G (List Expr)
when_clauses = (λ p. p.0 ++ p.1) => when_clause ~ more_when_clauses

-- [ELSE e]
unfoldable pub else_clause : G (List Expr)
else_clause = if_one => optional (after (kind.Word w.Else))

-- WHEN e THEN e {WHEN e THEN e} [ELSE e]
unfoldable pub arms : G (List Expr)
arms = (λ p. p.0 ++ p.1) => when_clauses ~ else_clause

-- <searched case>, or <simple case> with its operand in front
abbrev pub case_of : Option Expr → List Expr → Operation × List Expr
case_of None xs = (operation.Case, xs)
case_of (Some x) xs = (operation.CaseOf, x ∷ xs)

-- [e] WHEN e THEN e {WHEN e THEN e} [ELSE e]
unfoldable pub cases : G (Operation × List Expr)
cases = (λ p. case_of p.0 p.1) => optional expr ~ arms
