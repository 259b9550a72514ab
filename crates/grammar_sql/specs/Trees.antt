-- What stands in constructs, the trees that rules leave, and the rules that all others share:
-- ISO/IEC 9075-2, 5.4 (names) and 6.1 (data types).
use Rattle.std.specs.Prelude.{ℤ, List, [], ◌∷◌, Option, Some, None}
use Rattle.grammar_sql.specs.declared.function_word.Function.{Function}
use Rattle.grammar_sql.specs.declared.function_word.FunctionWord.{FunctionWord}
use Rattle.grammar_sql.specs.declared.predicate_part.InValue.{InValue}
use Rattle.grammar_sql.specs.declared.structure_word.StructureWord.{StructureWord}
use Rattle.sql_lex.specs.declared.token.TokenKind.{TokenKind}
use Rattle.sql_lex.specs.declared.token.TokenKind.TheVariants as kind
use Rattle.sql_lex.specs.declared.token.Token.{Token}
use Rattle.sql_lex.specs.declared.word.Word.TheVariants as w
use Rattle.sql_lex.specs.declared.sign.Sign.TheVariants as s
use Rattle.syntax_trees.specs.declared.anchor.Anchor.{Anchor}
use Rattle.syntax_trees.specs.declared.anchor.Ident.{Ident}
use Rattle.syntax_trees.specs.declared.data_type.DataType.{DataType}
use Rattle.syntax_trees.specs.declared.data_type.TypeName.{TypeName}
use Rattle.syntax_trees.specs.declared.data_type.TypeName.TheVariants as type
use Rattle.syntax_trees.specs.declared.expr.Expr.{Expr}
use Rattle.syntax_trees.specs.declared.expr.Operation.{Operation}
use Rattle.syntax_trees.specs.declared.query.Query.{Query}
use Rattle.statement_trees.specs.declared.definition.Parameter.{Parameter}
use Rattle.statement_trees.specs.declared.definition.TableElement.{TableElement}
use Rattle.statement_trees.specs.declared.statement.Branch.{Branch}
use Rattle.statement_trees.specs.declared.statement.Stmt.{Stmt}
use Rattle.statement_trees.specs.declared.statement.Structure.{Structure}
use Rattle.statement_trees.specs.declared.writing.Argument.{Argument}
use Rattle.grammar_algebra.specs.Grammar.{Grammar, token, nested}
use Rattle.grammar_algebra.specs.Notation.{word, name, number, ◌~◌, ◌or◌, ◌=>◌, name_of, number_of}

-- what stands in a construct
pub data Rule : Type 0 where
  -- between two brackets: a table's elements; the parameters of a function, and of a procedure; the
  -- length of VARCHAR; the arguments of a call, and of CALL; one expression or more; one
  -- expression, or a query that stands for one; what IN looks in; the operands of a word; a query;
  -- names
  Elements : Rule
  Parameters : Rule
  ModalParameters : Rule
  Length : Rule
  Arguments : Rule
  CallArguments : Rule
  Exprs : Rule
  Bracketed : Rule
  Among : Rule
  Operands : FunctionWord → Rule
  Subquery : Rule
  Names : Rule
  -- between CASE and END
  Cases : Rule
  -- between a word and END: of what may have a label; of IF; of CASE as a statement
  Body : StructureWord → Rule
  IfBody : Rule
  CaseBody : Rule

-- the type of the trees of what each construct holds
abbrev pub Tree : Rule → Type 0
Tree Elements = List TableElement
Tree Parameters = List Parameter
Tree ModalParameters = List Parameter
Tree Length = Anchor × ℤ
Tree Arguments = List Expr
Tree CallArguments = List Argument
Tree Exprs = List Expr
Tree Bracketed = Expr
Tree Among = InValue
Tree (Operands f) = Function × List Expr
Tree Subquery = Query
Tree Names = List Ident
Tree Cases = Operation × List Expr
Tree (Body k) = Structure
Tree IfBody = List Branch × List Stmt
Tree CaseBody = Option Expr × (List Branch × List Stmt)

-- grammars of the language whose trees are of a type
abbrev pub G : Type 0 → Type 1
G A = Grammar Rule Tree A

-- a token's place: its number, its line and its column
abbrev pub anchor_of : Token → Anchor
anchor_of t = record { token = t.number; line = t.line; column = t.column }

-- a name with its place
abbrev pub ident_of : Token → Ident
ident_of t = record { name = name_of t.lexeme; anchor = anchor_of t }

-- the list that is written, or an empty one
abbrev pub if_any : {A : Type 0} → Option (List A) → List A
if_any None = []
if_any (Some xs) = xs

-- a list of one
abbrev pub only : {A : Type 0} → A → List A
only x = x ∷ []

-- a list of at most one
abbrev pub if_one : {A : Type 0} → Option A → List A
if_one None = []
if_one (Some x) = only x

-- one of these tokens: what it stands for, and where it stands
abbrev pub choice : {A : Type 0} → TokenKind × A → List (TokenKind × A) → G (A × Anchor)
choice p [] = (λ t. (p.1, anchor_of t)) => token p.0
choice p (q ∷ more) = ((λ t. (p.1, anchor_of t)) => token p.0) or choice q more

-- '(' rule ')'
unfoldable pub bracketed : (r : Rule) → G (Tree r)
bracketed r = (λ p. p.1) => nested (kind.Sign s.LeftParen) r (kind.Sign s.RightParen)

-- <identifier>: a name with its place
unfoldable pub ident : G Ident
ident = ident_of => name

-- the number of VARCHAR, with its token
unfoldable pub varchar_length : G (Anchor × ℤ)
varchar_length = (λ t. (anchor_of t, number_of t.lexeme)) => number

-- a type of no length
unfoldable pub plain_type : G (TypeName × Anchor)
plain_type = choice (kind.Word w.Integer, type.Integer)
    ((kind.Word w.Int, type.Integer) ∷ (kind.Word w.Boolean, type.Boolean) ∷ [])

-- VARCHAR '(' number ')'
unfoldable pub varchar : G (TypeName × Anchor)
varchar = (λ p. (type.Varchar p.1.0 p.1.1, anchor_of p.0)) => word w.Varchar ~ bracketed Length

-- type := INTEGER | INT | BOOLEAN | VARCHAR '(' number ')'
unfoldable pub data_type : G DataType
data_type = (λ p. record { anchor = p.1; name = p.0 }) => (plain_type or varchar)
