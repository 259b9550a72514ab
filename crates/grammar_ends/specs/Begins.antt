-- Where the statements of a script begin that are read one after another.
use Rattle.std.specs.Prelude.{ℕ, List}
use Rattle.sql_lex.specs.declared.token.Token.{Token}
use Rattle.statement_trees.specs.declared.statement.Stmt.{Stmt}
use Rattle.grammar_algebra.specs.Statement.{SpellsWithin}
use Rattle.grammar_sql.specs.Sql.{rules, statement}

-- A statement begins at the first token, and where a statement ends that begins so, with its `;`
-- and with however many constructs open.
pub data Begins (tokens : List Token) : ℕ → Type 0 where
  first : Begins tokens 0
  next : (at : ℕ) → Begins tokens at → (n : ℕ) (tree : Stmt) (to : ℕ) →
      SpellsWithin rules n statement tokens at tree to → Begins tokens to
