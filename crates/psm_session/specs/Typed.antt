-- What a script's statements without faults are bound to is well typed. ISO/IEC 9075-2, 13.5 (SQL
-- procedure statement).
use Rattle.std.specs.Prelude.{◌≡◌, ℕ, []}
use Rattle.sql_lex.specs.Tokens.{Lexing}
use Rattle.statement_trees.specs.declared.statement.Stmt.{Stmt}
use Rattle.catalog_store.specs.Catalog.{Catalog}
use Rattle.bind_statements.specs.Statements.{judged_statement}
use Rattle.bind_statements.specs.Types.{IsTyped}
use Rattle.psm_session.specs.Statement.{Reads}

-- each statement that is spelled by the tokens from one up to another
abbrev pub StatementsAreTyped : Type 0
StatementsAreTyped = (lexing : Lexing) (at : ℕ) (tree : Stmt) (to : ℕ) (catalog : Catalog) →
    Reads lexing at tree to → (judged_statement tree catalog).faults ≡ []
    → IsTyped catalog (judged_statement tree catalog).value.bound
