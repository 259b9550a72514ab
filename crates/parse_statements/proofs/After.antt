-- A statement that is read stands before the token after it.
use Rattle.std.proofs.Common.{ℕ, ◌<◌, ◌≤◌, List, length, Result, Ok, Err}
use Rattle.std.specs.Prelude.{IfOk}
use Rattle.sql_lex.specs.declared.token.Token.{Token}
use Rattle.statement_trees.specs.declared.statement.Stmt.{Stmt}
use Rattle.grammar_algebra.specs.declared.fault.ParseFault.{ParseFault}
use Rattle.grammar_algebra.specs.Statement.{Answers, most_open}
use Rattle.grammar_algebra.proofs.Laws.{goes_further}
use Rattle.grammar_sql.specs.Decides.{statement_goes}
use Rattle.grammar_sql.specs.Sql.{rules, statement}

pub goes_on : (tokens : List Token) (i : ℕ) (r : Result (Stmt × ℕ) ParseFault) →
    Answers rules most_open statement tokens i r
    → IfOk r (λ p. (i < p.1) × (p.1 ≤ length tokens))
goes_on tokens i (Ok p) a = (
  goes_further rules most_open statement statement_goes tokens i p.0 p.1
      a.0,
  a.0.1,
)
goes_on tokens i (Err e) a = tt
