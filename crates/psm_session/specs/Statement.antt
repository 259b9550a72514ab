-- One statement of a script: its reply, where the next one begins, and the database that it leaves.
use Rattle.std.specs.Prelude.{ℕ, ◌≡◌, ◌⊎◌, List, length}
use Rattle.sql_lex.specs.Tokens.{Lexing}
use Rattle.sql_lex.specs.Openings.{place_at}
use Rattle.statement_trees.specs.declared.statement.Stmt.{Stmt}
use Rattle.grammar_algebra.specs.Statement.{SpellsWithin, ReadsNothing, IsStuck, IsTooDeep}
use Rattle.grammar_algebra.specs.Statement.{most_open}
use Rattle.grammar_sql.specs.Sql.{rules, statement}
use Rattle.syntax_trees.specs.declared.anchor.Anchor.{Anchor}
use Rattle.bind_faults.specs.Faults.{Noted}
use Rattle.bind_direct.specs.declared.bound.BoundStatement.{BoundStatement}
use Rattle.bind_statements.specs.Statements.{judged_statement, anchor_of}
use Rattle.reply_text.specs.declared.fault.FaultText.{FaultText}
use Rattle.reply_text.specs.declared.fault.FaultText.TheVariants.{Syntax, TooDeep}
use Rattle.reply_text.specs.Texts.{fault_text}
use Rattle.psm_effects.specs.Database.{Plain}
use Rattle.psm_session.specs.Executing.{Executes, Checks}

-- the tree is spelled by the tokens from one up to another, with its `;` last
abbrev pub Reads : Lexing → ℕ → Stmt → ℕ → Type 0
Reads lexing at tree to = SpellsWithin rules most_open statement lexing.tokens at tree to

-- The tokens begin a statement up to this place and no further: for no want of constructs, or for
-- want of one more, which the token there opens.
abbrev pub Stops : Lexing → ℕ → FaultText → ℕ → Type 0
Stops lexing at why place = ((why ≡ Syntax) ×
    IsStuck rules most_open statement lexing.tokens at place)
    ⊎ ((why ≡ TooDeep) × IsTooDeep rules most_open statement lexing.tokens at place)

-- what is done with a statement that was read, by what was found in it and its anchor
abbrev pub Doing : Type 1
Doing = Noted BoundStatement → Anchor → Plain → List ℕ → Plain → Type 0

-- a statement stands there, and is done: the script goes on after it
pub record IsRead (Does : Doing) (lexing : Lexing) (at : ℕ) (before : Plain) (reply : List ℕ)
    (to : ℕ) (after : Plain) : Type 0 where
  pub tree : Stmt
  pub reads : Reads lexing at tree to
  pub does : Does (judged_statement tree before.catalog) (anchor_of tree) before reply after

-- No statement stands there. The reply says why, with the place up to which one begins; nothing
-- changes, and the script ends.
pub record IsUnread (lexing : Lexing) (at : ℕ) (before : Plain) (reply : List ℕ) (to : ℕ)
    (after : Plain) : Type 0 where
  pub nothing : ReadsNothing rules most_open statement lexing.tokens at
  pub why : FaultText
  pub place : ℕ
  pub stops : Stops lexing at why place
  pub replies : reply ≡ fault_text why (place_at lexing place).0 (place_at lexing place).1
  pub ends : to ≡ length lexing.tokens
  pub leaves : after ≡ before

-- the statement at a token
abbrev pub StatementBy : Doing → Lexing → ℕ → Plain → List ℕ → ℕ → Plain → Type 0
StatementBy Does lexing at before reply to after = IsRead Does lexing at before reply to after ⊎
    IsUnread lexing at before reply to after

-- where statements are run, each with so many turns
abbrev pub Statement : ℕ → Lexing → ℕ → Plain → List ℕ → ℕ → Plain → Type 0
Statement budget = StatementBy (Executes budget)

-- where they are checked alone
abbrev pub Checked : Lexing → ℕ → Plain → List ℕ → ℕ → Plain → Type 0
Checked = StatementBy Checks
