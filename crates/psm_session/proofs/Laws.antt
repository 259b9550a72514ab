-- What crates above may cite: at each token before the end stands one statement, with one end, one
-- database left and one reply; and a prepared query lasts while the tables have their columns.
use Rattle.std.proofs.Common.{◌≡◌, ◌<◌, ◌≤◌, ℕ, List, length}
use Rattle.sql_lex.specs.Tokens.{Lexing}
use Rattle.psm_effects.specs.Database.{Plain}
use Rattle.psm_session.specs.Executing.{Executes, Checks}
use Rattle.psm_session.specs.Planned.{EachPlanned}
use Rattle.psm_session.specs.Statement.{Statement, Checked}
use Rattle.psm_session.proofs.Each.{some_execution, some_check, Statement-some}
use Rattle.psm_session.proofs.One.{one_execution, one_check, Statement-one}
pub use Rattle.psm_effects.proofs.Laws.{query_lasts}

pub some_statement : (budget : ℕ) (t : Lexing) (at : ℕ) (before : Plain) →
    EachPlanned before.catalog → at < length t.tokens
    → (reply : List ℕ) × (to : ℕ) × (after : Plain) × Statement budget t at before reply to after ×
    EachPlanned after.catalog × (at < to) × (to ≤ length t.tokens)
some_statement budget = Statement-some (Executes budget) (some_execution budget)

pub some_checked : (t : Lexing) (at : ℕ) (before : Plain) → EachPlanned before.catalog →
    at < length t.tokens
    → (reply : List ℕ) × (to : ℕ) × (after : Plain) × Checked t at before reply to after ×
    EachPlanned after.catalog × (at < to) × (to ≤ length t.tokens)
some_checked = Statement-some Checks some_check

pub one_statement : (budget : ℕ) (t : Lexing) (at : ℕ) (before : Plain) (r r' : List ℕ) (to to' : ℕ)
    (after after' : Plain)
    → Statement budget t at before r to after → Statement budget t at before r' to' after' →
    (r ≡ r') × (to ≡ to') × (after ≡ after')
one_statement budget = Statement-one (Executes budget) (one_execution budget)

pub one_checked : (t : Lexing) (at : ℕ) (before : Plain) (r r' : List ℕ) (to to' : ℕ)
    (after after' : Plain)
    → Checked t at before r to after → Checked t at before r' to' after' → (r ≡ r') × (to ≡ to') ×
    (after ≡ after')
one_checked = Statement-one Checks one_check
