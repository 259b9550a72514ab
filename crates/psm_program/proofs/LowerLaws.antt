-- The laws on tokens and statements that the laws on scripts rest on.
use Rattle.std.proofs.Common.{◌≡◌, ◌<◌, ◌≤◌, ℕ, List, length}
use Rattle.sql_lex.specs.Tokens.{Lexing, IsTokens}
use Rattle.sql_lex.proofs.Laws as lists
use Rattle.psm_effects.specs.Database.{Plain}
use Rattle.psm_session.specs.Statement.{Statement}
use Rattle.psm_session.specs.Statement.{Checked}
use Rattle.psm_session.specs.Planned.{EachPlanned}
use Rattle.psm_session.proofs.Laws as session

-- bytes have one list of tokens
pub one_lexing : (bytes : List ℕ) (t t' : Lexing) → IsTokens bytes t → IsTokens bytes t' → t ≡ t'
one_lexing = lists.no_other_lexing

-- and they always have one
pub some_lexing : (bytes : List ℕ) → (t : Lexing) × IsTokens bytes t
some_lexing = lists.one_lexing

-- a statement at a token has one outcome
pub one_statement : (budget : ℕ) (t : Lexing) (at : ℕ) (before : Plain) (r r' : List ℕ) (to to' : ℕ)
    (after after' : Plain)
    → Statement budget t at before r to after → Statement budget t at before r' to' after' →
    (r ≡ r') × (to ≡ to') × (after ≡ after')
one_statement = session.one_statement

-- and it always has one before the end
pub some_statement : (budget : ℕ) (t : Lexing) (at : ℕ) (before : Plain) →
    EachPlanned before.catalog → at < length t.tokens
    → (reply : List ℕ) × (to : ℕ) × (after : Plain) × Statement budget t at before reply to after ×
    EachPlanned after.catalog × (at < to) × (to ≤ length t.tokens)
some_statement = session.some_statement

-- and so has the check of a statement
pub one_checked : (t : Lexing) (at : ℕ) (before : Plain) (r r' : List ℕ) (to to' : ℕ)
    (after after' : Plain)
    → Checked t at before r to after → Checked t at before r' to' after' → (r ≡ r') × (to ≡ to') ×
    (after ≡ after')
one_checked = session.one_checked

pub some_checked : (t : Lexing) (at : ℕ) (before : Plain) → EachPlanned before.catalog →
    at < length t.tokens
    → (reply : List ℕ) × (to : ℕ) × (after : Plain) × Checked t at before reply to after ×
    EachPlanned after.catalog × (at < to) × (to ≤ length t.tokens)
some_checked = session.some_checked
