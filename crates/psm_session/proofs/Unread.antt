-- Where no statement is read, the reply says why.
use Rattle.std.proofs.Common.{◌≡◌, ℕ, List, Result, Ok, Err, length, refl, inr}
use Rattle.std.specs.Prelude.{IfOk}
use Rattle.sql_texts.specs.declared.memory.NoMemory.{NoMemory}
use Rattle.sql_lex.specs.Tokens.{Lexing}
use Rattle.sql_lex.specs.Openings.{place_at}
use Rattle.grammar_algebra.specs.Statement.{ReadsNothing, most_open}
use Rattle.grammar_sql.specs.Sql.{rules, statement}
use Rattle.reply_text.specs.declared.fault.FaultText.{FaultText}
use Rattle.reply_text.specs.Texts.{fault_text}
use Rattle.psm_effects.specs.Database.{Plain}
use Rattle.psm_session.specs.Statement.{Stops, Doing, StatementBy}

pub unread : (Does : Doing) (t : Lexing) (at : ℕ) (before : Plain) (why : FaultText) (place : ℕ)
    (r : Result (List ℕ × ℕ) NoMemory)
    → ReadsNothing rules most_open statement t.tokens at → Stops t at why place
    → IfOk r (λ p. p.0 ≡ fault_text why (place_at t place).0 (place_at t place).1) →
    IfOk r (λ p. p.1 ≡ length t.tokens)
    → IfOk r (λ p. StatementBy Does t at before p.0 p.1 before)
unread Does t at before why place (Ok p) nothing stops replies ends =
    inr (record {
      nothing = nothing;
      why = why;
      place = place;
      stops = stops;
      replies = replies;
      ends = ends;
      leaves = refl;
    })
unread Does t at before why place (Err e) nothing stops replies ends = tt
