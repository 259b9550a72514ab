-- What a call of the program says of its edges, at each status. `left` and `left'` are what the
-- source has left before and after, `told` and `told'` what the sink tells, `before` and `after`
-- the database.
use Rattle.std.specs.Prelude.{◌≡◌, ℕ, Bool, true, List, ◌++◌, length, Option, Some}
use Rattle.io_edges.specs.TakenBytes.{TakenBytes, Takes, TakesFlushed, with_bytes, all_flushed}
use Rattle.sql_lex.specs.Tokens.{Lexing, IsTokens}
use Rattle.psm_effects.specs.Database.{Plain}
use Rattle.psm_program.specs.Script.{whole, has_exception}
use Rattle.psm_program.specs.Session.{Does, ending, Script, HasScript, IsGiven}
use Rattle.psm_words.specs.declared.command.Command.{Command}
use Rattle.program_status.specs.Reading.{TakesCount}
use Rattle.psm_program.specs.Outcome.{Completes, IsCut, FirstFew, Ends}
use Rattle.program_status.specs.declared.status.Status.{Status}
use Rattle.program_status.specs.declared.status.Status.TheVariants.{DoneWithExceptions}

-- The command has its script. The replies were written, and what stands behind them, and all of it
-- is flushed.
pub record RunsWhole (command : Command) (left left' : Option (List ℕ))
    (told told' : Option TakenBytes) (before after : Plain) (excepts : Bool) : Type 0 where
  pub script : List ℕ
  pub given : IsGiven command left left' script
  pub lexing : Lexing
  pub lexed : IsTokens script lexing
  pub completes : Completes (Does command lexing) (length lexing.tokens) (ending command) told told'
      before after excepts

-- The command has its script. The sink took the replies of the first statements, but not all of the
-- last one, and the database is the one after these statements; or it took all replies, but not all
-- of what stands behind them; or it took all, with the flush refused.
pub record IsCutShort (command : Command) (left left' : Option (List ℕ))
    (told told' : Option TakenBytes) (before after : Plain) : Type 0 where
  pub script : List ℕ
  pub given : IsGiven command left left' script
  pub lexing : Lexing
  pub lexed : IsTokens script lexing
  pub cut : IsCut (Does command lexing) (length lexing.tokens) (ending command) told told' before
      after

-- The command has its script. The sink took the replies of the first statements, whole, and nothing
-- else.
pub record IsFirstFew (command : Command) (left left' : Option (List ℕ))
    (told told' : Option TakenBytes) (before after : Plain) : Type 0 where
  pub script : List ℕ
  pub given : IsGiven command left left' script
  pub lexing : Lexing
  pub lexed : IsTokens script lexing
  pub first : FirstFew (Does command lexing) told told' before after

-- a run of a script, at each status
pub record EndsOn (command : Command) (script : List ℕ) (told told' : Option TakenBytes)
    (before after : Plain) (status : Status) : Type 0 where
  pub lexing : Lexing
  pub lexed : IsTokens script lexing
  pub ends : Ends (Does command lexing) (length lexing.tokens) (ending command) told told' before
      after status

-- so many bytes were read, where the source tells its bytes
abbrev pub ReadsCount : Option (List ℕ) → Option (List ℕ) → ℕ → Type 0
ReadsCount left left' n = TakesCount left left' (λ k. k ≡ n)

-- Where the command has this script, a reply of it begins with `!`, and all was written and flushed,
-- the status says so.
abbrev pub SaysExceptions : Command → Option (List ℕ) → Option TakenBytes → Option TakenBytes →
    Plain → Status → Type 0
SaysExceptions command left told told' before status =
    (script : List ℕ) (replies : List (List ℕ)) (after : Plain) (t : TakenBytes)
    → HasScript command left script → Script command script before replies after
    → has_exception replies ≡ true → told ≡ Some t
    → told' ≡ Some (all_flushed (with_bytes t (whole replies ++ ending command after)))
    → status ≡ DoneWithExceptions

-- Where all was done: whatever run the script has, its database is what is left, and its replies and
-- what stands behind them are what was written and flushed.
abbrev pub LeavesTheOnlyRun : Command → Option (List ℕ) → Option TakenBytes → Option TakenBytes →
    Plain → Plain → Type 0
LeavesTheOnlyRun command left told told' before after =
    (script : List ℕ) (replies : List (List ℕ)) (last : Plain)
    → HasScript command left script → Script command script before replies last
    → (after ≡ last) × TakesFlushed told told' (whole replies ++ ending command last)

-- Whatever run the script has, what was written is a front of its replies and of what stands behind
-- them, and none of it is flushed.
abbrev pub WritesFront : Command → Option (List ℕ) → Option TakenBytes → Option TakenBytes → Plain →
    Type 0
WritesFront command left told told' before = (script : List ℕ) (replies : List (List ℕ))
    (last : Plain)
    → HasScript command left script → Script command script before replies last
    → (front : List ℕ) × (rest : List ℕ) × (whole replies ++ ending command last ≡ front ++ rest) ×
    Takes told told' front
