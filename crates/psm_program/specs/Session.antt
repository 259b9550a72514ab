-- What a script means to a command: what the command does with the statements of its tokens, from
-- the first token on, and what it writes behind their replies; and which script a command has.
use Rattle.std.specs.Prelude.{◌≡◌, ℕ, ◌+◌, ◌<◌, List, [], length, Option, Some, if◌then◌else◌}
use Rattle.sql_lex.specs.Tokens.{Lexing, IsTokens}
use Rattle.demo_script.specs.Demo.{demo_text}
use Rattle.program_status.specs.Reading.{ReadsWhole}
use Rattle.psm_effects.specs.Database.{Plain}
use Rattle.psm_session.specs.Dump.{dump_text}
use Rattle.psm_session.specs.Statement.{Statement}
use Rattle.psm_session.specs.Statement.{Checked}
use Rattle.psm_program.specs.Script.{Step, Runs}
use Rattle.psm_words.specs.declared.command.Command.{Command}
use Rattle.psm_words.specs.declared.command.Command.TheVariants.{Run, Check, Demo}
use Rattle.psm_words.specs.declared.command.TheConstants.{DEFAULT_BUDGET}

-- what a command does with the statement that begins at a token
abbrev pub Does : Command → Lexing → Step Plain
Does (Run options) lexing at before reply to after = (at < length lexing.tokens) ×
    Statement options.budget lexing at before reply to after
Does Check lexing at before reply to after = (at < length lexing.tokens) ×
    Checked lexing at before reply to after
Does (Demo options) lexing at before reply to after = (at < length lexing.tokens) ×
    Statement DEFAULT_BUDGET lexing at before reply to after

-- what a command writes behind the replies, over the database that they leave: its dump, where that
-- is asked for
abbrev pub ending : Command → Plain → List ℕ
ending (Run options) after = if options.dump then dump_text after else []
ending Check after = []
ending (Demo options) after = []

-- to the command the bytes are a script with these replies, and it leaves this database
pub record Script (command : Command) (bytes : List ℕ) (before : Plain) (replies : List (List ℕ))
    (after : Plain) : Type 0 where
  pub lexing : Lexing
  pub lexed : IsTokens bytes lexing
  pub ran : Runs (Does command lexing) 0 before replies (length lexing.tokens) after

-- ---- which script a command has

-- the script of a command, where the source has `left`: all that it has; for the demo it is made
abbrev pub HasScript : Command → Option (List ℕ) → List ℕ → Type 0
HasScript (Run options) left script = left ≡ Some script
HasScript Check left script = left ≡ Some script
HasScript (Demo options) left script = script ≡ demo_text options.seed options.rows

-- how a command came to its script: the source was read to its end; for the demo it is as it was
abbrev pub IsGiven : Command → Option (List ℕ) → Option (List ℕ) → List ℕ → Type 0
IsGiven (Run options) left left' script = ReadsWhole left left' script
IsGiven Check left left' script = ReadsWhole left left' script
IsGiven (Demo options) left left' script =
    (script ≡ demo_text options.seed options.rows) × (left' ≡ left)

-- the reads that took nothing, where a run began: the one that found the end; none for the demo
abbrev pub EndsReading : Command → ℕ → ℕ → Type 0
EndsReading (Run options) before now = now ≡ before + 1
EndsReading Check before now = now ≡ before + 1
EndsReading (Demo options) before now = now ≡ before
