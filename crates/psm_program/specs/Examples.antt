-- Worked rows of the definitions on replies and runs.
use Rattle.std.specs.Prelude.{◌≡◌, ◌+◌, ◌*◌, nat_lt, if◌then◌else◌, ℕ, true, false, [], ◌∷◌, codes}
use Rattle.std.specs.Prelude.{refl, Bool}
use Rattle.psm_words.specs.declared.command.Command.TheVariants.{Run, Check, Demo}
use Rattle.psm_effects.specs.Database.{Plain}
use Rattle.psm_session.specs.Dump.{dump_text}
use Rattle.psm_program.specs.Script.{Step, Runs, has_exception, whole}
use Rattle.psm_program.specs.Session.{ending}

-- replies of statements that ended well
pub no_exception : has_exception (codes "00000\n" ∷ codes "2,10\n00000 rows 1\n" ∷ []) ≡ false
no_exception = refl

-- one of two replies tells of an exception
pub an_exception : has_exception (codes "00000\n" ∷ codes "! 22012 division by zero\n" ∷ []) ≡ true
an_exception = refl

-- replies are joined as they are, with nothing between them
pub joined : whole (codes "00000\n" ∷ codes "02000 rows 0\n" ∷ []) ≡ codes "00000\n02000 rows 0\n"
joined = refl

-- a step that replies `a` below ten and `!` from there on, and doubles the number
abbrev pub doubles : Step ℕ
doubles at before reply to after = (reply ≡ (if nat_lt before 10 then codes "a" else codes "!")) ×
    (to ≡ at + 1) × (after ≡ before * 2)

-- from 5 it replies `a` once, and 40 is left
pub three_steps : Runs doubles 0 5 (codes "a" ∷ codes "!" ∷ codes "!" ∷ []) 3 40
three_steps = (
  1,
  10,
  (refl, refl, refl),
  (
    2,
    20,
    (refl, refl, refl),
    (3, 40, (refl, refl, refl), (refl, refl)),
  ),
)

-- a run of no statement leaves all as it was
pub no_step : Runs doubles 3 40 [] 3 40
no_step = (refl, refl)

-- Without a dump nothing stands behind the replies,
pub no_dump : (plain : Bool) (after : Plain) →
    ending (Run (record { budget = 5; dump = false; plain = plain })) after ≡ []
no_dump plain after = refl

-- with one the tables do,
pub a_dump : (plain : Bool) (after : Plain) →
    ending (Run (record { budget = 5; dump = true; plain = plain })) after ≡ dump_text after
a_dump plain after = refl

-- and neither a check nor the demo has one.
pub no_dump_of_demo : (after : Plain) → ending (Demo (record { seed = 0; rows = 2 })) after ≡ []
no_dump_of_demo after = refl

pub no_dump_of_check : (after : Plain) → ending Check after ≡ []
no_dump_of_check after = refl
