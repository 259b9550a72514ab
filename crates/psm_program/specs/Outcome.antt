-- How far a run over a step came: what was written, and the database that is left. `told` and
-- `told'` are what the sink tells before and after, and `ending` is what is written behind the
-- replies, over the database that they leave.
use Rattle.std.specs.Prelude.{◌≡◌, ◌⊎◌, ℕ, Bool, true, false, List, [], ◌∷◌, ◌++◌, Option}
use Rattle.io_edges.specs.TakenBytes.{TakenBytes, Takes, TakesFlushed}
use Rattle.program_status.specs.Replies.{is_exception}
use Rattle.psm_program.specs.Script.{Step, Runs, whole, has_exception}
use Rattle.program_status.specs.Writing.{IsProperFront, TakesFront}
use Rattle.psm_program.specs.declared.run.Interruption.{Interruption}
use Rattle.psm_program.specs.declared.run.Interruption.TheVariants as stop
use Rattle.program_status.specs.declared.status.Status.{Status}
use Rattle.program_status.specs.declared.status.Status.TheVariants.{Done, DoneWithExceptions}
use Rattle.program_status.specs.declared.status.Status.TheVariants.{WriteFault, NoMemory}

-- the first statements, up to a place: their replies were written
pub record RanTo {D : Type 0} (step : Step D) (to : ℕ) (told told' : Option TakenBytes)
    (before after : D) (excepts : Bool) : Type 0 where
  pub replies : List (List ℕ)
  pub ran : Runs step 0 before replies to after
  pub kind : has_exception replies ≡ excepts
  pub written : Takes told told' (whole replies)

-- one statement: its reply was written
pub record Stepped {D : Type 0} (step : Step D) (at to : ℕ) (told told' : Option TakenBytes)
    (before after : D) (excepts : Bool) : Type 0 where
  pub reply : List ℕ
  pub ran : step at before reply to after
  pub kind : is_exception reply ≡ excepts
  pub written : Takes told told' reply

-- one statement: a front of its reply was written, and not all of it
pub record StepCut {D : Type 0} (step : Step D) (at : ℕ) (told told' : Option TakenBytes)
    (before after : D) : Type 0 where
  pub reply : List ℕ
  pub to : ℕ
  pub ran : step at before reply to after
  pub front : List ℕ
  pub cut : IsProperFront front reply
  pub written : Takes told told' front

-- the first statements: their replies were written whole, and nothing else
pub record FirstFew {D : Type 0} (step : Step D) (told told' : Option TakenBytes)
    (before after : D) : Type 0 where
  pub replies : List (List ℕ)
  pub to : ℕ
  pub ran : Runs step 0 before replies to after
  pub written : Takes told told' (whole replies)

-- the first statements: their replies were written, but not all of the last one
pub record CutInReply {D : Type 0} (step : Step D) (told told' : Option TakenBytes)
    (before after : D) : Type 0 where
  pub replies : List (List ℕ)
  pub reply : List ℕ
  pub to : ℕ
  pub ran : Runs step 0 before (replies ++ reply ∷ []) to after
  pub front : List ℕ
  pub cut : IsProperFront front reply
  pub written : Takes told told' (whole replies ++ front)

-- all statements up to the end: their replies were written, and a front of what stands behind
-- them, but not all of it
pub record CutInEnding {D : Type 0} (step : Step D) (end : ℕ) (ending : D → List ℕ)
    (told told' : Option TakenBytes) (before after : D) : Type 0 where
  pub replies : List (List ℕ)
  pub ran : Runs step 0 before replies end after
  pub front : List ℕ
  pub cut : IsProperFront front (ending after)
  pub written : Takes told told' (whole replies ++ front)

-- all statements up to the end: their replies were written, and what stands behind them, and none
-- of it is flushed
pub record Unflushed {D : Type 0} (step : Step D) (end : ℕ) (ending : D → List ℕ)
    (told told' : Option TakenBytes) (before after : D) : Type 0 where
  pub replies : List (List ℕ)
  pub ran : Runs step 0 before replies end after
  pub written : Takes told told' (whole replies ++ ending after)

-- all statements up to the end: their replies were written, and what stands behind them, and all of
-- it is flushed
pub record Completes {D : Type 0} (step : Step D) (end : ℕ) (ending : D → List ℕ)
    (told told' : Option TakenBytes) (before after : D) (excepts : Bool) : Type 0 where
  pub replies : List (List ℕ)
  pub ran : Runs step 0 before replies end after
  pub kind : has_exception replies ≡ excepts
  pub written : TakesFlushed told told' (whole replies ++ ending after)

-- what was written of a run that the sink stopped: not all of a reply, not all of what stands
-- behind the replies, or all of it, with the flush refused
abbrev pub IsCut : {D : Type 0} → Step D → ℕ → (D → List ℕ) → Option TakenBytes →
    Option TakenBytes → D → D → Type 0
IsCut step end ending told told' before after = CutInReply step told told' before after ⊎
    (CutInEnding step end ending told told' before after ⊎
    Unflushed step end ending told told' before after)

-- why one statement stopped the run
abbrev pub StepStopped : {D : Type 0} → Interruption → Step D → ℕ → Option TakenBytes →
    Option TakenBytes → D → D → Type 0
StepStopped stop.Write step at told told' before after = StepCut step at told told' before after
StepStopped stop.Memory step at told told' before after = (told' ≡ told) × (after ≡ before)

-- why the statements stopped, and what was written by then
abbrev pub Stopped : {D : Type 0} → Interruption → Step D → Option TakenBytes → Option TakenBytes →
    D → D → Type 0
Stopped stop.Write step told told' before after = CutInReply step told told' before after
Stopped stop.Memory step told told' before after = FirstFew step told told' before after

-- why what stands behind the replies was not written whole
abbrev pub EndingStopped : Interruption → List ℕ → Option TakenBytes → Option TakenBytes → Type 0
EndingStopped stop.Write text told told' = TakesFront told told' text
EndingStopped stop.Memory text told told' = told' ≡ told

-- the end of a run whose replies are all written, by the text that stands behind them, at each
-- status
abbrev pub Closes : Bool → List ℕ → Option TakenBytes → Option TakenBytes → Status → Type 0
Closes excepts text told told' Done = (excepts ≡ false) × TakesFlushed told told' text
Closes excepts text told told' DoneWithExceptions = (excepts ≡ true) × TakesFlushed told told' text
Closes excepts text told told' WriteFault = TakesFront told told' text ⊎ Takes told told' text
Closes excepts text told told' NoMemory = told' ≡ told
Closes excepts text told told' _ = ⊥

-- a run, at each status
abbrev pub Ends : {D : Type 0} → Step D → ℕ → (D → List ℕ) → Option TakenBytes →
    Option TakenBytes → D → D → Status → Type 0
Ends step end ending told told' before after Done =
    Completes step end ending told told' before after false
Ends step end ending told told' before after DoneWithExceptions =
    Completes step end ending told told' before after true
Ends step end ending told told' before after WriteFault =
    IsCut step end ending told told' before after
Ends step end ending told told' before after NoMemory = FirstFew step told told' before after
Ends step end ending told told' before after _ = ⊥
