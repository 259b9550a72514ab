-- What is told of a status: its number to the process that called, and its line to the user.
use Rattle.std.specs.Prelude.{◌≡◌, ℕ, List, [], ◌++◌, Option, codes}
use Rattle.io_edges.specs.Causes.{Rose}
use Rattle.io_edges.specs.TakenBytes.{TakenBytes, Takes}
use Rattle.program_status.specs.declared.status.Status.{Status}
use Rattle.program_status.specs.declared.status.Status.TheVariants.{Done, DoneWithExceptions, Usage}
use Rattle.program_status.specs.declared.status.Status.TheVariants.{ReadFault, WriteFault, NoMemory}
use Rattle.program_status.specs.declared.status.Status.TheVariants.{ScriptTooLong}

-- the number that the process ends with
abbrev pub number_of : Status → ℕ
number_of Done = 0
number_of DoneWithExceptions = 1
number_of Usage = 2
number_of ReadFault = 3
number_of WriteFault = 4
number_of NoMemory = 5
number_of ScriptTooLong = 6

-- the line for `err`
abbrev pub line_of : Status → List ℕ
line_of Done = []
line_of DoneWithExceptions = []
line_of Usage =
    codes "usage: psm run [--plain] [--budget N] [--dump] | psm check | psm demo --seed S --rows N\n"
line_of ReadFault = codes "psm: read failed\n"
line_of WriteFault = codes "psm: write failed\n"
line_of NoMemory = codes "psm: no memory\n"
line_of ScriptTooLong = codes "psm: script too long\n"

-- a front of the line was taken, and all of it where the count did not rise
pub record Tells (told told' : Option TakenBytes) (before now : ℕ) (line : List ℕ) : Type 0 where
  pub front : (front : List ℕ) × (rest : List ℕ) × (line ≡ front ++ rest) × Takes told told' front
  pub whole : (Rose before now → ⊥) → Takes told told' line
