-- What reading a script took of the source.
use Rattle.std.specs.Prelude.{◌≡◌, ◌≤◌, ◌+◌, ℕ, List, length, Option, Result, Ok, Err}
use Rattle.std.specs.Io.KnownBytes.{Consumes, IsAtEnd}
use Rattle.program_status.specs.declared.read.ReadEnd.{ReadEnd}
use Rattle.program_status.specs.declared.read.ReadEnd.TheVariants.{Fault, TooLong, Memory}
use Rattle.program_status.specs.declared.read.TheConstants.{LIMIT}

-- the source was read to its end, and the script is what it gave
pub record ReadsWhole (left left' : Option (List ℕ)) (script : List ℕ) : Type 0 where
  pub bytes : Consumes left left' script
  pub end : IsAtEnd left'
  pub size : length script ≤ LIMIT

-- bytes were taken, and their number is such
abbrev pub TakesCount : Option (List ℕ) → Option (List ℕ) → (ℕ → Type 0) → Type 0
TakesCount left left' P = (bs : List ℕ) × Consumes left left' bs × P (length bs)

-- how many bytes a reading took that ended otherwise
abbrev pub StopsBy : Option (List ℕ) → Option (List ℕ) → ReadEnd → Type 0
StopsBy left left' TooLong = TakesCount left left' (λ n. n ≡ LIMIT + 1)
StopsBy left left' _ = TakesCount left left' (λ n. n ≤ LIMIT)

-- How many reads took nothing: the one that found the end, or that failed. None is made where room
-- is lacking, or past the limit.
abbrev pub empty_reads_by : {T : Type 0} → Result T ReadEnd → ℕ
empty_reads_by (Ok text) = 1
empty_reads_by (Err Fault) = 1
empty_reads_by (Err TooLong) = 0
empty_reads_by (Err Memory) = 0
