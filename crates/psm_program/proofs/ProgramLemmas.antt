-- Laws on what a call of the program says of its edges.
use Rattle.std.proofs.Common.{◌≡◌, ℕ, ◌≤◌, ◌+◌, List, [], ◌++◌, refl, sym, ◌∙◌, ap, subst, arith}
use Rattle.std.proofs.Common.{length, length-append, append-nil, ◌⊎◌, inl, inr}
use Rattle.std.specs.Prelude.{Option, Some, None}
use Rattle.std.specs.Io.KnownBytes.{Consumes}
use Rattle.io_edges.specs.TakenBytes.{TakenBytes}
use Rattle.io_edges.proofs.Laws.{Takes-nil}
use Rattle.psm_effects.specs.Database.{Plain}
use Rattle.program_status.specs.Reading.{ReadsWhole, TakesCount}
use Rattle.psm_program.specs.Session.{HasScript, IsGiven}
use Rattle.psm_program.specs.Whole.{EndsOn}
use Rattle.psm_words.specs.declared.command.Command.{Command}
use Rattle.psm_words.specs.declared.command.Command.TheVariants.{Run, Check, Demo}
use Rattle.program_status.specs.declared.read.TheConstants.{LIMIT}
use Rattle.program_status.specs.declared.status.Status.{Status}
use Rattle.program_status.specs.declared.status.Status.TheVariants.{NoMemory, ScriptTooLong}
use Rattle.psm_program.proofs.LowerLaws.{some_lexing}

-- the command that was found is the one that the words are
pub same_command : (found words : Option Command) (k command : Command) → found ≡ words →
    found ≡ Some k → words ≡ Some command → k ≡ command
same_command found words k command is some taken =
    let e : Some k ≡ Some command = sym some ∙ is ∙ taken in cc

pub no_command : (found words : Option Command) (command : Command) → found ≡ words → found ≡ None →
    words ≡ Some command → ⊥
no_command found words command is none taken =
    let e : None ≡ Some command = sym none ∙ is ∙ taken in cc

-- before anything was run
pub none_ran : (command : Command) (script : List ℕ) (told : Option TakenBytes) (db : Plain) →
    EndsOn command script told told db db NoMemory
none_ran command script told db =
    let t = some_lexing script in
    record {
      lexing = t.0;
      lexed = t.1;
      ends =
          record { replies = []; to = 0; ran = (refl, refl); written = Takes-nil told };
    }

-- ---- the script of a command

-- the source, read to its end, had the script
read_whole : (left left' : Option (List ℕ)) (xs script : List ℕ) → left ≡ Some xs →
    ReadsWhole left left' script → xs ≡ script
read_whole left None xs script is r =
    let bad : Consumes (Some xs) None script =
    subst (λ (o : Option (List ℕ)). Consumes o None script) is r.bytes in absurd bad
read_whole left (Some ys) xs script is r =
    let used : xs ≡ script ++ ys = subst (λ (o : Option (List ℕ)). Consumes o (Some ys) script) is
    r.bytes in
    used ∙ ap (λ z. script ++ z) r.end ∙ append-nil script

-- the script that a command has is the one that it was given
pub script_is : (command : Command) (left left' : Option (List ℕ)) (xs script : List ℕ) →
    HasScript command left xs → IsGiven command left left' script → xs ≡ script
script_is (Run options) left left' xs script is g = read_whole left left' xs script is g
script_is Check left left' xs script is g = read_whole left left' xs script is g
script_is (Demo options) left left' xs script is g = is ∙ sym g.0

-- how many bytes were taken, from what was left before and after
pub taken : (left left' : Option (List ℕ)) (bytes rest bs : List ℕ) → left ≡ Some (bytes ++ rest) →
    left' ≡ Some rest → Consumes left left' bs → length bs ≡ length bytes
taken left left' bytes rest bs before now used =
    let one : Consumes (Some (bytes ++ rest)) left' bs =
    subst (λ (o : Option (List ℕ)). Consumes o left' bs) before used in
    let both : Consumes (Some (bytes ++ rest)) (Some rest) bs =
    subst (λ (o : Option (List ℕ)). Consumes (Some (bytes ++ rest)) o bs) now one in
    omega (arith, length-append bytes rest, length-append bs rest, ap length both)

-- where one byte more than the limit was taken, the script was too long
pub too_long_there : (left left' : Option (List ℕ)) (status : Status) → (status ≡ ScriptTooLong) ⊎
    TakesCount left left' (λ n. n ≤ LIMIT)
    → (bytes rest : List ℕ) → left ≡ Some (bytes ++ rest) → left' ≡ Some rest →
    length bytes ≡ LIMIT + 1 → status ≡ ScriptTooLong
too_long_there left left' status (inl long) bytes rest before now size = long
too_long_there left left' status (inr few) bytes rest before now size =
    let same : length few.0 ≡ length bytes = taken left left' bytes rest few.0 before now few.1 in
    absurd (omega (arith, few.2))

-- where none was taken, there are no bytes between
pub none_taken : (left : Option (List ℕ)) (bytes rest : List ℕ) → left ≡ Some (bytes ++ rest) →
    left ≡ Some rest → length bytes ≡ 0
none_taken left bytes rest before now =
    let e : Some (bytes ++ rest) ≡ Some rest = sym before ∙ now in
    let same : bytes ++ rest ≡ rest = cc in
    omega (arith, length-append bytes rest, ap length same)
