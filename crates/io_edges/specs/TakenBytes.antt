-- What a sink tells of the bytes that it took.
use Rattle.std.specs.Prelude.{◌≡◌, ℕ, ◌<◌, ◌≤◌, List, [], ◌++◌, length, take, Option, None, Some}
use Rattle.std.specs.Prelude.{Result, MatchResult, IfSome, ⊤}

-- the bytes taken so far, and how many of them are flushed
pub record TakenBytes : Type 0 where
  pub bytes : List ℕ
  pub flushed : ℕ

-- before the first call
abbrev pub nothing_taken : TakenBytes
nothing_taken = record { bytes = []; flushed = 0 }

-- so many bytes more are taken
abbrev pub with_bytes : TakenBytes → List ℕ → TakenBytes
with_bytes t bs = record { bytes = t.bytes ++ bs; flushed = t.flushed }

-- all that was taken is flushed
abbrev pub all_flushed : TakenBytes → TakenBytes
all_flushed t = record { bytes = t.bytes; flushed = length t.bytes }

-- where it is told, these bytes were taken, and none was flushed
abbrev pub Takes : Option TakenBytes → Option TakenBytes → List ℕ → Type 0
Takes None new bs = ⊤
Takes (Some t) new bs = new ≡ Some (with_bytes t bs)

-- where it is told, all that was taken is flushed
abbrev pub Flushes : Option TakenBytes → Option TakenBytes → Type 0
Flushes None new = ⊤
Flushes (Some t) new = new ≡ Some (all_flushed t)

-- where it is told, it is as before
abbrev pub Stays : Option TakenBytes → Option TakenBytes → Type 0
Stays None new = ⊤
Stays (Some t) new = new ≡ Some t

-- `write(piece)` took the first n bytes of the piece at `Ok(n)`, and nothing at `Err`
abbrev pub WriteTakes : {E : Type 0} → Option TakenBytes → Option TakenBytes → Result ℕ E → List ℕ →
    Type 0
WriteTakes old new r piece = MatchResult r (λ n. Takes old new (take n piece)) (λ _. Stays old new)

-- at `Ok(n)`, n is at most the length of the piece, and at least 1 where the piece has a byte
abbrev pub WritesSome : {E : Type 0} → Result ℕ E → List ℕ → Type 0
WritesSome r piece = MatchResult r (λ n. (n ≤ length piece) × (0 < length piece → 0 < n)) (λ _. ⊤)

-- `flush` flushed all at `Ok`, and nothing at `Err`
abbrev pub FlushTells : {T E : Type 0} → Option TakenBytes → Option TakenBytes → Result T E → Type 0
FlushTells old new r = MatchResult r (λ _. Flushes old new) (λ _. Stays old new)

-- no more is flushed than was taken
abbrev pub IsWithin : Option TakenBytes → Type 0
IsWithin told = IfSome told (λ t. t.flushed ≤ length t.bytes)

-- A sink that tells nothing tells no more flushed than taken.
pub nothing_told : IsWithin None
nothing_told = tt

-- where it is told, these bytes were taken, and all that was taken is flushed
abbrev pub TakesFlushed : Option TakenBytes → Option TakenBytes → List ℕ → Type 0
TakesFlushed None new bs = ⊤
TakesFlushed (Some t) new bs = new ≡ Some (all_flushed (with_bytes t bs))
