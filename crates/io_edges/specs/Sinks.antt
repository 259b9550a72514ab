-- What the sinks tell of themselves.
use Rattle.std.specs.Prelude.{◌≡◌, ℕ, ◌-◌, ◌≤◌, ◌==◌, ◌&&◌, ◌||◌, Bool, true, false, not, min}
use Rattle.std.specs.Prelude.{length, Option, Some, Result, MatchResult}
use Rattle.io_edges.specs.Course.{Course, course_of, fails_now}
use Rattle.io_edges.specs.TakenBytes.{TakenBytes, IsWithin}
use Rattle.io_edges.specs.declared.memory.MemSink.{MemSink}
use Rattle.io_edges.specs.declared.standard.StdSink.{StdSink}

-- the bytes that a sink in memory took, and how many of them it flushed
abbrev pub mem_told : MemSink → Option TakenBytes
mem_told s = Some (record { bytes = s.bytes.items; flushed = s.flushed })

-- which of its calls fail
abbrev pub mem_sink_course : MemSink → Course
mem_sink_course s = course_of s.calls

-- how many of its calls failed
abbrev pub mem_sink_faults : MemSink → ℕ
mem_sink_faults s = s.faults

-- how many bytes it takes in all
abbrev pub mem_sink_room : MemSink → ℕ
mem_sink_room s = s.room

-- how many more it takes
abbrev pub mem_room_left : MemSink → ℕ
mem_room_left s = mem_sink_room s - length s.bytes.items

-- It flushed no more than it took,
pub mem_within : (s : MemSink) → IsWithin (mem_told s)
mem_within s = s.flushed_within

-- and took no more than it has room for.
pub mem_fits : (s : MemSink) → length s.bytes.items ≤ mem_sink_room s
mem_fits s = s.bytes_within

-- how many calls of a sink over std failed
abbrev pub std_sink_faults : {W : Type 0} → StdSink W → ℕ
std_sink_faults s = s.faults

-- the writer below it
abbrev pub writer_of : {W : Type 0} → StdSink W → W
writer_of s = s.inner

-- a write fails where it is listed, and where it has bytes and room is left for none
abbrev pub write_fails : Course → ℕ → ℕ → Bool
write_fails c left there = fails_now c || (left == 0 && not (there == 0))

-- any other takes what the piece has, up to the room that is left and to the most that a call takes
abbrev pub write_takes : Course → ℕ → ℕ → ℕ
write_takes c left there = min (min there left) c.per_call

-- a write of so many bytes, where room is left for so many: it fails exactly where `write_fails`
-- says so, and else takes what `write_takes` says
abbrev pub MemWrites : {E : Type 0} → Course → ℕ → ℕ → Result ℕ E → Type 0
MemWrites c left there r = MatchResult r
    (λ n. (write_fails c left there ≡ false) × (n ≡ write_takes c left there))
    (λ _. write_fails c left there ≡ true)

-- a flush fails exactly where it is listed
abbrev pub MemFlushes : {T E : Type 0} → Course → Result T E → Type 0
MemFlushes c r = MatchResult r (λ _. fails_now c ≡ false) (λ _. fails_now c ≡ true)
