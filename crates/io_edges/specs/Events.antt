-- What the sink that never fails tells: it is read off what happened to it, in order.
use Rattle.std.specs.Prelude.{ℕ, ◌≤◌, List, [], ◌∷◌, length, Option, None, Some}
use Rattle.std.proofs.Common.{arith, length-append}
use Rattle.io_edges.specs.TakenBytes.{TakenBytes, IsWithin, nothing_taken, with_bytes, all_flushed}
use Rattle.io_edges.specs.declared.sure.SureSink.{SureSink}

-- what is told after one event more: a byte was taken, or all was flushed
abbrev pub after_event : TakenBytes → Option ℕ → TakenBytes
after_event t (Some byte) = with_bytes t (byte ∷ [])
after_event t None = all_flushed t

-- what is told after these events
abbrev pub told_from : TakenBytes → List (Option ℕ) → TakenBytes
told_from t [] = t
told_from t (e ∷ events) = told_from (after_event t e) events

-- the bytes that the sink took, and how many of them it flushed
abbrev pub sure_told : SureSink → Option TakenBytes
sure_told s = Some (told_from nothing_taken s.events.items)

-- ---- no more is flushed than was taken

-- after one event more still no more is flushed than was taken,
within_after : (t : TakenBytes) (e : Option ℕ) → t.flushed ≤ length t.bytes →
    (after_event t e).flushed ≤ length (after_event t e).bytes
within_after t None within = omega arith
within_after t (Some byte) within = omega (arith, length-append t.bytes (byte ∷ []))

-- and so after any number of events,
within_from : (t : TakenBytes) (events : List (Option ℕ)) → t.flushed ≤ length t.bytes →
    (told_from t events).flushed ≤ length (told_from t events).bytes
within_from t [] within = within
within_from t (e ∷ events) within = within_from (after_event t e) events (within_after t e within)

-- and so of the sink that never fails.
pub sure_within : (s : SureSink) → IsWithin (sure_told s)
sure_within s = within_from nothing_taken s.events.items (omega arith)
