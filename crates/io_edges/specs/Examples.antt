-- Worked rows of the definitions on calls and on what is told.
use Rattle.std.specs.Prelude.{◌≡◌, true, false, [], ◌∷◌, codes, refl, None, Some, Ok, Err}
use Rattle.io_edges.specs.Course.{Course, fails_now, one_later}
use Rattle.io_edges.specs.EmptyReads.{empty_by}
use Rattle.io_edges.specs.TakenBytes.{nothing_taken}
use Rattle.io_edges.specs.Events.{told_from}
use Rattle.io_edges.specs.Sinks.{write_fails, write_takes}
use Rattle.io_edges.specs.declared.source.Failed.{Failed}

-- the second call fails, and no other
pub only_second : Course
only_second = record { failing = 1 ∷ []; per_call = 5; calls = 0 }

-- Of the calls the second alone fails: the first goes,
pub first_goes : fails_now only_second ≡ false
unfolding only_second
first_goes = refl

-- the second fails,
pub second_fails : fails_now (one_later only_second) ≡ true
unfolding only_second
second_fails = refl

-- and the third goes again.
pub third_goes : fails_now (one_later (one_later only_second)) ≡ false
unfolding only_second
third_goes = refl

-- Where room is left for two bytes, a write of three takes two,
pub room_for_two : write_takes only_second 2 3 ≡ 2
unfolding only_second
room_for_two = refl

-- and is no fault.
pub two_are_taken : write_fails only_second 2 3 ≡ false
unfolding only_second
two_are_taken = refl

-- Where room is left for nine, one of eight takes the five that a call takes.
pub room_for_nine : write_takes only_second 9 8 ≡ 5
unfolding only_second
room_for_nine = refl

-- Where no room is left, a write of a byte fails,
pub no_room : write_fails only_second 0 1 ≡ true
unfolding only_second
no_room = refl

-- and one of no byte goes, and takes none.
pub nothing_to_take : write_fails only_second 0 0 ≡ false
unfolding only_second
nothing_to_take = refl

-- A call that is listed fails, with room too.
pub listed_with_room : write_fails (one_later only_second) 9 8 ≡ true
unfolding only_second
listed_with_room = refl

-- a read that gives two bytes took something; one that gives none, or fails, took nothing
pub two_bytes : empty_by {E = Failed} (Ok 2) ≡ 0
two_bytes = refl

-- A read that gives no byte took nothing,
pub the_end : empty_by {E = Failed} (Ok 0) ≡ 1
the_end = refl

-- and so did one that failed.
pub a_fault : (failed : Failed) → empty_by (Err failed) ≡ 1
a_fault failed = refl

-- two bytes, a flush, and a byte more
pub third_unflushed : told_from nothing_taken (Some 97 ∷ Some 98 ∷ None ∷ Some 99 ∷ []) ≡
    record { bytes = codes "abc"; flushed = 2 }
third_unflushed = refl
