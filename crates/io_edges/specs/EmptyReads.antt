-- How many reads of a source took nothing.
use Rattle.std.specs.Prelude.{ℕ, zero, suc, length, Result, Ok, Err}
use Rattle.io_edges.specs.declared.empty.EmptyReads.{EmptyReads}

-- 1 where a read took no byte
abbrev pub one_if_none : ℕ → ℕ
one_if_none zero = 1
one_if_none (suc n) = 0

-- 1 where a read took nothing: it gave no byte, or it failed
abbrev pub empty_by : {E : Type 0} → Result ℕ E → ℕ
empty_by (Ok n) = one_if_none n
empty_by (Err e) = 1

-- the number that a value of `EmptyReads` stands for
abbrev pub count_of : EmptyReads → ℕ
count_of e = length e.log.items
