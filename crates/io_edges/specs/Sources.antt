-- What the sources tell of themselves.
use Rattle.std.specs.Prelude.{ℕ, List, Option, Some, drop}
use Rattle.io_edges.specs.Course.{Course, course_of}
use Rattle.io_edges.specs.EmptyReads.{count_of}
use Rattle.io_edges.specs.declared.memory.MemSource.{MemSource}
use Rattle.io_edges.specs.declared.sure.SureSource.{SureSource}
use Rattle.io_edges.specs.declared.standard.StdSource.{StdSource}

-- the bytes that a source in memory has not given yet
abbrev pub mem_bytes_left : MemSource → List ℕ
mem_bytes_left s = drop s.at s.bytes.items

-- it tells them
abbrev pub mem_left : MemSource → Option (List ℕ)
mem_left s = Some (mem_bytes_left s)

-- which of its calls fail
abbrev pub mem_source_course : MemSource → Course
mem_source_course s = course_of s.calls

-- how many of its calls failed
abbrev pub mem_source_faults : MemSource → ℕ
mem_source_faults s = s.faults

-- how many of its reads took nothing
abbrev pub mem_empty_reads : MemSource → ℕ
mem_empty_reads s = count_of s.empty

-- the bytes that a source that never fails has not given yet
abbrev pub sure_bytes_left : SureSource → List ℕ
sure_bytes_left s = drop s.at s.bytes.items

-- it tells them
abbrev pub sure_left : SureSource → Option (List ℕ)
sure_left s = Some (sure_bytes_left s)

-- how many of its reads took nothing
abbrev pub sure_empty_reads : SureSource → ℕ
sure_empty_reads s = count_of s.empty

-- how many calls of a source over std failed
abbrev pub std_source_faults : {R : Type 0} → StdSource R → ℕ
std_source_faults s = s.faults

-- how many of its reads took nothing
abbrev pub std_empty_reads : {R : Type 0} → StdSource R → ℕ
std_empty_reads s = count_of s.empty

-- the reader below it
abbrev pub reader_of : {R : Type 0} → StdSource R → R
reader_of s = s.inner
