-- Operations that take memory, and what comes of their answers.
use Rattle.std.proofs.Common.{◌≡◌, Result, Ok, Err, ap}
use Rattle.sql_values.specs.declared.value.ValueFault.{ValueFault}
use Rattle.sql_values.specs.declared.value.ValueFault.TheVariants.{TooLong, OutOfRange, DivZero}
use Rattle.sql_values.specs.declared.value.ValueFault.TheVariants.{BadCast, BadSubstring, NoMemory}
use Rattle.sql_values.specs.Values.{Outcome, UnlessNoMemory}
use Rattle.rel_algebra.specs.Endings.{cell_end, ending_of}

-- what follows from what holds of an answer unless memory was wanting
pub UnlessNoMemory_then : {A : Type 0} {P Q : Type 0} (o : Result A ValueFault) → (P → Q) →
    UnlessNoMemory o P → UnlessNoMemory o Q
UnlessNoMemory_then (Ok v) f h = f h
UnlessNoMemory_then (Err TooLong) f h = f h
UnlessNoMemory_then (Err OutOfRange) f h = f h
UnlessNoMemory_then (Err DivZero) f h = f h
UnlessNoMemory_then (Err BadCast) f h = f h
UnlessNoMemory_then (Err BadSubstring) f h = f h
UnlessNoMemory_then (Err NoMemory) f h = h

-- what always holds of an answer
pub UnlessNoMemory_from : {A : Type 0} {P : Type 0} (o : Result A ValueFault) → P →
    UnlessNoMemory o P
UnlessNoMemory_from (Ok v) h = h
UnlessNoMemory_from (Err TooLong) h = h
UnlessNoMemory_from (Err OutOfRange) h = h
UnlessNoMemory_from (Err DivZero) h = h
UnlessNoMemory_from (Err BadCast) h = h
UnlessNoMemory_from (Err BadSubstring) h = h
UnlessNoMemory_from (Err NoMemory) h = tt

-- the cell of an answer is that of the definition
pub cell_as_defined : (o d : Outcome) → UnlessNoMemory o (o ≡ d) →
    UnlessNoMemory o (cell_end (ending_of o) ≡ cell_end (ending_of d))
cell_as_defined o d h = UnlessNoMemory_then o
    (λ (e : o ≡ d). ap (λ (x : Outcome). cell_end (ending_of x)) e) h
