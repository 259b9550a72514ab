-- How a call ends whose replies are all written.
use Rattle.std.specs.Prelude.{◌≡◌, Bool, true, false, [], Option}
use Rattle.io_edges.specs.TakenBytes.{TakenBytes, Takes, TakesFlushed}
use Rattle.program_status.specs.declared.status.Status.{Status}
use Rattle.program_status.specs.declared.status.Status.TheVariants.{Done, DoneWithExceptions}
use Rattle.program_status.specs.declared.status.Status.TheVariants.{WriteFault}

-- the flush after all replies, at each status: 0 and 1 say whether one told of an exception, and 4
-- that nothing was flushed
abbrev pub Finishes : Bool → Option TakenBytes → Option TakenBytes → Status → Type 0
Finishes excepts told told' Done = (excepts ≡ false) × TakesFlushed told told' []
Finishes excepts told told' DoneWithExceptions = (excepts ≡ true) × TakesFlushed told told' []
Finishes excepts told told' WriteFault = Takes told told' []
Finishes excepts told told' _ = ⊥
