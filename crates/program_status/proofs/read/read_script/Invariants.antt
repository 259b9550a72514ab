use Rattle.std.proofs.Common.{◌≡◌, ◌≤◌, ◌+◌, ◌-◌, length}
use Rattle.std.specs.Io.KnownBytes.{Consumes}
use Rattle.program_status.specs.declared.read.TheConstants.{LIMIT}
use Rattle.program_status.proofs.read.read_script.Given as goal

abbrev pub invariant-loop-text : goal.invariant-loop-text
invariant-loop-text g l = record {
  bytes : Consumes (g.S.Source.left l.fn.src) (g.S.Source.left l.src) l.text.items;
  size : length l.text.items ≤ LIMIT + 1;
  none_empty : g.S.Source.empty_reads l.src ≡ g.S.Source.empty_reads l.fn.src;
  later : g.S.Source.faults l.fn.src ≤ g.S.Source.faults l.src;
}

abbrev pub decreases-loop-text : goal.decreases-loop-text
decreases-loop-text g l = LIMIT + 1 - length l.text.items
