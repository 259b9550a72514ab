use Rattle.std.proofs.Common.{◌≡◌, false, length, take}
use Rattle.std.specs.List.{list_any}
use Rattle.plan_keys.specs.Reading.{link_reads}
use Rattle.plan_keys.proofs.SameRows.{code_reads}
use Rattle.plan_keys.proofs.reading.+reading.Given as goal

abbrev pub invariant-any_reads-loop-scalar : goal.invariant-any_reads-loop-scalar
invariant-any_reads-loop-scalar l = record {
  none : list_any code_reads (take l.scalar-index l.scalars) ≡ false;
  end : l.scalar-index-end ≡ length l.scalars;
}

abbrev pub invariant-links_read-loop-link : goal.invariant-links_read-loop-link
invariant-links_read-loop-link l = record {
  none : list_any link_reads (take l.link-index l.links) ≡ false;
  end : l.link-index-end ≡ length l.links;
}
