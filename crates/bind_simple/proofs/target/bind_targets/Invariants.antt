use Rattle.std.proofs.Common.{◌≡◌, take, drop}
use Rattle.bind_faults.specs.Faults.{noted}
use Rattle.bind_simple.specs.Places.{place_by}
use Rattle.bind_simple.specs.Values.{targets_at, targets_faults}
use Rattle.bind_simple.proofs.target.bind_targets.Given as goal

abbrev pub invariant-loop-ident : goal.invariant-loop-ident
invariant-loop-ident l = record {
  value : l.targets ≡ targets_at (take l.ident-index l.idents) (place_by l.place);
  faults : noted l.least (targets_faults (drop l.ident-index l.idents) (place_by l.place)) ≡
      noted l.initial.least (targets_faults l.idents (place_by l.place));
}
