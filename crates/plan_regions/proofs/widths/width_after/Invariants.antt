use Rattle.std.proofs.Common.{◌≡◌, drop}
use Rattle.plan_regions.specs.Regions.{kept_width}
use Rattle.plan_regions.proofs.widths.width_after.Given as goal

abbrev pub invariant-loop-node : goal.invariant-loop-node
invariant-loop-node l = kept_width (drop l.node-index l.nodes) l.wide ≡ kept_width l.nodes l.width
