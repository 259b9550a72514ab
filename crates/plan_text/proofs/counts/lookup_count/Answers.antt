use Rattle.std.proofs.Common.{refl, sym, ap}
use Rattle.rel_algebra.specs.Applies.{counted}
use Rattle.plan_text.specs.NodeCounts.{is_lookup}
use Rattle.plan_text.proofs.Ways.{ways_none}
use Rattle.plan_text.proofs.counts.lookup_count.Goals as goal

pub returns : goal.returns
returns c = sym (ap counted (ways_none is_lookup refl c.args.plan.now))
