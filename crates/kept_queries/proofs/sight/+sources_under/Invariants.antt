use Rattle.std.proofs.Common.{length}
use Rattle.kept_queries.proofs.sight.+sources_under.Given as goal

abbrev pub decreases-sources_under : goal.decreases-sources_under
decreases-sources_under l = length l.rows.now
