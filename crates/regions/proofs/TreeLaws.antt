-- What holds of every function in form over expressions and queries, as of every body whose leaves
-- are right.
use Rattle.regions.specs.Theorem.{CallsByRegion, Inlines, InlinesWith, Regions, WellFormedInlines}
use Rattle.regions.specs.Tree.{Body}
use Rattle.regions.specs.TreeBodies.{routine_body}
use Rattle.rel_algebra.proofs.BodyCalls as calls
use Rattle.rel_algebra.proofs.BodyChain as chain
use Rattle.rel_algebra.proofs.BodyFits.{well_formed}
use Rattle.rel_algebra.proofs.BodyRemovals.{chain_over_unit, chain_removable}
use Rattle.regions.proofs.Trees.{routine_fits, routine_removable, routine_right}

pub inlines_with : InlinesWith
inlines_with (Body types returns s) w o params values fits formed l h =
    chain.inlines_with (routine_body (Body types returns s)) w o params values
    (routine_right (Body types returns s) w fits formed) l h

pub inlines : Inlines
inlines (Body types returns s) w o fits formed l =
    chain.inlines (routine_body (Body types returns s)) w o
    (routine_right (Body types returns s) w fits formed) l

pub regions : Regions
regions = record {
  chain = λ r S params. chain_over_unit (routine_body r) S params;
  removable = λ r S params s. chain_removable (routine_body r) S params (routine_removable r S s);
}

pub well_formed_inlines : WellFormedInlines
well_formed_inlines (Body types returns s) S params ws ps shaped p c =
    well_formed (routine_body (Body types returns s)) S params ws ps
    (routine_fits (Body types returns s) S shaped) p c

pub calls_by_region : CallsByRegion
calls_by_region (Body types returns s) w o z cs m k fits formed kp lz lc =
    calls.calls_by_region (routine_body (Body types returns s)) w o z cs m k
    (routine_right (Body types returns s) w fits formed) kp lz lc
