-- What holds of meanings and of plans, for the crates above.
use Rattle.rel_algebra.specs.RemovalLaws.{LocalRules, LookupRules, RegionRule, RemovedEven}
use Rattle.rel_algebra.specs.RemovalLaws.{RemovedFits, RemovedKinds, RemovedLeaves, RemovedMeans}
use Rattle.rel_algebra.specs.RemovalLaws.{RemovedSame, RenamedSame, RunOnce}
use Rattle.rel_algebra.specs.Arguments.{RemovedFree}
use Rattle.rel_algebra.proofs.Arguments.{remove_inside}
use Rattle.rel_algebra.proofs.Closed.{bad_key, closed_den, first_bad, meeting_append}
use Rattle.rel_algebra.proofs.Closed.{outer_condition, outer_null, own_condition, own_null}
use Rattle.rel_algebra.proofs.EvenRemoved.{remove_even}
use Rattle.rel_algebra.proofs.FitsRemoved.{fits_even, remove_fits}
use Rattle.rel_algebra.proofs.KindsRemoved.{remove_kinds}
use Rattle.rel_algebra.proofs.Regions.{region_gives}
use Rattle.rel_algebra.proofs.Removed.{remove_same}
use Rattle.rel_algebra.proofs.Renamed.{den_renamed}
use Rattle.rel_algebra.proofs.Rules.{cell_rule, keep_filter, late_rule}
use Rattle.rel_algebra.proofs.Staying.{remove_left}
use Rattle.rel_algebra.proofs.Widening.{lookup_means, lookup_rule}
-- What queries, functions and changes mean.
pub use Rattle.rel_algebra.proofs.Induction.{means, means_under}
pub use Rattle.rel_algebra.proofs.Passing.{means_within, means_passing, means_asked}
pub use Rattle.rel_algebra.proofs.Passing.{function_plans, returned_means}
pub use Rattle.rel_algebra.proofs.Changes.{changes_run, stored_in-all}
-- Blocks.
pub use Rattle.rel_algebra.proofs.Blocks.{call_meant, into_right, width_alike}
pub use Rattle.rel_algebra.proofs.BlockWorlds.{Each, ExprGives, QueryGives, call_gives}
pub use Rattle.rel_algebra.proofs.BodyKindsRoutines.{well_kinded}
pub use Rattle.rel_algebra.proofs.KindTrees.{stmt_kinds}
pub use Rattle.rel_algebra.proofs.BodyHeld.{AllHold, BranchesHold, HandlersHold, Holds}
pub use Rattle.rel_algebra.proofs.BodyHeld.{PerhapsHolds, VariablesHold}
pub use Rattle.rel_algebra.proofs.BodyLasts.{QueryLasts, ValueLasts, coded_last, declares_last}
pub use Rattle.rel_algebra.proofs.BodyLasts.{stmt_lasts}
-- Plans of queries.
pub use Rattle.rel_algebra.proofs.Kept.{kept_tables_fit}
pub use Rattle.rel_algebra.proofs.Merging.{merged_plans}
pub use Rattle.rel_algebra.proofs.Lasting.{expr_lasts, fold_lasts, lasting_plans, plan_lasts}
pub use Rattle.rel_algebra.proofs.Within.{closed_plans}
pub use Rattle.rel_algebra.proofs.Fitting.{well_formed_plans}
pub use Rattle.rel_algebra.proofs.Removable.{removable_plans}
pub use Rattle.rel_algebra.proofs.KindTrees.{kinded_plans}
-- Plans from which the Applies are removed.
pub use Rattle.rel_algebra.proofs.Bound.{work_bound}
pub use Rattle.rel_algebra.proofs.Even.{rows_long}
pub use Rattle.rel_algebra.proofs.Simple.{none_left}
pub use Rattle.rel_algebra.proofs.Chains.{Given, InputRemovable, nested_folded, nested_removable}
pub use Rattle.rel_algebra.proofs.Counts.{all_count}
pub use Rattle.rel_algebra.proofs.Fitting.{FoldedFits, expr_fits, fold_fits, into_fits, query_fits}
pub use Rattle.rel_algebra.proofs.FittingNodes.{EnvFits, Fit, check_fits, if_values_fits, join_fits}
pub use Rattle.rel_algebra.proofs.FittingNodes.{lt_less, on_each_fits, places_fit, scalar_more}
pub use Rattle.rel_algebra.proofs.FittingNodes.{scalars_more}
pub use Rattle.rel_algebra.proofs.Folding.{FoldsAs, FoldedRight, fold_cells, finished_long}
pub use Rattle.rel_algebra.proofs.Folding.{first_cell}
pub use Rattle.rel_algebra.proofs.Growing.{grows_same, grown_column, grown_columns, shown_long}
pub use Rattle.rel_algebra.proofs.Growing.{Grows, grows_at, shown_at, grows_by, first_columns}
pub use Rattle.rel_algebra.proofs.Growing.{grows_trans, only_at}
pub use Rattle.rel_algebra.proofs.Induction.{expr_right, query_folds, query_means}
pub use Rattle.rel_algebra.proofs.Moves.{NotGiven}
pub use Rattle.rel_algebra.proofs.Nodes.{on_each_den, added_grows, Reads, Yields, added_join}
pub use Rattle.rel_algebra.proofs.Nodes.{added_long, wider, cells_long}
pub use Rattle.rel_algebra.proofs.Passing.{expr_gives, expr_is, ending_body, query_gives}
pub use Rattle.rel_algebra.proofs.Passing.{query_is}
pub use Rattle.rel_algebra.proofs.Planned.{Plans, QueryPlans, plans, query_plans}
pub use Rattle.rel_algebra.proofs.Removable.{PartsOk, expr_ok, into_ok, query_ok, fold_ok}
pub use Rattle.rel_algebra.proofs.Rows.{AreCells, are_cells, shown_append, WideEnd}
pub use Rattle.rel_algebra.proofs.Truths.{and_true, left_true, right_true}
pub use Rattle.rel_algebra.proofs.Wide.{LongEnd, answer_wide}
pub use Rattle.rel_algebra.proofs.Widths.{Even, on_each_width, plan_width, width_join, width_more}
pub use Rattle.rel_algebra.proofs.Words.{assigning_cell, checks_guard, guard, values_more}
pub use Rattle.rel_algebra.proofs.Words.{if_values_cell}

pub removed_means : RemovedMeans
removed_means t S ws ps w h fits o = remove_same t S w fits (fits_even t S ws ps h) o

pub removed_same : RemovedSame
removed_same = remove_same

pub removed_even : RemovedEven
removed_even = remove_even

pub removed_fits : RemovedFits
removed_fits = remove_fits

pub removed_kinds : RemovedKinds
removed_kinds = remove_kinds

pub removed_leaves : RemovedLeaves
removed_leaves = remove_left

pub removed_free : RemovedFree
removed_free = remove_inside

pub renamed_same : RenamedSame
renamed_same = den_renamed

pub region_rule : RegionRule
region_rule = region_gives

pub local_rules : LocalRules
local_rules = record { late = late_rule; keeping = keep_filter; cell = cell_rule }

pub lookup_rules : LookupRules
lookup_rules = record { means = lookup_means; of_chain = lookup_rule }

pub run_once : RunOnce
run_once = record {
  closed = closed_den;
  first_bad = first_bad;
  bad_key = bad_key;
  each_row = meeting_append;
  own_condition = own_condition;
  outer_condition = outer_condition;
  outer_null = outer_null;
  own_null = own_null;
}
