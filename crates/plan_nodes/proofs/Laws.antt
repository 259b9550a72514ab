-- What holds of nodes that act row by row, for the crates above.
pub use Rattle.plan_nodes.proofs.Nodes.{each_append, node_is, node_work, nodes_den, nodes_work}
pub use Rattle.plan_nodes.proofs.Nodes.{none_passed, of_layer, over_apply, over_cross, over_group}
pub use Rattle.plan_nodes.proofs.Nodes.{over_outer, over_settle, over_sort}
pub use Rattle.plan_nodes.proofs.MetPairs.{met_within, rows_met, wide_both}
pub use Rattle.plan_nodes.proofs.Paired.{at_place, way_passed}
pub use Rattle.plan_nodes.proofs.Picks.{cell_more}
pub use Rattle.plan_nodes.proofs.Receiving.{received_append, begins_folds, begins_list}
pub use Rattle.plan_nodes.proofs.Receiving.{came_as_list, form_stays, given_whole, group_came}
pub use Rattle.plan_nodes.proofs.Receiving.{list_of, list_received, rows_same}
pub use Rattle.plan_nodes.proofs.Thinning.{all_pairs}
