-- The laws that upper crates cite.
pub use Rattle.plan_expressions.proofs.Checks.{guarded-values}
pub use Rattle.plan_expressions.proofs.Joins.{on_each-joined, width-joined, joined-joined}
pub use Rattle.plan_expressions.proofs.Joins.{joined-nothing}
pub use Rattle.plan_expressions.proofs.Lists.{rest, drop-next, put-none, put-append}
pub use Rattle.plan_expressions.proofs.Lists.{scalars-counted, map-last, turned_last}
pub use Rattle.plan_expressions.proofs.Moving.{merged_call, if_ok}
pub use Rattle.plan_expressions.proofs.Nodes.{plain_unit}
pub use Rattle.plan_expressions.proofs.Places.{zero_is, zero_not}
pub use Rattle.plan_expressions.proofs.Views.{length-map, scalar_of-Constant, scalar_of-Column}
pub use Rattle.plan_expressions.proofs.Views.{scalar_of-Argument, scalar_of-Chain, scalar_of-Listed}
pub use Rattle.plan_expressions.proofs.Views.{link_of-parts}
