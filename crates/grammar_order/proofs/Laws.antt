-- The laws on which upper crates stand.
pub use Rattle.grammar_order.proofs.Orders.{create-table-order, create-function-order}
pub use Rattle.grammar_order.proofs.Orders.{create-procedure-order, drop-order, insert-order}
pub use Rattle.grammar_order.proofs.Orders.{update-order, delete-order, query-order, explain-order}
pub use Rattle.grammar_order.proofs.Orders.{call-order, labelled-order, if-order, case-order}
pub use Rattle.grammar_order.proofs.Orders.{set-order, select-into-order, open-order, close-order}
pub use Rattle.grammar_order.proofs.Orders.{fetch-order, signal-order, resignal-order}
pub use Rattle.grammar_order.proofs.Orders.{get-diagnostics-order, leave-order, iterate-order}
pub use Rattle.grammar_order.proofs.Orders.{return-order, block-structure, loop-structure}
pub use Rattle.grammar_order.proofs.Orders.{while-structure, repeat-structure, for-structure}
pub use Rattle.grammar_order.proofs.Orders.{variables-declaration, condition-declaration}
pub use Rattle.grammar_order.proofs.Orders.{cursor-declaration, handler-declaration, block-parts}
pub use Rattle.grammar_order.proofs.Orders.{branch-parts, case-parts, if-parts, labelled-parts}
pub use Rattle.grammar_order.proofs.Orders.{handler-parts, function-parts, procedure-parts}
