-- The laws that upper crates cite.
pub use Rattle.typing_calls.proofs.Bodies.{typed_calls_stand}
pub use Rattle.typing_calls.proofs.Expressions.{expr-calls, query-calls}
pub use Rattle.typing_calls.proofs.Statements.{statement-calls}
