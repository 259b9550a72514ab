-- A statement without faults is bound to a well typed one, where what stands around has what is in
-- sight.
use Rattle.std.proofs.Common.{◌≡◌, true, []}
use Rattle.statement_trees.specs.declared.statement.Stmt.{Stmt}
use Rattle.typing_trees.specs.Statements.{Inside, is_typed}
use Rattle.bind_simple.specs.Places.{Surroundings}
use Rattle.bind_routines.specs.Statements.{judge_stmt}
use Rattle.grammar_order.specs.Ordered.{is_ordered}
use Rattle.typing_statements.proofs.Induction.{statement-shown}
pub use Rattle.typing_statements.proofs.Calls.{call-typed}
pub use Rattle.typing_statements.proofs.Layers.{return-layer}
pub use Rattle.typing_statements.proofs.Stands.{Stands, CursorsOf}
pub use Rattle.typing_statements.proofs.Values.{value-typed}
pub use Rattle.typing_statements.proofs.Writing.{insert-typed, update-typed, delete-typed}

pub statement_typed : (s : Stmt) (p : Surroundings) (i : Inside) → is_ordered s ≡ true →
    (judge_stmt s p).faults ≡ [] → Stands p i → is_typed (judge_stmt s p).value i ≡ true
statement_typed s p i o f stands = statement-shown s o p f i stands
