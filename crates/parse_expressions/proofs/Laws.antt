-- The laws that other crates' proofs use.
pub use Rattle.parse_expressions.proofs.FirstItem.{after_first, after_first_list}
