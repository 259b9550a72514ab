-- The laws that other crates' proofs use.
pub use Rattle.grammar_ends.proofs.Ends.{goes_on_from, ends_in_semicolon, not_after_end}
pub use Rattle.grammar_ends.proofs.Ends.{begins_elsewhere}
