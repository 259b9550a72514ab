-- The laws that other crates' proofs use.
pub use Rattle.sql_lex.proofs.Lists.{one_lexing, no_other_lexing}
