-- The laws on which upper crates stand.
pub use Rattle.bind_kinds.proofs.Parts.{of_literal, of_column, of_variable, of_chain, of_call}
pub use Rattle.bind_kinds.proofs.Parts.{of_single, of_exists, of_in, of_other, of_and, left_all}
pub use Rattle.bind_kinds.proofs.Parts.{left_lighter, found_one, lighter}
pub use Rattle.bind_kinds.proofs.Steps.{turn-more, link-more, link-none, plus_of_one}
pub use Rattle.bind_kinds.proofs.Steps.{plus_of_others, argument_of_none, argument_of_some}
