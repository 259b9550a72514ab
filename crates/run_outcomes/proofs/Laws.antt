-- What holds of outcomes and of choices, for the crates above.
pub use Rattle.run_outcomes.proofs.Choices.{scopes_by-append}
