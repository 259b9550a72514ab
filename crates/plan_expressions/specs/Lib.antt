pub mod Drafts
pub mod Scopes
pub mod Emission
pub mod Merging
pub mod Words
pub mod Asking
