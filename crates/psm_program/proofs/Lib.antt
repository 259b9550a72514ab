pub mod LowerLaws
pub mod RunLemmas
pub mod Runs
pub mod ProgramLemmas
pub mod OneRun
