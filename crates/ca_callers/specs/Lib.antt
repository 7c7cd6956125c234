pub mod Callers
pub mod Runs
