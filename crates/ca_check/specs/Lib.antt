pub mod Verdicts
pub mod Projections
pub mod Lifts
pub mod Ways
