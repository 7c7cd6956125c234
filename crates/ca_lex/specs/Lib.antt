pub mod Fronts
pub mod Skipped
pub mod Strings
pub mod Steps
pub mod Outcomes
pub mod Words
