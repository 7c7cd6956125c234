pub mod Refusals
pub mod Knows
pub mod Defined
pub mod Holds
pub mod Counts
pub mod Whole
