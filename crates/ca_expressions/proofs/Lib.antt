pub mod Following
pub mod Counts
pub mod Operands
