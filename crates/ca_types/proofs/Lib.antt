pub mod Knowing
pub mod Counting
pub mod Counted
pub mod Twice
pub mod Holding
pub mod Declaring
pub mod Begun
