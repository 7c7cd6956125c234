pub mod Machines
pub mod Moves
pub mod Coming
pub mod Choices
pub mod Runs
