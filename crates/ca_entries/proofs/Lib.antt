pub mod Frees
pub mod Giving
pub mod Coming
