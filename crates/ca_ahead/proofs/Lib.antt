pub mod Ahead
pub mod Growing
pub mod Sources
pub mod Layered
