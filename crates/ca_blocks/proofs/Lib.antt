pub mod Grown
pub mod Telling
