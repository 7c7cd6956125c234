pub mod Passing
pub mod Following
pub mod Onward
pub mod Answering
