pub mod Finding
pub mod Writable
pub mod Verbs
pub mod Readings
