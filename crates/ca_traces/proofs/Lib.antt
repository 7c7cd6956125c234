pub mod Cutting
pub mod Numerals
pub mod Parts
pub mod Bytes
pub mod Things
pub mod Lines
pub mod Once
pub mod OneReading
