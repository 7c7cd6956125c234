pub mod Changed
pub mod Arguments
pub mod CallFaults
pub mod Numbering
