pub mod Functions
pub mod Shown
pub mod Formats
pub mod Arguments
pub mod Updates
