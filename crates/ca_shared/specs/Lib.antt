pub mod Histories
pub mod Frames
pub mod Refusals
pub mod Legal
pub mod Kept
