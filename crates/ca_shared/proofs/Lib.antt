pub mod Ended
pub mod Things
pub mod KeptEffects
pub mod Noting
pub mod Legality
pub mod Appending
pub mod Openings
pub mod Crossing
