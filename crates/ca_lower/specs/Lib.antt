pub mod Scopes
pub mod Lowered
pub mod Building
pub mod Acts
pub mod Control
pub mod GraphsSoFar
