pub mod Items
pub mod LoopPoints
pub mod SmallCases
