pub mod Behind
pub mod Filling
pub mod ReadGraphs
pub mod OfCode
