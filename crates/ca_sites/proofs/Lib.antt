pub mod TextStatements
pub mod NumberedSites
pub mod TypedLoads
pub mod LoadsPlaced
pub mod ActsShown
pub mod StatementsShown
pub mod ProgramsShown
