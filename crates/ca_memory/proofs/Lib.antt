pub mod Tables
pub mod Counts
pub mod OwnerTables
pub mod Near
pub mod Globals
pub mod Hiding
pub mod Lending
