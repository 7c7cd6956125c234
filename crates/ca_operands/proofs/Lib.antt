pub mod Lookups
pub mod Noting
pub mod Firsts
pub mod Tags
