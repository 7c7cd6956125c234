pub mod LockSites
pub mod Answering
