pub mod Planning
pub mod SiteTables
pub mod Finding
