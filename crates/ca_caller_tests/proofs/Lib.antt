pub mod NumberedSites
