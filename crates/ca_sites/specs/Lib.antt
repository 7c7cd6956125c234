pub mod TextSites
pub mod SiteLists
pub mod SiteLaws
