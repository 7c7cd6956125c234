pub mod Outside
pub mod Ports
pub mod Memory
pub mod Host
