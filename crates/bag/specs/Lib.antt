pub mod Bags
pub mod Draining
pub mod Findings
pub mod Orders
pub mod Places
