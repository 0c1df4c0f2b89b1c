pub mod Bytes
pub mod Places
pub mod Faults
pub mod Ranges
