pub mod Standing
pub mod Lists
pub mod Stages
pub mod Faults
pub mod Codes
pub mod Unique
pub mod Writing
