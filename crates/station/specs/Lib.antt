pub mod Calls
pub mod States
pub mod Tables
