pub mod Rows
pub mod Period
