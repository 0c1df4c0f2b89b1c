pub mod Periods
pub mod Repeating
