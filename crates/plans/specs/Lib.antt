pub mod Periods
pub mod Refusals
