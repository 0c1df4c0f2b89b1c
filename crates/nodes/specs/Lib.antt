pub mod Answers
pub mod Finding
pub mod Periods
pub mod Turns
