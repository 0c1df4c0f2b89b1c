pub mod Lowest
pub mod Together
