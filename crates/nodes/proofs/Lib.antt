pub mod Children
pub mod Examples
pub mod Known
pub mod Least
pub mod Together
