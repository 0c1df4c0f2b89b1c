pub mod Surveyed
pub mod Verdict
pub mod Worked
