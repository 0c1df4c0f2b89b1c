pub mod Items
pub mod Format
pub mod Runs
pub mod Steps
pub mod Answers
pub mod Writing
