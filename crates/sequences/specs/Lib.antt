pub mod Sequences
pub mod Ordering
