pub mod Closures
pub mod Told
pub mod Loading
pub mod Saving
