pub mod Calls
pub mod Count
pub mod Promises
pub mod Refusals
pub mod Stores
