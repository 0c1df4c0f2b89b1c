pub mod Spanning
pub mod Exits
