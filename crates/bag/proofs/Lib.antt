pub mod Memory
mod Filling
mod Moves
pub mod Ranking
pub mod Taking
