pub mod All
pub mod Common
pub mod Dividing
pub mod Rounds
