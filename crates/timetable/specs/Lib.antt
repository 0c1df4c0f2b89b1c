pub mod Closed
pub mod Grid
pub mod Meaning
pub mod Windows
