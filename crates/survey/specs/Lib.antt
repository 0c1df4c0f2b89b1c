pub mod Cells
pub mod Guarantees
pub mod Refusals
pub mod Surveys
