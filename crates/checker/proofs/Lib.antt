mod Beginning
pub mod Ending
mod Gathering
pub mod Sorting
mod Steps
