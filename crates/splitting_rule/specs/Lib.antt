pub mod Answers
pub mod Listed
pub mod Rule
pub mod Sharing
pub mod Steps
pub mod Shown
