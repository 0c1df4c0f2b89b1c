pub mod Schedules
pub mod Planning
