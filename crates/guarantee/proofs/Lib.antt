mod Changes
mod Exactness
mod Keeping
mod Plans
mod Serving
pub mod Theorem
mod Within
