pub mod Channels
pub mod PagodaPlans
pub mod PagodaSounds
mod Questions
mod Table
