pub mod Computed
pub mod Divisors
