pub mod Guarantee
pub mod Nexts
pub mod Peaks
pub mod Periods
pub mod Serving
pub mod Tops
mod Turns
