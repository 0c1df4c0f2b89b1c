pub mod Guarantee
pub mod Plans
pub mod Spells
