pub mod Judgements
pub mod Telling
