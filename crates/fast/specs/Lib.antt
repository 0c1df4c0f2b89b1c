pub mod Fast
pub mod FastAnswers
