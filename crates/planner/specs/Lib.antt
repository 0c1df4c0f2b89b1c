pub mod Dealing
pub mod Pagoda
pub mod PagodaAnswers
