pub mod Steps
pub mod AnswerLaws
pub mod ChainLaws
