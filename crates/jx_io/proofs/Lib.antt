mod StreamExamples
pub mod StreamLaws
