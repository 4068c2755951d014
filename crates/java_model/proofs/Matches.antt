-- Examples and laws of what searches find.
mod FitExamples
mod KeyExamples
pub mod KeyFields
pub mod AdmitLaws
pub mod DeclarationLaws
