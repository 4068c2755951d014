pub mod Passed
pub mod BodyLaws
