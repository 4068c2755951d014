pub use Rattle.java_model.specs.Texts
pub mod Readings
pub mod Holes
pub mod Outlining
pub mod Documents
