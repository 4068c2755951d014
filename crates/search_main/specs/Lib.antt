pub mod Legal
pub mod Accepted
pub mod Words
pub mod Top
pub mod Inner
pub use Rattle.java_model.specs.Texts
