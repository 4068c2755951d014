pub use Rattle.java_model.specs.Names
pub mod FieldsCalled
pub mod Inheriting
pub mod Members
