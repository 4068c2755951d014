pub use Rattle.java_model.specs.Names
pub mod Inheriting
pub mod KnownTypes
pub mod Members
pub mod Visibilities
pub mod Walks
