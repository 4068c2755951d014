pub use Rattle.java_model.specs.Names
pub use Rattle.java_model.specs.Scopes
pub mod Kinds
pub mod Occasions
pub mod Resolving
