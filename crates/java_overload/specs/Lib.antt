pub use Rattle.java_model.specs.Names
pub mod First
