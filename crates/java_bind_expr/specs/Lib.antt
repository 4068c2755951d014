pub use Rattle.java_model.specs.Bindings
pub mod Around
pub mod IntLiterals
