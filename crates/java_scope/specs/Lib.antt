pub use Rattle.java_model.specs.Scopes
pub mod Around
pub mod Held
pub mod Linked
pub mod Spots
pub mod Units
