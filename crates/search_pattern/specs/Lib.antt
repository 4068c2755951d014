pub use Rattle.java_model.specs.SearchPattern
pub mod Camel
pub mod Params
pub mod Wild
