pub use Rattle.java_model.specs.Matches
pub mod Searches
