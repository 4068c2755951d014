pub use Rattle.java_model.specs.Occurrences
pub mod Roles
pub mod Runs
pub mod Lasts
pub mod Walking
