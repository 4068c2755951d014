pub use Rattle.java_model.specs.Names
pub mod Access
pub mod Asking
pub mod Keeping
pub mod Ranking
pub mod Reaching
pub mod Walking
