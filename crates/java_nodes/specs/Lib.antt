pub use Rattle.java_model.specs.Tree
pub mod Holes
pub mod Laws
pub mod Leading
pub mod Parts
pub mod Seen
