pub use Rattle.java_model.specs.Names
