pub use Rattle.java_expr_reading.specs.Shapes
pub use Rattle.java_expr_reading.specs.Marking
pub use Rattle.java_expr_reading.specs.Input
pub use Rattle.java_expr_reading.specs.Reading
pub use Rattle.java_expr_reading.specs.Answers
pub use Rattle.java_expr_reading.specs.ReadingLaws
pub mod Nests
pub mod Chains
