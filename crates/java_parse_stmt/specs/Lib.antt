pub use Rattle.java_unit_reading.specs.Reading
pub use Rattle.java_unit_reading.specs.Gives
pub mod Knot
pub use Rattle.java_unit_reading.specs.Bodies
