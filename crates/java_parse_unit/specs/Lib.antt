pub use Rattle.java_unit_reading.specs.Reading
pub use Rattle.java_unit_reading.specs.ReadingLaws
pub mod Callees
pub mod Ends
pub mod Parsed
