pub use Rattle.jx_disk.specs.Disk
pub mod Parts
pub mod Cells
pub mod Readiness
pub mod Loaded
pub mod Reads
