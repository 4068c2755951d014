pub mod Cells
pub mod Recovered
