pub mod Reads
pub mod Part
pub mod Written
pub mod Named
