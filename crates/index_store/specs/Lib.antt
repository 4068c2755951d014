pub mod Kept
pub mod Table
pub mod Stores
pub mod Causes
pub mod Opened
