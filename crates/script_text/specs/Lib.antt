pub mod Scripts
pub mod Words
pub mod Spelling
pub mod Replies
pub mod Views
pub mod Lines
pub mod Inner
