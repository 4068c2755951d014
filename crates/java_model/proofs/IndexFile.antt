mod Examples
pub mod Fields
pub mod Tests
pub mod Entries
pub mod Words
pub mod Postings
pub mod Offsets
pub mod Files
pub mod Laws
