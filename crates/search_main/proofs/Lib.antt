pub mod Orders
pub mod OneOutput
pub mod Endings
pub mod Documents
pub mod Scanning
pub mod Answering
pub mod Examples
