pub mod Steps
pub mod Words
pub mod Nested
pub mod Statements
pub mod Members
pub mod Units
pub mod Expressions
