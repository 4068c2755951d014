pub mod Importing
pub mod Packages
pub mod Scopes
