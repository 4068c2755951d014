-- Patterns of searches (JDT `SearchPattern`): how their text is read, and how their names are compared.
pub mod Texts
pub mod NameMatch
pub mod Parts
