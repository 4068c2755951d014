-- What is in scope at a place of a unit, and what names mean there (JLS 6.3, 6.5).
pub mod Contexts
pub mod NameKinds
pub mod TypeNames
pub mod Scoping
