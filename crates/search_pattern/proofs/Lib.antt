pub mod SameNames
pub mod CamelNames
pub mod WildNames
pub mod Spaces
pub mod Splitting
pub mod Separating
