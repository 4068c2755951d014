-- The places of a document at which something is declared or referred to.
pub mod References
pub mod Expressions
pub mod Declarations
pub mod Occurrences
pub mod Laws
