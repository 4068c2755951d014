-- Reading from left to right: what each production takes, as functions on the tokens that are left.
pub mod Names
pub mod Operators
pub mod Primaries
pub mod Expressions
