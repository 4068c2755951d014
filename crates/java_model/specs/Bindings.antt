-- The types of expressions, and what calls and creations are bound to (JLS 15).
pub mod Arithmetic
pub mod Conditionals
pub mod Calls
pub mod Chains
pub mod Values
