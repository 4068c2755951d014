-- Proofs on the grammar of Java.
pub mod Yield
pub mod Shapes
pub mod Layers
pub mod Examples
pub mod Heads
pub mod NonEmpty
pub mod YieldStmt
pub mod LayersStmt
pub mod Spells
pub mod Units
pub mod Ifs
pub mod Targets
pub mod Refusals
mod Declared
pub mod Reads
pub mod Braces
pub mod Balanced
pub mod BalancedStmt
pub mod Kept
pub mod BalancedUnit
pub mod Runs
pub mod Ends
pub mod Readings
